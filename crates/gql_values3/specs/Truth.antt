-- Three-valued logic: the truths, and AND, OR, XOR and NOT over them.
use Rattle.std.specs.Prelude.{ℕ, Bool, true, false}
use Rattle.gql_values3.specs.declared.truth.Truth.{Truth}
use Rattle.gql_values3.specs.declared.truth.Truth.TheVariants as truth

-- False < Unknown < True
abbrev pub rank_of : Truth → ℕ
rank_of truth.False = 0
rank_of truth.Unknown = 1
rank_of truth.True = 2

-- NOT swaps True and False
abbrev pub negated : Truth → Truth
negated truth.False = truth.True
negated truth.Unknown = truth.Unknown
negated truth.True = truth.False

-- AND is the lesser
abbrev pub both : Truth → Truth → Truth
both truth.False b = truth.False
both truth.Unknown truth.False = truth.False
both truth.Unknown truth.Unknown = truth.Unknown
both truth.Unknown truth.True = truth.Unknown
both truth.True b = b

-- OR is the greater
abbrev pub either : Truth → Truth → Truth
either truth.True b = truth.True
either truth.Unknown truth.True = truth.True
either truth.Unknown truth.Unknown = truth.Unknown
either truth.Unknown truth.False = truth.Unknown
either truth.False b = b

-- XOR is Unknown where a side is, else whether the sides differ
abbrev pub one_of : Truth → Truth → Truth
one_of truth.Unknown b = truth.Unknown
one_of a truth.Unknown = truth.Unknown
one_of truth.False truth.False = truth.False
one_of truth.False truth.True = truth.True
one_of truth.True truth.False = truth.True
one_of truth.True truth.True = truth.False

-- a test as a truth
abbrev pub truth_of : Bool → Truth
truth_of true = truth.True
truth_of false = truth.False
