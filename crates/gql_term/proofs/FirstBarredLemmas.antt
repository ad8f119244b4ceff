-- The first reference to a barred name in several parts.
use Rattle.std.proofs.Common.{◌≡◌, ℕ, ◌+◌, ◌<◌, Bool, List, [], ◌∷◌, ◌++◌, map, take, drop, get_or, length, Option, Some, None, refl, sym, ap, ◌∙◌, arith}
use Rattle.std.specs.Option.{option_or}
use Rattle.std.proofs.lemmas.Grind.{common_steps}
use Rattle.std.proofs.lemmas.List.{map-append}
use Rattle.gql_norm.specs.NormalPattern.{Part, Union, Alt, in_a_row, side_by_side, sides_of}
use Rattle.gql_norm.specs.NormalData.{part_data}
use Rattle.gql_norm.specs.declared.part.Part.{Part as CodePart}
use Rattle.gql_term.specs.Machinery.OpenReferences.{Barred, barred_behind, barred_behind_all, first_barred, first_barred_side, first_barred_row, first_barred_beside}
use Rattle.gql_term.proofs.DeclaringLemmas.{barred_behind_last}

or_nothing : (o : Option (List ℕ)) → o ≡ option_or o None
or_nothing None = refl
or_nothing (Some y) = refl

in_row : (p : Part) (ps : List Part) (safe : Bool) (barred : Barred) → first_barred (in_a_row p ps) safe barred ≡ first_barred_row (p ∷ ps) safe barred
in_row p [] safe barred = or_nothing (first_barred p safe barred)
in_row p (r ∷ rs) safe barred = ap (option_or (first_barred p safe barred)) (in_row r rs safe (barred_behind barred safe p))

in_sides : (p : Part) (ps : List Part) (safe : Bool) (barred : Barred) → first_barred (side_by_side p ps) safe barred ≡ first_barred_beside (p ∷ ps) safe barred
in_sides p [] safe barred = or_nothing (first_barred p safe barred)
in_sides p (r ∷ rs) safe barred = ap (option_or (first_barred p safe barred)) (in_sides r rs safe barred)

told : (ps : List Part) (safe : Bool) (barred : Barred) → first_barred_side (sides_of ps) safe barred ≡ first_barred_beside ps safe barred
told [] safe barred = refl
told (p ∷ ps) safe barred = ap (option_or (first_barred p safe barred)) (told ps safe barred)

pub behind_barred : (p : Part) (ps : List Part) (safe : Bool) (barred : Barred)
    → first_barred (in_a_row p ps) safe barred ≡ option_or (first_barred p safe barred) (first_barred_row ps safe (barred_behind barred safe p))
behind_barred p ps safe barred = in_row p ps safe barred

pub beside_barred : (p r : Part) (rs : List Part) (safe : Bool) (barred : Barred)
    → first_barred (Union p (side_by_side r rs)) safe barred ≡ option_or (first_barred p safe barred) (option_or (first_barred r safe barred) (first_barred_beside rs safe barred))
beside_barred p r rs safe barred = in_sides p (r ∷ rs) safe barred

pub told_barred : (ps : List Part) (safe : Bool) (barred : Barred) → first_barred (Alt (sides_of ps)) safe barred ≡ first_barred_beside ps safe barred
told_barred ps safe barred = told ps safe barred

-- a part more in a row, whose parts in front are those before it
pub row_step : (barred : Barred) (safe : Bool) (parts : List CodePart) (i : ℕ) (p : CodePart) → i < length parts → p ≡ get_or parts i p
    → first_barred_row (map part_data (drop i parts)) safe (barred_behind_all barred safe (map part_data (take i parts)))
    ≡ option_or (first_barred (part_data p) safe (barred_behind_all barred safe (map part_data (take i parts))))
    (first_barred_row (map part_data (drop (i + 1) parts)) safe (barred_behind_all barred safe (map part_data (take (i + 1) parts))))
row_step barred safe parts i p h k =
    ap (λ ps. first_barred_row (map part_data ps) safe (barred_behind_all barred safe (map part_data (take i parts)))) (dropped parts i p h k)
    ∙ ap (λ b. option_or (first_barred (part_data p) safe (barred_behind_all barred safe (map part_data (take i parts)))) (first_barred_row (map part_data (drop (i + 1) parts)) safe b))
    (sym (ap (λ ps. barred_behind_all barred safe (map part_data ps)) (taken parts i p h k)
    ∙ ap (barred_behind_all barred safe) (map-append part_data (take i parts) (p ∷ []))
    ∙ barred_behind_last barred safe (map part_data (take i parts)) (part_data p)))
  where
    dropped : (parts : List CodePart) (i : ℕ) (p : CodePart) → i < length parts → p ≡ get_or parts i p → drop i parts ≡ p ∷ drop (i + 1) parts
    dropped parts i p h k = grind (arith, common_steps)

    taken : (parts : List CodePart) (i : ℕ) (p : CodePart) → i < length parts → p ≡ get_or parts i p → take (i + 1) parts ≡ take i parts ++ p ∷ []
    taken parts i p h k = grind (arith, common_steps)
