-- What the codes of the trees are made of.
use Rattle.std.specs.Prelude.{◌≡◌, ℕ, List, nat_eq, false}
use Rattle.std.specs.Coded.{Coded, coded_ℕ, coded_list}
use Rattle.std.proofs.Common.{ap}
use Rattle.std.proofs.lemmas.Bool.{eqb-false}
use base.Stored.{Gv, gnil, gnum, gcons}

-- the code of a text
abbrev pub coded_bytes : Coded (List ℕ)
coded_bytes = coded_list coded_ℕ

-- the parts of a code that is a pair
abbrev pub head : Gv → Gv
head gnil = gnil
head (gnum n) = gnil
head (gcons a b) = a

abbrev pub tail : Gv → Gv
tail gnil = gnil
tail (gnum n) = gnil
tail (gcons a b) = b

-- the number of a constructor, which stands before the codes of its parts
abbrev pub tag : Gv → ℕ
tag g = number_in (head g)
  where
    number_in : Gv → ℕ
    number_in (gnum n) = n
    number_in _ = 0

-- 0 for the end of a list
abbrev pub shape : Gv → ℕ
shape (gcons a b) = 1
shape _ = 0

-- two codes that a test tells apart differ
pub apart : (test : Gv → ℕ) {a b : Gv} → a ≡ b → nat_eq (test a) (test b) ≡ false → ⊥
apart test e different = eqb-false _ _ different (ap test e)
