-- The values of the database as plain data.
use Rattle.std.specs.Prelude.{◌≡◌, ◌≢◌, ℕ, ℤ, Bool, true, false, Option, Some, None, List, [], ◌∷◌, refl}
use Rattle.std.specs.Coded.{Coded, code_by, coded×, coded_ℕ, coded_ℤ, coded_bool, coded_list}
use Rattle.std.proofs.Common.{ap}
use base.Stored.{Gv, gnil, gnum, gcons}

-- a path: its first node, and for each step the edge and the node that it leads to
pub record PathData : Type 0 where
  pub start : ℕ
  pub steps : List (ℕ × ℕ)

-- a value of the database, and the items of a list; nodes and edges are their numbers
mutual
  pub data Datum : Type 0 where
    null : Datum
    boolean : Bool → Datum
    integer : ℤ → Datum
    text : List ℕ → Datum
    list : Data → Datum
    node : ℕ → Datum
    edge : ℕ → Datum
    path : PathData → Datum

  pub data Data : Type 0 where
    no_data : Data
    more_data : Datum → Data → Data

-- the items of a list
abbrev pub items_of : Data → List Datum
items_of no_data = []
items_of (more_data d ds) = d ∷ items_of ds

-- the list with these items
abbrev pub data_of : List Datum → Data
data_of [] = no_data
data_of (d ∷ ds) = more_data d (data_of ds)

-- NULL, the value that is missing
abbrev pub is_null : Datum → Bool
is_null null = true
is_null _ = false

-- what is missing is NULL
abbrev pub or_null : Option Datum → Datum
or_null None = null
or_null (Some d) = d

-- How the logic tells the data apart.
abbrev pub coded_path : Coded PathData
coded_path =
    code_by (ℕ × List (ℕ × ℕ)) (coded× coded_ℕ (coded_list (coded× coded_ℕ coded_ℕ)))
    (λ w. (w.start, w.steps)) (λ p. record { start = p.0; steps = p.1 }) (λ _. refl)

-- a text by its bytes
abbrev coded_bytes : Coded (List ℕ)
coded_bytes = coded_list coded_ℕ

-- the first part of a code
abbrev head : Gv → Gv
head gnil = gnil
head (gnum n) = gnil
head (gcons a b) = a

-- the rest of a code
abbrev tail : Gv → Gv
tail gnil = gnil
tail (gnum n) = gnil
tail (gcons a b) = b

apart : (m n : ℕ) {a b : Gv} → gcons (gnum m) a ≡ gcons (gnum n) b → m ≢ n → ⊥
apart m n p other = other (cc)

abbrev mutual
  pub datum_code : Datum → Gv
  datum_code null = gcons (gnum 0) gnil
  datum_code (boolean b) = gcons (gnum 1) (coded_bool.code b)
  datum_code (integer z) = gcons (gnum 2) (coded_ℤ.code z)
  datum_code (text t) = gcons (gnum 3) (coded_bytes.code t)
  datum_code (list ds) = gcons (gnum 4) (data_code ds)
  datum_code (node n) = gcons (gnum 5) (coded_ℕ.code n)
  datum_code (edge n) = gcons (gnum 6) (coded_ℕ.code n)
  datum_code (path w) = gcons (gnum 7) (coded_path.code w)

  pub data_code : Data → Gv
  data_code no_data = gnil
  data_code (more_data d ds) = gcons (datum_code d) (data_code ds)

mutual
  pub datum_inj : (x y : Datum) → datum_code x ≡ datum_code y → x ≡ y
  datum_inj null null p = refl
  datum_inj null _ p = absurd (cc)
  datum_inj (boolean a) (boolean b) p = ap boolean (coded_bool.inj a b (ap (λ g. tail g) p))
  datum_inj (boolean a) _ p = absurd (cc)
  datum_inj (integer a) (integer b) p = ap integer (coded_ℤ.inj a b (ap (λ g. tail g) p))
  datum_inj (integer a) _ p = absurd (cc)
  datum_inj (text a) (text b) p = ap text (coded_bytes.inj a b (ap (λ g. tail g) p))
  datum_inj (text a) _ p = absurd (cc)
  datum_inj (list a) (list b) p = ap list (data_inj a b (ap (λ g. tail g) p))
  datum_inj (list a) _ p = absurd (cc)
  datum_inj (node a) (node b) p = ap node (coded_ℕ.inj a b (ap (λ g. tail g) p))
  datum_inj (node a) _ p = absurd (cc)
  datum_inj (edge a) (edge b) p = ap edge (coded_ℕ.inj a b (ap (λ g. tail g) p))
  datum_inj (edge a) _ p = absurd (cc)
  datum_inj (path a) (path b) p = ap path (coded_path.inj a b (ap (λ g. tail g) p))
  datum_inj (path a) _ p = absurd (cc)

  pub data_inj : (x y : Data) → data_code x ≡ data_code y → x ≡ y
  data_inj no_data no_data p = refl
  data_inj no_data _ p = absurd (cc)
  data_inj (more_data a more) (more_data b rest) p =
      λ i. more_data (datum_inj a b (ap (λ g. head g) p) i) (data_inj more rest (ap (λ g. tail g) p) i)
  data_inj (more_data a more) _ p = absurd (cc)

-- how the logic tells values apart: each has a code, and no two have the same
abbrev pub coded_datum : Coded Datum
coded_datum = record { code = datum_code; inj = datum_inj }
