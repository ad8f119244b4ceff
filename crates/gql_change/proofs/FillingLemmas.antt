-- Properties put in order from the last to the first.
use Rattle.std.proofs.Common.{◌≡◌, ℕ, List, [], ◌∷◌, ◌++◌, map, refl, ap, ◌∙◌}
use Rattle.std.proofs.lemmas.List.{map-append}
use Rattle.gql_values3.specs.Datum.{Datum}
use Rattle.gql_values3.specs.Meaning.{datum_of}
use Rattle.gql_values3.specs.declared.value.Value.{Value}
use Rattle.gql_change.specs.Machinery.Roles.{pair_of}
use Rattle.gql_change.specs.Storing.{PropertyList, with_property, property_set}

-- the properties put among those that are in order already
abbrev pub put_among : PropertyList → PropertyList → PropertyList
put_among [] done = done
put_among (p ∷ ps) done = with_property p.0 p.1 (put_among ps done)

put_last : (ps : PropertyList) (x : List ℕ) (d : Datum) (done : PropertyList) → put_among (ps ++ (x, d) ∷ []) done ≡ put_among ps (with_property x d done)
put_last [] x d done = refl
put_last (p ∷ ps) x d done = ap (with_property p.0 p.1) (put_last ps x d done)

pub put_all : (ps : PropertyList) → put_among ps [] ≡ property_set ps
put_all [] = refl
put_all (p ∷ ps) = ap (with_property p.0 p.1) (put_all ps)

pub one_put : (left rest : List (List ℕ × Value)) (x : List ℕ) (v : Value) (done : PropertyList) → left ≡ rest ++ (x, v) ∷ []
    → put_among (map pair_of left) done ≡ put_among (map pair_of rest) (with_property x (datum_of v) done)
one_put left rest x v done h =
    ap (λ (l : List (List ℕ × Value)). put_among (map pair_of l) done) h
    ∙ ap (λ (l : PropertyList). put_among l done) (map-append pair_of rest ((x, v) ∷ []))
    ∙ put_last (map pair_of rest) x (datum_of v) done
