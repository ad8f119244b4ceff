-- Properties as the code has them, pairs of a text and a value, and what they mean.
use Rattle.std.proofs.Common.{◌≡◌, ℕ, Bool, ◌&&◌, List, [], ◌∷◌, map, refl, ap}
use Rattle.std.specs.List.{list_all}
use Rattle.gql_values3.specs.Datum.{Datum}
use Rattle.gql_values3.specs.Meaning.{datum_of}
use Rattle.gql_values3.specs.Texts.{texts_ascend}
use Rattle.gql_values3.specs.PropertyGraph.{is_property, are_properties}
use Rattle.gql_values3.specs.declared.value.Value.{Value}
use Rattle.gql_graph.specs.Machinery.Shown.{shown}

-- the meaning keeps the names
pub names-shown : (xs : List (List ℕ × Value)) → map (λ (p : List ℕ × Datum). p.0) (map shown xs) ≡ map (λ (p : List ℕ × Value). p.0) xs
names-shown [] = refl
names-shown (x ∷ xs) = ap (λ ks. x.0 ∷ ks) (names-shown xs)

-- a test of each mapped item is one of each item
pub list_all-map : {A B : Type 0} (p : B → Bool) (f : A → B) (xs : List A) → list_all p (map f xs) ≡ list_all (λ x. p (f x)) xs
list_all-map p f [] = refl
list_all-map p f (x ∷ xs) = ap (λ b. p (f x) && b) (list_all-map p f xs)

-- the two tests of properties, on the pairs of the code
pub are_properties-shown : (xs : List (List ℕ × Value)) → are_properties (map shown xs) ≡ (texts_ascend (map (λ (p : List ℕ × Value). p.0) xs) && list_all (λ (p : List ℕ × Value). is_property (datum_of p.1)) xs)
are_properties-shown xs = λ i. texts_ascend (names-shown xs i) && list_all-map (λ (p : List ℕ × Datum). is_property p.1) shown xs i
