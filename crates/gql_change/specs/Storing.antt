-- What elements keep: labels and properties, each list in order by bytes and each name once.
use Rattle.std.specs.Prelude.{ℕ, not, List, [], ◌∷◌, filter, Result, Ok, Err, if◌then◌else◌}
use Rattle.std.specs.declared.cmp.Ordering.{Ordering}
use Rattle.std.specs.declared.cmp.Ordering.TheVariants.{Less, Equal, Greater}
use Rattle.std.specs.Ordering.{nat_cmp}
use Rattle.std.specs.Cmp.Lexicographic.{slice_cmp}
use Rattle.gql_values3.specs.Datum.{Datum, null}
use Rattle.gql_values3.specs.Texts.{same_text}
use Rattle.gql_values3.specs.PropertyGraph.{is_storable}
use Rattle.gql_ast.specs.declared.fault.DataFault.{DataFault}
use Rattle.gql_ast.specs.declared.fault.DataFault.TheVariants as fault

-- the properties of an element: names and values
abbrev pub PropertyList : Type 0
PropertyList = List (List ℕ × Datum)

-- storing an element or a path, alone or inside a list, is a fault
abbrev pub stored : Datum → Result Datum DataFault
stored d = if is_storable d 64 then Ok d else Err fault.WrongKind

-- the part that an order asks for
abbrev pub by_order : {A : Type 0} → Ordering → A → A → A → A
by_order Less a b c = a
by_order Equal a b c = b
by_order Greater a b c = c

-- a property among others in order, in the place of one of its name
abbrev pub put_property : List ℕ → Datum → PropertyList → PropertyList
put_property x d [] = (x, d) ∷ []
put_property x d (p ∷ ps) = by_order (slice_cmp nat_cmp x p.0) ((x, d) ∷ p ∷ ps) ((x, d) ∷ ps) (p ∷ put_property x d ps)

-- the properties but the one of this name
abbrev pub without_property : List ℕ → PropertyList → PropertyList
without_property x ps = filter (λ (p : List ℕ × Datum). not (same_text x p.0)) ps

-- NULL takes the property away
abbrev pub with_property : List ℕ → Datum → PropertyList → PropertyList
with_property x null ps = without_property x ps
with_property x d ps = put_property x d ps

-- a label among others in order, unless it is there
abbrev pub put_label : List ℕ → List (List ℕ) → List (List ℕ)
put_label l [] = l ∷ []
put_label l (k ∷ ks) = by_order (slice_cmp nat_cmp l k) (l ∷ k ∷ ks) (k ∷ ks) (k ∷ put_label l ks)

-- the labels but this one
abbrev pub without_label : List ℕ → List (List ℕ) → List (List ℕ)
without_label l ls = filter (λ k. not (same_text l k)) ls

-- a set of labels in order, each once
abbrev pub label_set : List (List ℕ) → List (List ℕ)
label_set [] = []
label_set (l ∷ ls) = put_label l (label_set ls)

-- properties in order; a name whose value is NULL makes none
abbrev pub property_set : PropertyList → PropertyList
property_set [] = []
property_set (p ∷ ps) = with_property p.0 p.1 (property_set ps)
