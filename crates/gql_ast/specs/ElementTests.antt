-- What is asked of elements: properties, labels, direction and ends. NULL comes first, then a wrong kind, then a
-- deleted element, each rule asked of both operands, where there are two, before the next.
use Rattle.std.specs.Prelude.{ℕ, Bool, true, false, not, ◌&&◌, ◌||◌, ◌==◌, List, [], ◌∷◌, Option, Some, None, Result, Ok, Err}
use Rattle.std.specs.List.{list_any}
use Rattle.gql_values3.specs.Datum.{Datum, null, or_null, node, edge}
use Rattle.gql_values3.specs.Texts.{same_text}
use Rattle.gql_values3.specs.PropertyGraph.{PropertyGraph}
use Rattle.gql_values3.specs.Lookup.{has_element, ends_of, labels_of, property_of}
use Rattle.gql_values3.specs.declared.element.Elem.{Elem}
use Rattle.gql_values3.specs.declared.element.Elem.TheVariants as elem
use Rattle.gql_values3.specs.declared.element.Ends.{Ends}
use Rattle.gql_values3.specs.declared.element.Ends.TheVariants.{Directed, Undirected}
use Rattle.gql_ast.specs.Label.{Label, Labels, name, wildcard, paren, negation, conjunction, disjunction, no_labels, more_labels}
use Rattle.gql_ast.specs.declared.words.EdgeEnd.{EdgeEnd}
use Rattle.gql_ast.specs.declared.words.EdgeEnd.TheVariants as end
use Rattle.gql_ast.specs.declared.fault.DataFault.{DataFault}
use Rattle.gql_ast.specs.declared.fault.DataFault.TheVariants as fault
use Rattle.gql_ast.specs.Faults.{◌>>=◌}

-- the element, or the fault of asking for one that isn't in the graph, so was deleted
abbrev pub undeleted : PropertyGraph → Elem → Result Elem DataFault
undeleted g e = alive (has_element g e)
  where
    alive : Bool → Result Elem DataFault
    alive true = Ok e
    alive false = Err fault.Deleted

-- an element that is there; None is NULL
abbrev pub element_in : PropertyGraph → Datum → Result (Option Elem) DataFault
element_in g null = Ok None
element_in g (node n) = undeleted g (elem.Node (record { 0 = n })) >>= λ e. Ok (Some e)
element_in g (edge n) = undeleted g (elem.Edge (record { 0 = n })) >>= λ e. Ok (Some e)
element_in g _ = Err fault.WrongKind

-- `x.p`; a property that isn't there is NULL
abbrev pub property_value : PropertyGraph → Datum → List ℕ → Result Datum DataFault
property_value g d p = element_in g d >>= of_element
  where
    of_element : Option Elem → Result Datum DataFault
    of_element None = Ok null
    of_element (Some e) = Ok (or_null (property_of g e p))

-- the labels satisfy the label expression
abbrev mutual
  pub has_labels : List (List ℕ) → Label → Bool
  has_labels ls (name l) = list_any (same_text l) ls
  has_labels [] wildcard = false
  has_labels (l ∷ ls) wildcard = true
  has_labels ls (paren e) = has_labels ls e
  has_labels ls (negation e) = not (has_labels ls e)
  has_labels ls (conjunction e es) = has_labels ls e && has_all_labels ls es
  has_labels ls (disjunction e es) = has_labels ls e || has_some_labels ls es

  pub has_all_labels : List (List ℕ) → Labels → Bool
  has_all_labels ls no_labels = true
  has_all_labels ls (more_labels e es) = has_labels ls e && has_all_labels ls es

  pub has_some_labels : List (List ℕ) → Labels → Bool
  has_some_labels ls no_labels = false
  has_some_labels ls (more_labels e es) = has_labels ls e || has_some_labels ls es

-- IS LABELED; None is NULL
abbrev pub labeled_value : PropertyGraph → Datum → Label → Result (Option Bool) DataFault
labeled_value g d l = element_in g d >>= of_element
  where
    of_element : Option Elem → Result (Option Bool) DataFault
    of_element None = Ok None
    of_element (Some e) = Ok (Some (has_labels (labels_of g e) l))

-- the edge is directed
abbrev pub is_directed : Option Ends → Bool
is_directed None = false
is_directed (Some (Directed s t)) = true
is_directed (Some (Undirected l h)) = false

-- IS DIRECTED; None is NULL
abbrev pub directed_value : PropertyGraph → Datum → Result (Option Bool) DataFault
directed_value g null = Ok None
directed_value g (edge n) = undeleted g (elem.Edge (record { 0 = n })) >>= λ _. Ok (Some (is_directed (ends_of g (record { 0 = n }))))
directed_value g _ = Err fault.WrongKind

-- the node is that end of the edge; an undirected edge has no such ends
abbrev pub is_end : EdgeEnd → ℕ → Option Ends → Bool
is_end which n None = false
is_end end.Source n (Some (Directed s t)) = s.0 == n
is_end end.Destination n (Some (Directed s t)) = t.0 == n
is_end which n (Some (Undirected l h)) = false

-- IS SOURCE OF and IS DESTINATION OF; None is NULL
abbrev pub end_value : PropertyGraph → EdgeEnd → Datum → Datum → Result (Option Bool) DataFault
end_value g which null e = Ok None
end_value g which a null = Ok None
end_value g which (node n) (edge e) =
    undeleted g (elem.Node (record { 0 = n })) >>= λ _. undeleted g (elem.Edge (record { 0 = e })) >>= λ _.
    Ok (Some (is_end which n (ends_of g (record { 0 = e }))))
end_value g which a e = Err fault.WrongKind
