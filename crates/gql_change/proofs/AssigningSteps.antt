-- What SET and REMOVE store: a value is told by its meaning, and one that may be stored is set.
use Rattle.std.proofs.Common.{◌≡◌, ℕ, Bool, true, cond, Option, Some, List, [], ◌∷◌, ◌++◌, sym, ap, ◌∙◌, append_assoc, append-nil, Result, Ok, Err}
use Rattle.std.specs.List.{flat_map}
use Rattle.gql_values3.specs.Datum.{Datum}
use Rattle.gql_values3.specs.Meaning.{datum_of}
use Rattle.gql_values3.specs.PropertyGraph.{PropertyGraph, is_storable}
use Rattle.gql_values3.specs.declared.element.Elem.{Elem}
use Rattle.gql_values3.specs.declared.value.Value.{Value}
use Rattle.gql_values3.specs.declared.value.Value.TheVariants as v
use Rattle.gql_ast.specs.declared.fault.DataFault.{DataFault}
use Rattle.gql_ast.specs.Faults.{each}
use Rattle.gql_eval.specs.Machinery.Next.{next}
use Rattle.gql_eval.specs.Gives.{Fails}
use Rattle.gql_eval.specs.declared.error.EvalError.{EvalError}
use Rattle.gql_eval.specs.declared.error.EvalError.TheVariants as error
use Rattle.gql_eval.specs.RowLists.{each_some}
use Rattle.gql_ast.specs.declared.fault.DataFault.TheVariants as fault
use Rattle.gql_ast.proofs.MeaningLemmas.{as_value-datum_of}
use Rattle.gql_change.specs.Assignments.{set_property}
use Rattle.gql_values3.specs.Meaning.{as_value}
use Rattle.gql_change.specs.declared.assignment.Act.TheVariants as act

-- a value is told by its meaning
pub same_value : (a b : Value) → datum_of a ≡ datum_of b → a ≡ b
same_value a b p = sym (as_value-datum_of a) ∙ ap as_value p ∙ as_value-datum_of b

-- a value that may be stored is set
pub set_kept : (g : PropertyGraph) (params : List (List ℕ × Datum)) (r : Result (Option Elem) DataFault) (s : Result Datum DataFault) (e : Elem) (p : List ℕ) (a : Value)
    → r ≡ Ok (Some e) → s ≡ Ok (datum_of a) → is_storable (datum_of a) 64 ≡ true
    → next r (λ t. next s (λ d. set_property g params t p d)) ≡ Ok (record { target = e; act = act.Property p a } ∷ [])
set_kept g params r s e p a h k fit =
    ap (λ (q : Result (Option Elem) DataFault). next q (λ t. next s (λ d. set_property g params t p d))) h
    ∙ ap (λ (q : Result Datum DataFault). next q (λ d. set_property g params (Some e) p d)) k
    ∙ ap (λ (b : Bool). next (cond b (Ok (datum_of a)) (Err fault.WrongKind)) (λ kept. Ok (record { target = e; act = act.Property p (as_value kept) } ∷ []))) fit
    ∙ ap (λ (w : Value). Ok (record { target = e; act = act.Property p w } ∷ [])) (as_value-datum_of a)
