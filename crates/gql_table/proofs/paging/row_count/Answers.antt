use Rattle.std.proofs.Common.{◌≡◌, ◌∙◌, List, ℕ, Some, None, sym, ap, option_map}
use Rattle.std.specs.Prelude.{find}
use Rattle.gql_values3.specs.Datum.{Datum}
use Rattle.gql_values3.specs.Meaning.{datum_of}
use Rattle.gql_values3.specs.Texts.{same_text}
use Rattle.gql_values3.specs.Datum.{or_null}
use Rattle.gql_ast.specs.Evaluation.{parameter_value}
use Rattle.gql_table.specs.Paging.{count_in, count_of}
use Rattle.gql_table.proofs.paging.row_count.Goals as goal

pub returns-in-Some : goal.returns-in-Some
returns-in-Some c =
    let found : Some (datum_of c.in-Some.value.now) ≡ option_map (λ (q : List ℕ × Datum). q.1) (find (λ (q : List ℕ × Datum). same_text c.in-Parameter.name q.0) c.args.params.now) =
    rw c.as_str.ensures at c.in-Some.ensures in
    let value : parameter_value c.args.params.now c.in-Parameter.name ≡ datum_of c.in-Some.value.now = ap or_null (sym found) in
    let whole : count_of c.args.params.now c.args.count.now ≡ count_in (datum_of c.in-Some.value.now) = ap (count_of c.args.params.now) c.in-Parameter.is ∙ ap count_in value in
    rw whole c.whole_count-in-Some.ensures

pub returns-in-None : goal.returns-in-None
returns-in-None c =
    let found : None ≡ option_map (λ (q : List ℕ × Datum). q.1) (find (λ (q : List ℕ × Datum). same_text c.in-Parameter.name q.0) c.args.params.now) =
    rw c.as_str.ensures at c.in-None.ensures in
    ap (count_of c.args.params.now) c.in-Parameter.is ∙ ap (λ o. count_in (or_null o)) (sym found)
