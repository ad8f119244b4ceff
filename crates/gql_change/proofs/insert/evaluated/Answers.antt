use Rattle.std.proofs.Common.{◌≡◌, ◌∙◌, List, map, ap, subst, Result}
use Rattle.gql_ast.specs.Faults.{each}
use Rattle.gql_ast.specs.declared.fault.DataFault.{DataFault}
use Rattle.gql_eval.specs.Gives.{Gives}
use Rattle.gql_change.specs.Machinery.PreparedSpots.{asked_in, line_in, spot_in}
use Rattle.gql_change.specs.Machinery.Roles.{Question, lines_of, question_of}
use Rattle.gql_change.specs.declared.row_spots.Line.{Line}
use Rattle.gql_change.proofs.InRowLemmas.{lines_same}
use Rattle.gql_change.proofs.insert.evaluated.Goals as goal

pub returns : goal.returns
returns g c =
    let b = c.args.basis.now in
    let graph = g.V.View.graph b.view.now in
    let spots = c.as_slice.result.now in
    let asked : List Question = map question_of c.args.asked.now in
    let same : map spot_in spots ≡ map (asked_in b.columns.now b.params.now) asked =
    ap (map spot_in) c.as_slice.ensures.value ∙ c.in_ok-spots.ensures in
    let whole : each (line_in spots graph) c.args.rows ≡ lines_of graph b.params.now b.columns.now asked c.args.rows = lines_same b.columns.now b.params.now asked spots same graph c.args.rows in
    subst (λ (r : Result (List Line) DataFault). Gives (λ (ls : List Line). ls) c.lines_of.result r) whole c.lines_of.ensures
