use Rattle.std.proofs.Common.{◌≡◌, ◌∙◌, Some, None, ap, sym}
use Rattle.gql_ast.specs.ClauseColumns.{ColumnList}
use Rattle.gql_eval.specs.Machinery.Places.{place_among}
use Rattle.gql_eval.proofs.NotingLemmas.{kind_by, kind_of_place}
use Rattle.gql_eval.proofs.heading.Heading.kind_of.Goals as goal

pub returns-in-Some : goal.returns-in-Some
returns-in-Some c =
    let items : c.as_slice.result.now ≡ c.args.self.now = c.as_slice.ensures ∙ c.self.view_is in
    let placed : Some c.in-Some.place ≡ place_among c.args.self.now c.args.name.now = sym c.in-Some.is ∙ c.place_of.ensures in
    c.kind_there.ensures ∙ ap (λ (cs : ColumnList). kind_by cs (Some c.in-Some.place)) items ∙ ap (kind_by c.args.self.now) placed
    ∙ sym (kind_of_place c.args.self.now c.args.name.now)

pub returns-in-None : goal.returns-in-None
returns-in-None c =
    let placed : None ≡ place_among c.args.self.now c.args.name.now = sym c.in-None.is ∙ c.place_of.ensures in
    ap (kind_by c.args.self.now) placed ∙ sym (kind_of_place c.args.self.now c.args.name.now)
