use Rattle.std.proofs.Common.{◌≡◌, ◌∙◌, ◌∷◌, ◌+◌, ◌<◌, List, length, drop, map, ap, arith}
use Rattle.gql_ast.specs.InsertColumns.{insert_spots, path_spots}
use Rattle.gql_ast.specs.declared.change.InsertPath.{InsertPath}
use Rattle.gql_eval.proofs.EachSteps.{drop_here as item_here}
use Rattle.gql_change.specs.Machinery.Roles.{question_of}
use Rattle.gql_change.proofs.EndpointLemmas.{columns_past, right_past}
use Rattle.gql_change.proofs.QuestionLemmas.{path_asked}
use Rattle.gql_change.proofs.questions.outline_of.Goals as goal

pub loop-i-preserved : goal.loop-i-preserved
loop-i-preserved c =
    let path = c.index-paths-i.result in
    let so_far = c.loop-i.so_far in
    let left = drop c.loop-i.i c.args.paths.now in
    let rest = drop (c.loop-i.i + 1) c.args.paths.now in
    let below : c.loop-i.i < length c.args.paths.now = omega arith in
    let cut : left ≡ path ∷ rest = item_here c.args.paths.now c.loop-i.i path below c.index-paths-i.is in
    let spots = ap (λ (ps : List InsertPath). insert_spots ps) cut in
    record {
      columns = rw (c.in_ok-so_far.ensures.behind.0) (columns_past so_far.0 (path_spots path) (insert_spots rest) (insert_spots left) spots ∙ c.loop-i.invariant.columns);
      right = rw (c.in_ok-so_far.ensures.behind.1, c.in_ok-so_far.ensures.behind.0)
          (right_past so_far.1 so_far.0 (path_spots path) (insert_spots rest) (insert_spots left) spots ∙ c.loop-i.invariant.right);
      asked = rw (c.in_ok-so_far.ensures.asked, c.in_ok-so_far.ensures.behind.0) (path_asked (map question_of c.loop-i.asked.items) so_far.0 left path rest cut ∙ c.loop-i.invariant.asked);
    }
