use Rattle.std.proofs.Common.{map, sym, ◌∙◌}
use Rattle.std.specs.Cmp.Lexicographic.{unequal}
use Rattle.std.proofs.lemmas.List.{length-map}
use Rattle.gql_graph.specs.Machinery.Shown.{shown}
use Rattle.gql_txn.specs.Machinery.Same.{same_property}
use Rattle.gql_txn.proofs.same.same_properties.Goals as goal

pub returns-then-some-others : goal.returns-then-some-others
returns-then-some-others c =
    let some = c.args.some.now in
    let others = c.args.others.now in
    sym (unequal same_property (map shown some) (map shown others) (λ e. c.if-some-others.true (sym (length-map some shown) ∙ e ∙ length-map others shown)))
