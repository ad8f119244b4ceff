use Rattle.std.proofs.Common.{◌≡◌, ◌<◌, ◌+◌, ◌∙◌, List, [], length, drop, sym, arith, rules, Result, Ok, ◌++◌}
use Rattle.std.specs.Option.{option_to_list}
use Rattle.std.proofs.lemmas.List.{drop_all}
use Rattle.gql_ast.specs.declared.fault.DataFault.{DataFault}
use Rattle.gql_eval.specs.Gives.{Fails}
use Rattle.gql_eval.specs.RowLists.{each_some}
use Rattle.gql_eval.proofs.EachSteps.{drop_here, some_step, some_fails, some_end}
use Rattle.gql_change.specs.Machinery.PreparedItems.{item_in}
use Rattle.gql_change.specs.declared.assignment.Assignment.{Assignment}
use Rattle.gql_change.specs.declared.prepared_item.PreparedItem.{PreparedItem}
use Rattle.gql_change.proofs.assigning.assignments_in.Goals as goal

pub loop-i-preserved : goal.loop-i-preserved
loop-i-preserved g c =
    let f : PreparedItem → Result (List Assignment) DataFault = λ (p : PreparedItem). item_in p (g.V.View.graph c.args.view.now) c.args.row.now in
    let xs = c.args.items.now in
    let i = c.loop-i.i in
    let x = c.index-items-i.result in
    let below : i < length xs = omega arith in
    let left = drop_here xs i x below c.index-items-i.is in
    let here : f x ≡ Ok (option_to_list c.in_ok-more.more) = c.in_ok-more.ensures in
    rw c.in_ok-push_some.ensures (sym (some_step f (drop i xs) x (drop (i + 1) xs) c.loop-i.done (option_to_list c.in_ok-more.more) left here) ∙ c.loop-i.invariant)

pub returns : goal.returns
returns g c =
    let f : PreparedItem → Result (List Assignment) DataFault = λ (p : PreparedItem). item_in p (g.V.View.graph c.args.view.now) c.args.row.now in
    let xs = c.args.items.now in
    let none : drop c.loop-i.i xs ≡ [] = drop_all c.loop-i.i xs (omega arith) in
    sym c.loop-i.invariant ∙ some_end f (drop c.loop-i.i xs) c.loop-i.done none

pub returns-in_err-more : goal.returns-in_err-more
returns-in_err-more g c =
    let f : PreparedItem → Result (List Assignment) DataFault = λ (p : PreparedItem). item_in p (g.V.View.graph c.args.view.now) c.args.row.now in
    let xs = c.args.items.now in
    let i = c.loop-i.i in
    let x = c.index-items-i.result in
    let below : i < length xs = omega arith in
    let left = drop_here xs i x below c.index-items-i.is in
    let here : Fails c.in_err-more.field-0.0 (f x) = c.in_err-more.ensures in
    let whole : Fails c.in_err-more.field-0.0 (each_some f c.args.items.now) =
    rw (← c.loop-i.invariant) (some_fails f (drop i xs) x (drop (i + 1) xs) c.in_err-more.field-0.0 (λ ys. Ok (c.loop-i.done ++ ys)) left here) in
    search rules
