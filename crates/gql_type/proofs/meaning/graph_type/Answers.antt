use Rattle.std.proofs.Common.{◌≡◌, Result, Ok, Err, ap, ◌∙◌}
use Rattle.std.specs.Prelude.{IfOk, IsTrue, true}
use Rattle.gql_values3.specs.declared.memory.OutOfMemory.{OutOfMemory}
use Rattle.gql_graph.specs.declared.graph_type.GraphType.{GraphType}
use Rattle.gql_type.specs.GraphTypes.{is_graph_type}
use Rattle.gql_type.specs.BodyMeaning.{graph_type_of}
use Rattle.gql_type.proofs.BodyLemmas.{meant_in_order}
use Rattle.gql_type.proofs.meaning.graph_type.Goals as goal

ok_in_order : (r : Result GraphType OutOfMemory) (meant : GraphType) → is_graph_type meant ≡ true → IfOk r (λ k. k ≡ meant) → IfOk r (λ k. IsTrue (is_graph_type k))
ok_in_order (Ok k) meant h e = ap (λ (t : GraphType). is_graph_type t) e ∙ h
ok_in_order (Err f) meant h e = tt

pub returns-clause-in_order : goal.returns-clause-in_order
returns-clause-in_order c = ok_in_order c.made_of.result (graph_type_of c.args.body.now) (meant_in_order c.args.body.now c.requires.aliases c.requires.names) c.made_of.ensures
