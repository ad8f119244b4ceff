use Rattle.std.proofs.Common.{Option, sym, subst}
use Rattle.gql_ports.specs.Held.{Holding}
use Rattle.gql_txn.specs.Keeps.{Keeps}
use Rattle.gql_txn.proofs.store.store.Goals as goal

pub returns-then-not-keeps-clause-stored : goal.returns-then-not-keeps-clause-stored
returns-then-not-keeps-clause-stored g c = λ keeps. subst (λ (o : Option Holding). Keeps o c.args.catalog.now) (sym (c.keeps.ensures.told c.if-not-keeps.true)) tt
