use Rattle.std.proofs.Common.{◌∙◌, sym}
use Rattle.std.specs.Option.{option_copied}
use Rattle.gql_session.proofs.CommandLemmas.{holding, opened}
use Rattle.gql_session.proofs.load.load_store.Goals as goal

pub returns-in-Ok-clause-found : goal.returns-in-Ok-clause-found
returns-in-Ok-clause-found g c = λ records k.
    c.load.ensures.found (holding (option_copied c.args.store) records) (opened (option_copied c.args.store) records _ _ k c.in-Ok.ensures.ok)

pub returns-in-Ok-clause-at_fault : goal.returns-in-Ok-clause-at_fault
returns-in-Ok-clause-at_fault g c = λ records i k.
    c.load.ensures.at_fault (holding (option_copied c.args.store) records) i (opened (option_copied c.args.store) records _ _ k c.in-Ok.ensures.ok)

pub returns-in-Ok-clause-complete : goal.returns-in-Ok-clause-complete
returns-in-Ok-clause-complete g c = λ records d k.
    c.load.ensures.complete (holding (option_copied c.args.store) records) d (opened (option_copied c.args.store) records _ _ k c.in-Ok.ensures.ok)

pub returns-in-Ok-clause-kept : goal.returns-in-Ok-clause-kept
returns-in-Ok-clause-kept g c = λ records k. c.load.ensures.kept ∙ opened (option_copied c.args.store) records _ _ k c.in-Ok.ensures.ok ∙ sym k
