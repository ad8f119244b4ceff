use Rattle.std.proofs.Common.{◌≡◌, true, inl}
use Rattle.std.proofs.lemmas.Cmp.{nat_list_eq_equiv}
use Rattle.gql_ports.specs.Told.{after_opening}
use Rattle.gql_values3.specs.Texts.{same_text}
use Rattle.gql_session.proofs.read_text.read_named.Goals as goal

pub returns-in-Ok-clause-all : goal.returns-in-Ok-clause-all
returns-in-Ok-clause-all g c = λ d h n.
    let ready : same_text c.args.name.now d.name ≡ true = rw n (nat_list_eq_equiv.refl c.args.name.now) in
    c.read_all.ensures.all (after_opening c.args.name.now true d) (rw h at c.in-Ok.ensures.content) ready

pub returns-in-Ok-clause-too_long : goal.returns-in-Ok-clause-too_long
returns-in-Ok-clause-too_long g c = λ d h n e.
    let ready : same_text c.args.name.now d.name ≡ true = rw n (nat_list_eq_equiv.refl c.args.name.now) in
    c.read_all.ensures.too_long (after_opening c.args.name.now true d) (rw h at c.in-Ok.ensures.content) ready e

pub returns-in-Ok-clause-leaves : goal.returns-in-Ok-clause-leaves
returns-in-Ok-clause-leaves g c = λ d h n.
    let ready : same_text c.args.name.now d.name ≡ true = rw n (nat_list_eq_equiv.refl c.args.name.now) in
    c.read_all.ensures.leaves (after_opening c.args.name.now true d) (rw h at c.in-Ok.ensures.content) ready

pub returns-in-Err-clause-leaves : goal.returns-in-Err-clause-leaves
returns-in-Err-clause-leaves g c = λ d h n. inl (rw h at c.in-Err.ensures.content)

pub returns-in-Ok-clause-risen : goal.returns-in-Ok-clause-risen
returns-in-Ok-clause-risen g c = rw c.in-Ok.ensures.risen at c.read_all.ensures.risen
