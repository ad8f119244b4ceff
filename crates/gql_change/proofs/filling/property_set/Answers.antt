use Rattle.std.proofs.Common.{◌≡◌, ◌∙◌, ◌∷◌, ◌++◌, [], map, sym}
use Rattle.gql_change.specs.Machinery.Roles.{pair_of}
use Rattle.gql_change.proofs.FillingLemmas.{one_put, put_all}
use Rattle.gql_change.proofs.filling.property_set.Goals as goal

pub loop-name-init : goal.loop-name-init
loop-name-init c = rw (c.in_ok-set.ensures.items, c.into_vec-left.ensures) (put_all c.args.given)

pub loop-name-preserved : goal.loop-name-preserved
loop-name-preserved c =
    let items : c.loop-name.left.items ≡ c.pop.new.self.items ++ (c.in-Some.name, c.in-Some.value) ∷ [] = c.in-Some.ensures.items in
    rw c.in_ok-with_property.ensures
    (sym (one_put c.loop-name.left.items c.pop.new.self.items c.in-Some.name c.in-Some.value (map pair_of c.loop-name.set.items) items) ∙ c.loop-name.invariant)
