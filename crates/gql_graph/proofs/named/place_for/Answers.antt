use Rattle.std.proofs.Common.{◌∙◌, ◌≤◌, length, sym, arith}
use Rattle.std.specs.List.{position_or_len}
use Rattle.gql_graph.specs.Catalog.{is_before}
use Rattle.gql_graph.proofs.CatalogLemmas.{in_front, past_end}
use Rattle.gql_graph.proofs.NamedLemmas.{within_len}
use Rattle.gql_graph.proofs.named.place_for.Goals as goal

-- it is there
pub returns-in-Some : goal.returns-in-Some
returns-in-Some g c =
    let found = in_front _ _ c.in-Some.place (sym c.in-Some.is ∙ c.first_greater.ensures) in
    record { place = found.1; within = rw found.1 (within_len _ _) }

-- it is behind all
pub returns-in-None : goal.returns-in-None
returns-in-None g c =
    let most = within_len (λ i. is_before c.args.name.now i.0) c.args.items.now in
    let least : length c.args.items.now ≤ position_or_len (λ i. is_before c.args.name.now i.0) c.args.items.now = past_end _ _ (sym c.in-None.is ∙ c.first_greater.ensures) in
    record { place = omega (arith, most, least); within = omega arith }
