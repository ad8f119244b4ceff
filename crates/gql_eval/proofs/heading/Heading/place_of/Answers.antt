use Rattle.std.proofs.Common.{◌∙◌, ap}
use Rattle.gql_eval.specs.Machinery.Places.{place_among}
use Rattle.gql_eval.proofs.heading.Heading.place_of.Goals as goal

pub returns : goal.returns
returns c =
    c.copied.ensures ∙ c.get.ensures.value ∙ c.self.invariant c.args.name.now
    ∙ ap (λ cs. place_among cs c.args.name.now) c.self.view_is
