use Rattle.std.proofs.Common.{◌≡◌, ◌∷◌, [], ◌++◌, ◌∙◌, ap, map, not}
use Rattle.std.specs.List.{filter}
use Rattle.gql_values3.specs.Meaning.{datum_of}
use Rattle.gql_values3.specs.Texts.{same_text}
use Rattle.gql_machine.proofs.ParameterLemmas.{set_seen}
use Rattle.gql_machine.proofs.parameters.with_parameter.Goals as goal

pub returns : goal.returns
returns c =
    let name = c.args.name.now in
    let pairs = c.into_vec-pairs.result.items in
    let left : c.remove.new.pairs.items ≡ filter (λ p. not (same_text name p.0)) pairs = rw (← c.as_str.ensures) c.remove.ensures in
    let items : c.push.new.self.items ≡ filter (λ p. not (same_text name p.0)) pairs ++ (name, c.args.value) ∷ [] = rw (← left, ← c.in_ok-try_copy.ensures) c.in_ok-push.ensures.items in
    rw (← c.into_vec-pairs.ensures) (c.from_vec.ensures ∙ ap (map (λ p. (p.0, datum_of p.1))) items ∙ set_seen datum_of name c.args.value pairs)
