use Rattle.std.proofs.Common.{◌≡◌, ◌++◌, drop, map}
use Rattle.std.specs.List.{flat_map}
use Rattle.gql_values3.specs.Meaning.{datum_of}
use Rattle.gql_ast.specs.ValueText.{value_text}
use Rattle.gql_text.specs.OutcomeText.{behind_tab}
use Rattle.gql_text.proofs.outcome.push_more_values.Given as goal

abbrev pub invariant-loop-value : goal.invariant-loop-value
invariant-loop-value l =
    l.text ++ flat_map behind_tab (map value_text (map datum_of (drop l.value-index l.values))) ≡ l.fn.text ++ flat_map behind_tab (map value_text (map datum_of l.values))
