use Rattle.std.proofs.Common.{◌≡◌, ◌++◌, drop, map}
use Rattle.std.specs.List.{flat_map}
use Rattle.gql_ast.specs.ValueText.{header_text}
use Rattle.gql_text.specs.OutcomeText.{behind_tab}
use Rattle.gql_text.proofs.outcome.push_more_headers.Given as goal

abbrev pub invariant-loop-name : goal.invariant-loop-name
invariant-loop-name l =
    l.text ++ flat_map behind_tab (map header_text (drop l.name-index l.names)) ≡ l.fn.text ++ flat_map behind_tab (map header_text l.names)
