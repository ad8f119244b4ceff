use Rattle.std.proofs.Common.{◌≡◌, ◌++◌, length}
use Rattle.std.specs.List.{flat_map}
use Rattle.std.specs.Str.{IsUtf8}
use Rattle.gql_ast.specs.Machinery.Escapes.{escaped}
use Rattle.gql_ast.proofs.text.escapes.push_escaped.Given as goal

abbrev pub invariant-loop-cut : goal.invariant-loop-cut
invariant-loop-cut l = record {
  utf8 : IsUtf8 l.rest;
  told : l.text ++ flat_map (escaped l.setting) l.rest ≡ l.fn.text ++ flat_map (escaped l.setting) l.characters;
}

abbrev pub decreases-loop-cut : goal.decreases-loop-cut
decreases-loop-cut l = length l.rest
