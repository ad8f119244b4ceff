use Rattle.std.proofs.Common.{◌≡◌, [], map, drop}
use Rattle.gql_expr_checks.specs.Repeated.{repeated}
use Rattle.gql_expr_checks.specs.Refusals.{refusal_of_first}
use Rattle.gql_ast.specs.declared.filler.MapItem.{MapItem}
use Rattle.gql_ast.specs.declared.refusal.ColumnRef.TheVariants as column
use Rattle.gql_ast.specs.declared.refusal.Refusal.TheVariants as refusal
use Rattle.gql_expr_checks.specs.Machinery.Seen.{seen_names}
use Rattle.gql_expr_checks.proofs.repeated.check_properties.Given as goal

abbrev pub invariant-loop-item : goal.invariant-loop-item
invariant-loop-item l =
    refusal_of_first refusal.Column (map column.Property (repeated (seen_names l.seen) (map (λ (i : MapItem). i.name) (drop l.item-index l.items))))
    ≡ refusal_of_first refusal.Column (map column.Property (repeated [] (map (λ (i : MapItem). i.name) l.items)))
