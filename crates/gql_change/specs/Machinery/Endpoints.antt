-- Whether a spot may have the variable of a column.
use Rattle.std.specs.Prelude.{Bool, true}
use Rattle.gql_values3.specs.declared.table.ColumnKind.{ColumnKind}
use Rattle.gql_values3.specs.declared.table.ColumnKind.TheVariants as kind
use Rattle.gql_ast.specs.Endpoints.{is_node}

-- a node's may be that of a node's column; nothing is asked of an edge here
abbrev pub may_stand : ColumnKind → ColumnKind → Bool
may_stand kind.Node stands = is_node stands
may_stand _ stands = true
