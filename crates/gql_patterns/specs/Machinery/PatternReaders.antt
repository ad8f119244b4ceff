-- PatternReaders: reading path patterns and graph patterns.
use Rattle.std.specs.Prelude.{ℕ, false, List, Some}
use Rattle.gql_lexer.specs.SymbolPlaces.{equal}
use Rattle.gql_ast.specs.PatternMeaning.{path_expr_of}
use Rattle.gql_ast.specs.declared.path.GraphPattern.{GraphPattern}
use Rattle.gql_ast.specs.declared.path.PathPattern.{PathPattern}
use Rattle.gql_ast.specs.declared.pattern.PathExpr.{PathExpr}
use Rattle.gql_front.specs.Reading.{◌>>=◌, Reader, is_sign, name_in, after, op_at, maybe}
use Rattle.gql_parts.specs.Machinery.PartReaders.{listed}
use Rattle.gql_parts.specs.Machinery.FillerReaders.{where_of}
use Rattle.gql_patterns.specs.Machinery.PrefixReaders.{prefix_of}
use Rattle.gql_patterns.specs.Machinery.PathReaders.{read_path}

-- a path pattern expression, whose meaning is read
unfoldable pub read_path_expr : Reader PathExpr
read_path_expr ts = do
  x ← read_path ts
  Some (path_expr_of x.0, x.1)

-- Name "="
unfoldable pub path_name_of : Reader (List ℕ)
path_name_of ts = do
  x ← op_at name_in ts
  r ← after (is_sign equal) x.1
  Some (x.0, r)

unfoldable pub path_pattern_of : Reader PathPattern
path_pattern_of ts = do
  n ← maybe path_name_of ts
  p ← maybe prefix_of n.1
  e ← read_path_expr p.1
  Some (record { name = n.0; prefix = p.0; expr = e.0 }, e.1)

unfoldable pub graph_pattern_of : Reader GraphPattern
graph_pattern_of ts = do
  ps ← listed path_pattern_of ts
  w ← where_of ps.1
  Some (record { different = false; paths = ps.0; condition = w.0 }, w.1)
