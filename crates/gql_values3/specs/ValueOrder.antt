-- The total order of the data: by kinds first, and then by contents.
use Rattle.std.specs.Prelude.{ℕ}
use Rattle.std.specs.declared.cmp.Ordering.{Ordering}
use Rattle.std.specs.declared.cmp.Ordering.TheVariants.{Less, Equal, Greater}
use Rattle.std.specs.Ordering.{ordering_then, nat_cmp, int_cmp, bool_cmp}
use Rattle.std.specs.Cmp.Lexicographic.{slice_cmp}
use Rattle.gql_values3.specs.Datum.{PathData, Datum, Data, null, boolean, integer, text, list, node, edge, path, no_data, more_data}

-- the place of a kind among the kinds
abbrev pub rank : Datum → ℕ
rank (boolean b) = 0
rank (integer z) = 1
rank (text t) = 2
rank (list ds) = 3
rank (node n) = 4
rank (edge e) = 5
rank (path w) = 6
rank null = 7

-- by the edge, and then by the node that it leads to
abbrev pub step_cmp : ℕ × ℕ → ℕ × ℕ → Ordering
step_cmp s t = ordering_then (nat_cmp s.0 t.0) (nat_cmp s.1 t.1)

-- by the first node, and then element by element
abbrev pub path_cmp : PathData → PathData → Ordering
path_cmp v w = ordering_then (nat_cmp v.start w.start) (slice_cmp step_cmp v.steps w.steps)

-- the total order of all values: by kinds first, and then by contents
abbrev mutual
  pub datum_cmp : Datum → Datum → Ordering
  datum_cmp (boolean a) (boolean b) = bool_cmp a b
  datum_cmp (integer a) (integer b) = int_cmp a b
  datum_cmp (text a) (text b) = slice_cmp nat_cmp a b
  datum_cmp (list a) (list b) = data_cmp a b
  datum_cmp (node a) (node b) = nat_cmp a b
  datum_cmp (edge a) (edge b) = nat_cmp a b
  datum_cmp (path a) (path b) = path_cmp a b
  datum_cmp null null = Equal
  datum_cmp a b = nat_cmp (rank a) (rank b)

  -- item by item, a prefix being less
  pub data_cmp : Data → Data → Ordering
  data_cmp no_data no_data = Equal
  data_cmp no_data (more_data b bs) = Less
  data_cmp (more_data a more) no_data = Greater
  data_cmp (more_data a more) (more_data b rest) = ordering_then (datum_cmp a b) (data_cmp more rest)
