-- What a program can hold and a record can keep: texts are UTF-8, and nothing has 2 to the 64 parts or more.
use Rattle.std.specs.Prelude.{ℕ, ◌<◌, ◌^◌, List, length, IsTrue}
use Rattle.std.specs.List.{AllByRecursion}
use Rattle.std.specs.Str.{IsUtf8}
use Rattle.gql_values3.specs.Datum.{Datum, Data, text, list, no_data, more_data, items_of}
use Rattle.gql_values3.specs.PropertyGraph.{are_properties}
use Rattle.gql_values3.specs.Texts.{texts_ascend}

-- a text that a program can hold
abbrev pub IsText : List ℕ → Type 0
IsText bytes = IsUtf8 bytes × (length bytes < 2 ^ 64)

-- the texts in a value, and how many items its lists have
abbrev mutual
  pub IsKeptValue : Datum → Type 0
  IsKeptValue (text t) = IsText t
  IsKeptValue (list ds) = (length (items_of ds) < 2 ^ 64) × AreKeptValues ds
  IsKeptValue _ = Unit {0}

  pub AreKeptValues : Data → Type 0
  AreKeptValues no_data = Unit {0}
  AreKeptValues (more_data d ds) = IsKeptValue d × AreKeptValues ds

-- a set of labels
pub record AreKeptLabels (labels : List (List ℕ)) : Type 0 where
  pub few : length labels < 2 ^ 64
  pub ascend : IsTrue (texts_ascend labels)
  pub texts : AllByRecursion IsText labels

-- a property: its name is a text, and its value can be kept
abbrev pub IsKeptProperty : List ℕ × Datum → Type 0
IsKeptProperty p = IsText p.0 × IsKeptValue p.1

-- a property map: names strictly ascend, and each value may stand in a property
pub record AreKeptProperties (ps : List (List ℕ × Datum)) : Type 0 where
  pub few : length ps < 2 ^ 64
  pub fit : IsTrue (are_properties ps)
  pub kept : AllByRecursion IsKeptProperty ps

-- what a node and an edge hold alike
abbrev pub IsKeptContent : List (List ℕ) → List (List ℕ × Datum) → Type 0
IsKeptContent labels ps = AreKeptLabels labels × AreKeptProperties ps
