-- A name among columns: whether it is one.
use Rattle.std.proofs.Common.{◌≡◌, ℕ, suc, Bool, true, false, cond, ◌||◌, List, [], ◌∷◌, Option, Some, None, refl, ap, ◌∙◌, is_some}
use Rattle.std.specs.Prelude.{option_map}
use Rattle.gql_values3.specs.Texts.{same_text}
use Rattle.gql_ast.specs.ClauseColumns.{ColumnList, is_column}
use Rattle.gql_eval.specs.Machinery.Places.{place_among}

there : (b : Bool) (o : Option ℕ) (r : Bool) → r ≡ is_some o → (b || r) ≡ is_some (cond b (Some 0) (option_map suc o))
there true o r h = refl
there false None r h = h
there false (Some i) r h = h

pub column_placed : (cs : ColumnList) (x : List ℕ) → is_column cs x ≡ is_some (place_among cs x)
column_placed [] x = refl
column_placed (c ∷ cs) x = there (same_text x c.0) (place_among cs x) (is_column cs x) (column_placed cs x)

pub no_column : (cs : ColumnList) (x : List ℕ) → place_among cs x ≡ None → is_column cs x ≡ false
no_column cs x h = column_placed cs x ∙ ap is_some h

pub a_column : (cs : ColumnList) (x : List ℕ) (i : ℕ) → place_among cs x ≡ Some i → is_column cs x ≡ true
a_column cs x i h = column_placed cs x ∙ ap is_some h
