-- Endpoints of an INSERT that stand already. Key idea: what is asked of spots is asked of a front of them, and then of the
-- rest under the columns behind the front.
use Rattle.std.proofs.Common.{◌≡◌, ℕ, Bool, true, false, cond, ◌&&◌, ◌||◌, List, [], ◌∷◌, ◌++◌, Option, Some, None, refl, sym, ap, ◌∙◌, append_assoc, append-nil}
use Rattle.std.proofs.Math.Bool.{and_assoc}
use Rattle.std.specs.Prelude.{option_map, find, is_some, not, unwrap_or, if◌then◌else◌}
use Rattle.gql_values3.specs.Texts.{same_text}
use Rattle.gql_values3.specs.declared.table.ColumnKind.{ColumnKind}
use Rattle.gql_values3.specs.declared.table.ColumnKind.TheVariants as kind
use Rattle.gql_ast.specs.ClauseColumns.{ColumnList, is_column}
use Rattle.gql_ast.specs.Outputs.{kind_of_name}
use Rattle.gql_ast.specs.InsertColumns.{Spots, spot_columns, step_spots, with_variable}
use Rattle.gql_ast.specs.declared.change.InsertStep.{InsertStep}
use Rattle.gql_ast.specs.Endpoints.{is_node, wrong_endpoint, wrong_in_spots}
use Rattle.gql_change.specs.Changing.{is_empty}
use Rattle.gql_change.specs.Machinery.Endpoints.{may_stand}

-- what the first column of a name holds
abbrev pub kind_at : ColumnList → List ℕ → Option ColumnKind
kind_at cs x = option_map (λ (c : List ℕ × ColumnKind). c.1) (find (λ c. same_text x c.0) cs)

kind_first : (b rest : Bool) (c : List ℕ × ColumnKind) (found : Option (List ℕ × ColumnKind)) → rest ≡ is_some (option_map (λ (c : List ℕ × ColumnKind). c.1) found)
    → (b || rest) ≡ is_some (option_map (λ (c : List ℕ × ColumnKind). c.1) (cond b (Some c) found))
kind_first true rest c found h = refl
kind_first false rest c found h = h

-- a name that has a kind is a column
has_kind : (cs : ColumnList) (x : List ℕ) → is_column cs x ≡ is_some (kind_at cs x)
has_kind [] x = refl
has_kind (c ∷ cs) x = kind_first (same_text x c.0) (is_column cs x) c (find (λ c. same_text x c.0) cs) (has_kind cs x)

pub no_column : (cs : ColumnList) (x : List ℕ) → None ≡ kind_at cs x → is_column cs x ≡ false
no_column cs x h = has_kind cs x ∙ ap is_some (sym h)

pub a_column : (cs : ColumnList) (x : List ℕ) (k : ColumnKind) → Some k ≡ kind_at cs x → is_column cs x ≡ true
a_column cs x k h = has_kind cs x ∙ ap is_some (sym h)

kind_is : (cs : ColumnList) (x : List ℕ) (k : ColumnKind) → Some k ≡ kind_at cs x → kind_of_name cs x ≡ k
kind_is cs x k h = ap (λ o. unwrap_or o kind.Plain) (sym h)

empty_unless : (b : Bool) (x : List ℕ) → b ≡ is_empty (if not b then x ∷ [] else [])
empty_unless true x = refl
empty_unless false x = refl

-- a variable that is a column's
pub endpoint_stands : (cs : ColumnList) (d : ColumnKind) (x : List ℕ) (k : ColumnKind) → Some k ≡ kind_at cs x → may_stand d k ≡ is_empty (wrong_endpoint cs d (Some x))
endpoint_stands cs kind.Node x k h = rw (a_column cs x k h, kind_is cs x k h) (empty_unless (is_node k) x)
endpoint_stands cs kind.Edge x k h = refl
endpoint_stands cs kind.Nodes x k h = refl
endpoint_stands cs kind.Edges x k h = refl
endpoint_stands cs kind.Path x k h = refl
endpoint_stands cs kind.Plain x k h = refl

-- a variable that is no column yet
pub endpoint_new : (cs : ColumnList) (d : ColumnKind) (x : List ℕ) → None ≡ kind_at cs x → is_empty (wrong_endpoint cs d (Some x)) ≡ true
endpoint_new cs kind.Node x h = rw (no_column cs x h) refl
endpoint_new cs kind.Edge x h = refl
endpoint_new cs kind.Nodes x h = refl
endpoint_new cs kind.Edges x h = refl
endpoint_new cs kind.Path x h = refl
endpoint_new cs kind.Plain x h = refl

empty_append : (xs ys : List (List ℕ)) → is_empty (xs ++ ys) ≡ (is_empty xs && is_empty ys)
empty_append [] ys = refl
empty_append (x ∷ xs) ys = refl

columns_append : (cs : ColumnList) (xs ys : Spots) → spot_columns cs (xs ++ ys) ≡ spot_columns (spot_columns cs xs) ys
columns_append cs [] ys = refl
columns_append cs (x ∷ xs) ys = columns_append (with_variable cs x.0 x.1.variable) xs ys

wrong_append : (cs : ColumnList) (xs ys : Spots) → wrong_in_spots cs (xs ++ ys) ≡ wrong_in_spots cs xs ++ wrong_in_spots (spot_columns cs xs) ys
wrong_append cs [] ys = refl
wrong_append cs (x ∷ xs) ys =
    ap (λ (ns : List (List ℕ)). wrong_endpoint cs x.0 x.1.variable ++ ns) (wrong_append (with_variable cs x.0 x.1.variable) xs ys)
    ∙ sym (append_assoc (wrong_endpoint cs x.0 x.1.variable) (wrong_in_spots (with_variable cs x.0 x.1.variable) xs) (wrong_in_spots (spot_columns cs (x ∷ xs)) ys))

-- the columns behind a front of the spots, and then behind the rest
pub columns_past : (cs : ColumnList) (front rest all : Spots) → all ≡ front ++ rest → spot_columns (spot_columns cs front) rest ≡ spot_columns cs all
columns_past cs front rest all h = sym (ap (spot_columns cs) h ∙ columns_append cs front rest)

-- nothing is wrong with the front, nor with the rest
pub right_past : (b : Bool) (cs : ColumnList) (front rest all : Spots) → all ≡ front ++ rest
    → ((b && is_empty (wrong_in_spots cs front)) && is_empty (wrong_in_spots (spot_columns cs front) rest)) ≡ (b && is_empty (wrong_in_spots cs all))
right_past b cs front rest all h =
    and_assoc b (is_empty (wrong_in_spots cs front)) (is_empty (wrong_in_spots (spot_columns cs front) rest))
    ∙ ap (λ (c : Bool). b && c) (sym (ap (λ (ss : Spots). is_empty (wrong_in_spots cs ss)) h ∙ ap is_empty (wrong_append cs front rest) ∙ empty_append (wrong_in_spots cs front) (wrong_in_spots (spot_columns cs front) rest)))

-- the same of the two spots of a step
pub right_step : (b : Bool) (cs : ColumnList) (s : InsertStep)
    → ((b && is_empty (wrong_endpoint cs kind.Edge s.edge.variable)) && is_empty (wrong_endpoint (with_variable cs kind.Edge s.edge.variable) kind.Node s.node.variable))
    ≡ (b && is_empty (wrong_in_spots cs (step_spots s)))
right_step b cs s =
    let edge = wrong_endpoint cs kind.Edge s.edge.variable in
    let node = wrong_endpoint (with_variable cs kind.Edge s.edge.variable) kind.Node s.node.variable in
    and_assoc b (is_empty edge) (is_empty node)
    ∙ ap (λ (c : Bool). b && c) (sym (empty_append edge (node ++ []) ∙ ap (λ (ns : List (List ℕ)). is_empty edge && is_empty ns) (append-nil node)))
