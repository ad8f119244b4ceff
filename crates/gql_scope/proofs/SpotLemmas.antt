-- The columns so far in an INSERT, what its look-up of a variable tells, and what is asked of its nodes and edges, over two lists.
use Rattle.std.proofs.Common.{◌≡◌, ℕ, Bool, true, false, not, ◌&&◌, ◌+◌, ◌<◌, List, [], ◌∷◌, ◌++◌, length, drop, get_or, Option, Some, None, is_some, Result, Ok, Err, OnOk, refl, sym, ap, ◌∙◌, append_assoc, true≢false}
use Rattle.std.specs.Prelude.{if◌then◌else◌, unwrap_or}
use Rattle.std.specs.List.{flat_map}
use Rattle.std.specs.Option.{option_or}
use Rattle.gql_values3.specs.declared.table.ColumnKind.{ColumnKind}
use Rattle.gql_values3.specs.declared.table.ColumnKind.TheVariants as kind
use Rattle.gql_ast.specs.ClauseColumns.{ColumnList, is_column}
use Rattle.gql_ast.specs.Endpoints.{is_node, wrong_endpoint, wrong_in_spots}
use Rattle.gql_ast.specs.InsertColumns.{Spots, with_variable, spot_columns}
use Rattle.gql_ast.specs.Outputs.{kind_of_name}
use Rattle.gql_ast.specs.declared.change.Fill.{Fill}
use Rattle.gql_ast.specs.declared.refusal.Refusal.TheVariants as refusal
use Rattle.gql_ast.specs.declared.refusal.Refusal.{Refusal}
use Rattle.gql_expr_checks.specs.Gives.{Gives, Fails}
use Rattle.gql_expr_checks.specs.Machinery.Knowing.{first_kind}
use Rattle.gql_expr_checks.specs.Refusals.{refusal_of_first}
use Rattle.gql_expr_checks.specs.declared.fault.ScopeFault.{ScopeFault}
use Rattle.gql_expr_checks.proofs.DropLemmas.{drop_step}
use Rattle.gql_expr_checks.proofs.KnowingLemmas.{is_some-first_kind}
use Rattle.gql_expr_checks.proofs.RefusalLemmas.{first_of_in_two, stops, goes_on}
use Rattle.gql_scope.specs.UnknownNames.{may_refer, misplaced, unknown_in_map, unknown_in_spots}
use Rattle.gql_scope.specs.Machinery.Questions.{unknown_at, wrong_at, first_in_spots}
use Rattle.gql_scope.proofs.CodeLemmas.{or_assoc}

-- a look-up tells whether a variable stands already, ..
is_column_by : (columns : ColumnList) (x : List ℕ) (o : Option ColumnKind) → first_kind columns x ≡ o → is_column columns x ≡ is_some o
is_column_by columns x o h = sym (is_some-first_kind columns x) ∙ ap is_some h

-- .. a new one is not at fault, and is added, ..
pub new_placed : (columns : ColumnList) (k : ColumnKind) (f : Fill) (x : List ℕ) → first_kind columns x ≡ None → misplaced columns k f (Some x) ≡ []
new_placed columns k f x h = ap (λ b. if b && not (may_refer k f.labels f.map) then x ∷ [] else []) (is_column_by columns x None h)

pub new_kind : (columns : ColumnList) (k : ColumnKind) (x : List ℕ) → first_kind columns x ≡ None → wrong_endpoint columns k (Some x) ≡ []
new_kind columns kind.Node x h = ap (λ b. if b && not (is_node (kind_of_name columns x)) then x ∷ [] else []) (is_column_by columns x None h)
new_kind columns kind.Edge x h = refl
new_kind columns kind.Nodes x h = refl
new_kind columns kind.Edges x h = refl
new_kind columns kind.Path x h = refl
new_kind columns kind.Plain x h = refl

pub new_column : (columns : ColumnList) (k : ColumnKind) (x : List ℕ) → first_kind columns x ≡ None → with_variable columns k (Some x) ≡ columns ++ (x, k) ∷ []
new_column columns k x h = ap (λ b. if b then columns else columns ++ (x, k) ∷ []) (is_column_by columns x None h)

-- .. one that stands adds nothing, ..
pub old_column : (columns : ColumnList) (k : ColumnKind) (x : List ℕ) (held : ColumnKind) → first_kind columns x ≡ Some held → with_variable columns k (Some x) ≡ columns
old_column columns k x held h = ap (λ b. if b then columns else columns ++ (x, k) ∷ []) (is_column_by columns x (Some held) h)

-- .. is at fault where it may not refer, ..
turned : (b : Bool) (x : List ℕ) → (if not b then x ∷ [] else []) ≡ (if b then [] else x ∷ [])
turned true x = refl
turned false x = refl

pub old_placed : (columns : ColumnList) (k : ColumnKind) (f : Fill) (x : List ℕ) (held : ColumnKind) → first_kind columns x ≡ Some held
    → misplaced columns k f (Some x) ≡ (if may_refer k f.labels f.map then [] else x ∷ [])
old_placed columns k f x held h =
    ap (λ b. if b && not (may_refer k f.labels f.map) then x ∷ [] else []) (is_column_by columns x (Some held) h) ∙ turned (may_refer k f.labels f.map) x

held_kind : (columns : ColumnList) (x : List ℕ) (held : ColumnKind) → first_kind columns x ≡ Some held → kind_of_name columns x ≡ held
held_kind columns x held h = ap (λ o. unwrap_or o kind.Plain) h

-- .. and else stands at a node, and has to be one
old_kind : (columns : ColumnList) (k : ColumnKind) (f : Fill) (x : List ℕ) (held : ColumnKind) → first_kind columns x ≡ Some held
    → may_refer k f.labels f.map ≡ true → wrong_endpoint columns k (Some x) ≡ (if is_node held then [] else x ∷ [])
old_kind columns kind.Node f x held h may =
    ap (λ b. if b && not (is_node (kind_of_name columns x)) then x ∷ [] else []) (is_column_by columns x (Some held) h)
    ∙ ap (λ z. if not (is_node z) then x ∷ [] else []) (held_kind columns x held h) ∙ turned (is_node held) x
old_kind columns kind.Edge f x held h may = absurd (true≢false (sym may))
old_kind columns kind.Nodes f x held h may = absurd (true≢false (sym may))
old_kind columns kind.Edges f x held h may = absurd (true≢false (sym may))
old_kind columns kind.Path f x held h may = absurd (true≢false (sym may))
old_kind columns kind.Plain f x held h may = absurd (true≢false (sym may))

pub kind_held : (r : Result (Unit {0}) ScopeFault) (columns : ColumnList) (k : ColumnKind) (f : Fill) (x : List ℕ) (held : ColumnKind) (may : Bool) (old new : Option Refusal)
    → first_kind columns x ≡ Some held → may ≡ may_refer k f.labels f.map → Gives r (refusal_of_first refusal.Variable (if may then [] else x ∷ []))
    → OnOk r (new ≡ option_or old (refusal_of_first refusal.Kind (if is_node held then [] else x ∷ [])))
    → OnOk r (new ≡ option_or old (refusal_of_first refusal.Kind (wrong_endpoint columns k (Some x))))
kind_held (Ok u) columns k f x held true old new h e gives p =
    p ∙ ap (λ (xs : List (List ℕ)). option_or old (refusal_of_first refusal.Kind xs)) (sym (old_kind columns k f x held h (sym e)))
kind_held (Ok u) columns k f x held false old new h e gives p = absurd (true≢false (ap is_some gives))
kind_held (Err fault) columns k f x held may old new h e gives p = tt

-- a column is added at the end of both
pub appended : (xs ys zs : ColumnList) → xs ++ (ys ++ zs) ≡ (xs ++ ys) ++ zs
appended xs ys zs = sym (append_assoc xs ys zs)

pub nothing_new : (xs : ColumnList) → xs ++ [] ≡ xs
nothing_new [] = refl
nothing_new (x ∷ xs) = ap (λ ys. x ∷ ys) (nothing_new xs)

pub columns_of_two : (columns : ColumnList) (xs ys : Spots) → spot_columns columns (xs ++ ys) ≡ spot_columns (spot_columns columns xs) ys
columns_of_two columns [] ys = refl
columns_of_two columns (s ∷ xs) ys = columns_of_two (with_variable columns s.0 s.1.variable) xs ys

pub spots_of_two : (asks : ColumnList → ColumnKind → Fill → Option Refusal) (columns : ColumnList) (xs ys : Spots)
    → first_in_spots asks columns (xs ++ ys) ≡ option_or (first_in_spots asks columns xs) (first_in_spots asks (spot_columns columns xs) ys)
spots_of_two asks columns [] ys = refl
spots_of_two asks columns (s ∷ xs) ys =
    let next = with_variable columns s.0 s.1.variable in
    ap (option_or (asks columns s.0 s.1)) (spots_of_two asks next xs ys)
    ∙ or_assoc (asks columns s.0 s.1) (first_in_spots asks next xs) (first_in_spots asks (spot_columns next xs) ys)

-- the names at fault, and the kinds, are what is asked for
pub unknown_is_first : (incoming columns : ColumnList) (ss : Spots)
    → refusal_of_first refusal.Variable (unknown_in_spots incoming columns ss) ≡ first_in_spots (unknown_at incoming) columns ss
unknown_is_first incoming columns [] = refl
unknown_is_first incoming columns (s ∷ ss) =
    let next = with_variable columns s.0 s.1.variable in
    first_of_in_two refusal.Variable (misplaced columns s.0 s.1 s.1.variable ++ unknown_in_map incoming s.1.map) (unknown_in_spots incoming next ss)
    ∙ ap (option_or (unknown_at incoming columns s.0 s.1)) (unknown_is_first incoming next ss)

pub wrong_is_first : (columns : ColumnList) (ss : Spots) → refusal_of_first refusal.Kind (wrong_in_spots columns ss) ≡ first_in_spots wrong_at columns ss
wrong_is_first columns [] = refl
wrong_is_first columns (s ∷ ss) =
    let next = with_variable columns s.0 s.1.variable in
    first_of_in_two refusal.Kind (wrong_endpoint columns s.0 s.1.variable) (wrong_in_spots next ss) ∙ ap (option_or (wrong_at columns s.0 s.1)) (wrong_is_first next ss)

-- the items of a list from i on, one after the other
module _ {A : Type 0} (f : A → Spots) (xs : List A) (i : ℕ) (x : A) (before : ColumnList) (below : i < length xs) (is : x ≡ get_or xs i x) where
  abbrev behind : Spots
  behind = flat_map f (drop (i + 1) xs)

  -- their columns
  pub columns_go_on : (after whole : ColumnList) → spot_columns before (flat_map f (drop i xs)) ≡ whole → after ≡ spot_columns before (f x)
      → spot_columns after (flat_map f (drop (i + 1) xs)) ≡ whole
  columns_go_on after whole h e =
      ap (λ cs. spot_columns cs behind) e ∙ sym (columns_of_two before (f x) behind) ∙ sym (ap (λ ys. spot_columns before (flat_map f ys)) (drop_step xs i x below is)) ∙ h

  module _ (asks : ColumnList → ColumnKind → Fill → Option Refusal) where
    cut : first_in_spots asks before (flat_map f (drop i xs)) ≡ option_or (first_in_spots asks before (f x)) (first_in_spots asks (spot_columns before (f x)) behind)
    cut = ap (λ ys. first_in_spots asks before (flat_map f ys)) (drop_step xs i x below is) ∙ spots_of_two asks before (f x) behind

    -- a refusal among them that ends the walk, ..
    pub spots_stop : (whole : Option Refusal) (e : ScopeFault) → first_in_spots asks before (flat_map f (drop i xs)) ≡ whole → Fails e (first_in_spots asks before (f x)) → Fails e whole
    spots_stop whole e h refuses = stops e (first_in_spots asks before (f x)) (first_in_spots asks (spot_columns before (f x)) behind) whole refuses (sym h ∙ cut)

    pub spots_go_on : (after : ColumnList) (whole : Option Refusal) → first_in_spots asks before (flat_map f (drop i xs)) ≡ whole
        → first_in_spots asks before (f x) ≡ None → after ≡ spot_columns before (f x) → first_in_spots asks after (flat_map f (drop (i + 1) xs)) ≡ whole
    spots_go_on after whole h none e =
        ap (λ cs. first_in_spots asks cs behind) e
        ∙ sym (goes_on (first_in_spots asks before (f x)) (first_in_spots asks (spot_columns before (f x)) behind) whole none (sym h ∙ cut))

    -- .. and one that is kept
    pub spots_keep : (after : ColumnList) (slot more whole : Option Refusal) → option_or slot (first_in_spots asks before (flat_map f (drop i xs))) ≡ whole
        → more ≡ option_or slot (first_in_spots asks before (f x)) → after ≡ spot_columns before (f x)
        → option_or more (first_in_spots asks after (flat_map f (drop (i + 1) xs))) ≡ whole
    spots_keep after slot more whole h kept e =
        let rest = first_in_spots asks (spot_columns before (f x)) behind in
        ap (λ cs. option_or more (first_in_spots asks cs behind)) e ∙ ap (λ o. option_or o rest) kept ∙ sym (or_assoc slot (first_in_spots asks before (f x)) rest)
        ∙ sym (ap (option_or slot) cut) ∙ h

-- Where a walk stands: what is asked of those that are left, and their columns, are those of all.
abbrev pub StandsBefore : (incoming first : ColumnList) (kept : Option Refusal) (all : Spots) (fresh : ColumnList) (slot : Option Refusal) (left : Spots) → Type 0
StandsBefore incoming first kept all fresh slot left = record {
  names : first_in_spots (unknown_at incoming) (incoming ++ fresh) left ≡ first_in_spots (unknown_at incoming) (incoming ++ first) all;
  kinds : option_or slot (first_in_spots wrong_at (incoming ++ fresh) left) ≡ option_or kept (first_in_spots wrong_at (incoming ++ first) all);
  columns : spot_columns (incoming ++ fresh) left ≡ spot_columns (incoming ++ first) all;
}

pub stands_further : {A : Type 0} (f : A → Spots) (xs : List A) (i : ℕ) (x : A) (incoming first fresh after : ColumnList) (kept slot more : Option Refusal) → i < length xs → x ≡ get_or xs i x
    → StandsBefore incoming first kept (flat_map f xs) fresh slot (flat_map f (drop i xs))
    → first_in_spots (unknown_at incoming) (incoming ++ fresh) (f x) ≡ None → more ≡ option_or slot (first_in_spots wrong_at (incoming ++ fresh) (f x))
    → incoming ++ after ≡ spot_columns (incoming ++ fresh) (f x) → StandsBefore incoming first kept (flat_map f xs) after more (flat_map f (drop (i + 1) xs))
stands_further f xs i x incoming first fresh after kept slot more below is h names kinds columns =
    let all = flat_map f xs in
    let before = incoming ++ fresh in
    record {
      names = spots_go_on f xs i x before below is (unknown_at incoming) (incoming ++ after) (first_in_spots (unknown_at incoming) (incoming ++ first) all) h.names names columns;
      kinds = spots_keep f xs i x before below is wrong_at (incoming ++ after) slot more (option_or kept (first_in_spots wrong_at (incoming ++ first) all)) h.kinds kinds columns;
      columns = columns_go_on f xs i x before below is (incoming ++ after) (spot_columns (incoming ++ first) all) h.columns columns;
    }
