-- What is asked of the maps of an INSERT, over two lists.
use Rattle.std.proofs.Common.{◌≡◌, ℕ, ◌+◌, ◌<◌, List, [], ◌∷◌, ◌++◌, length, drop, get_or, Option, None, Result, refl, sym, ap, subst, ◌∙◌}
use Rattle.std.specs.List.{flat_map, list_any}
use Rattle.std.specs.Option.{option_or}
use Rattle.gql_values3.specs.Datum.{Datum}
use Rattle.gql_values3.specs.declared.table.ColumnKind.{ColumnKind}
use Rattle.gql_scope.specs.ColumnFaults.{faults_in_map}
use Rattle.gql_ast.specs.InsertColumns.{Spots}
use Rattle.gql_scope.specs.Misuses.{misused_map}
use Rattle.gql_expr_checks.specs.Refusals.{refusal_of_first, misuse_if}
use Rattle.gql_scope.specs.UnsetParameters.{parameters_of_map}
use Rattle.gql_expr_checks.specs.ExprParameters.{unset}
use Rattle.gql_ast.specs.declared.change.Fill.{Fill}
use Rattle.gql_ast.specs.declared.filler.MapItem.{MapItem}
use Rattle.gql_ast.specs.declared.refusal.Refusal.TheVariants as refusal
use Rattle.gql_ast.specs.declared.refusal.Refusal.{Refusal}
use Rattle.gql_expr_checks.specs.Gives.{Gives, Fails}
use Rattle.gql_scope.specs.Machinery.Questions.{map_refusal, first_in_maps}
use Rattle.gql_expr_checks.specs.declared.fault.ScopeFault.{ScopeFault}
use Rattle.gql_scope.specs.declared.insert_maps.MapQuestion.{MapQuestion}
use Rattle.gql_scope.specs.declared.insert_maps.MapQuestion.TheVariants as question
use Rattle.gql_expr_checks.proofs.RefusalLemmas.{first_of_in_two, misuse_in_two, unset_of_two, stops, goes_on}
use Rattle.gql_expr_checks.proofs.DropLemmas.{drop_step}
use Rattle.gql_scope.proofs.CodeLemmas.{or_assoc}

pub maps_of_two : (q : MapQuestion) (xs ys : Spots) → first_in_maps q (xs ++ ys) ≡ option_or (first_in_maps q xs) (first_in_maps q ys)
maps_of_two q [] ys = refl
maps_of_two q (s ∷ xs) ys = ap (option_or (map_refusal q s.1.map)) (maps_of_two q xs ys) ∙ or_assoc (map_refusal q s.1.map) (first_in_maps q xs) (first_in_maps q ys)

maps_cut : {A : Type 0} (q : MapQuestion) (f : A → Spots) (xs : List A) (i : ℕ) (x : A) (whole : Option Refusal)
    → i < length xs → x ≡ get_or xs i x → first_in_maps q (flat_map f (drop i xs)) ≡ whole
    → whole ≡ option_or (first_in_maps q (f x)) (first_in_maps q (flat_map f (drop (i + 1) xs)))
maps_cut q f xs i x whole below is h =
    sym h ∙ ap (λ ys. first_in_maps q (flat_map f ys)) (drop_step xs i x below is) ∙ maps_of_two q (f x) (flat_map f (drop (i + 1) xs))

-- an item's maps stop the walk, ..
pub maps_stop : {A : Type 0} (q : MapQuestion) (f : A → Spots) (xs : List A) (i : ℕ) (x : A) (whole : Option Refusal) (e : ScopeFault)
    → i < length xs → x ≡ get_or xs i x → first_in_maps q (flat_map f (drop i xs)) ≡ whole → Fails e (first_in_maps q (f x)) → Fails e whole
maps_stop q f xs i x whole e below is h refuses =
    stops e (first_in_maps q (f x)) (first_in_maps q (flat_map f (drop (i + 1) xs))) whole refuses (maps_cut q f xs i x whole below is h)

-- .. or it goes on behind them
pub maps_go_on : {A : Type 0} (q : MapQuestion) (f : A → Spots) (xs : List A) (i : ℕ) (x : A) (whole : Option Refusal)
    → i < length xs → x ≡ get_or xs i x → first_in_maps q (flat_map f (drop i xs)) ≡ whole → first_in_maps q (f x) ≡ None → first_in_maps q (flat_map f (drop (i + 1) xs)) ≡ whole
maps_go_on q f xs i x whole below is h none =
    sym (goes_on (first_in_maps q (f x)) (first_in_maps q (flat_map f (drop (i + 1) xs))) whole none (maps_cut q f xs i x whole below is h))

-- each code's faults in maps are what its question asks for; the question holds a borrow, seen as what it points to
pub misuse_is_first : (q : MapQuestion) (columns : List (List ℕ × ColumnKind)) (ss : Spots)
    → ((m : Option (List MapItem)) → map_refusal q m ≡ misuse_if (misused_map columns m))
    → misuse_if (list_any (λ (s : ColumnKind × Fill). misused_map columns s.1.map) ss) ≡ first_in_maps q ss
misuse_is_first q columns [] same = refl
misuse_is_first q columns (s ∷ ss) same =
    misuse_in_two (misused_map columns s.1.map) (list_any (λ (s : ColumnKind × Fill). misused_map columns s.1.map) ss)
    ∙ ap (λ o. option_or o (misuse_if (list_any (λ (s : ColumnKind × Fill). misused_map columns s.1.map) ss))) (sym (same s.1.map))
    ∙ ap (option_or (map_refusal q s.1.map)) (misuse_is_first q columns ss same)

pub fault_is_first : (ss : Spots) → refusal_of_first refusal.Column (flat_map (λ (s : ColumnKind × Fill). faults_in_map s.1.map) ss) ≡ first_in_maps question.Repeated ss
fault_is_first [] = refl
fault_is_first (s ∷ ss) =
    first_of_in_two refusal.Column (faults_in_map s.1.map) (flat_map (λ (s : ColumnKind × Fill). faults_in_map s.1.map) ss)
    ∙ ap (option_or (map_refusal question.Repeated s.1.map)) (fault_is_first ss)

pub unset_is_first : (q : MapQuestion) (params : List (List ℕ × Datum)) (ss : Spots)
    → ((m : Option (List MapItem)) → map_refusal q m ≡ refusal_of_first refusal.Parameter (unset params (parameters_of_map m)))
    → refusal_of_first refusal.Parameter (unset params (flat_map (λ (s : ColumnKind × Fill). parameters_of_map s.1.map) ss)) ≡ first_in_maps q ss
unset_is_first q params [] same = refl
unset_is_first q params (s ∷ ss) same =
    unset_of_two params (parameters_of_map s.1.map) (flat_map (λ (s : ColumnKind × Fill). parameters_of_map s.1.map) ss)
    ∙ ap (λ o. option_or o (refusal_of_first refusal.Parameter (unset params (flat_map (λ (s : ColumnKind × Fill). parameters_of_map s.1.map) ss)))) (sym (same s.1.map))
    ∙ ap (option_or (map_refusal q s.1.map)) (unset_is_first q params ss same)

-- an answer to one question is one to another that asks the same
pub gives_same : (r : Result (Unit {0}) ScopeFault) (o p : Option Refusal) → Gives r o → p ≡ o → Gives r p
gives_same r o p h e = subst (Gives r) (sym e) h
