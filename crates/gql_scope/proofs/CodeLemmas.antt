-- What a walk that asks for all codes keeps of each: what a slot holds behind an answer, what is asked apart from the names and
-- beside them, and what the slots say of all clauses.
use Rattle.std.proofs.Common.{◌≡◌, ℕ, Bool, true, false, ◌||◌, List, [], ◌∷◌, Option, Some, None, is_some, Result, Ok, Err, OnOk, refl, sym, ap, ◌∙◌}
use Rattle.std.specs.List.{flat_map, list_any}
use Rattle.std.specs.Option.{option_or}
use Rattle.gql_values3.specs.Datum.{Datum}
use Rattle.gql_ast.specs.ClauseColumns.{ColumnList}
use Rattle.gql_ast.specs.declared.change.ChangeClause.TheVariants as change
use Rattle.gql_ast.specs.declared.clause.Clause.{Clause}
use Rattle.gql_ast.specs.declared.clause.Clause.TheVariants as clause
use Rattle.gql_ast.specs.declared.refusal.Refusal.{Refusal}
use Rattle.gql_ast.specs.declared.refusal.Refusal.TheVariants as refusal
use Rattle.gql_expr_checks.specs.Gives.{Fails}
use Rattle.gql_expr_checks.specs.Refusals.{refusal_of_first, misuse_if}
use Rattle.gql_expr_checks.specs.declared.fault.ScopeFault.{ScopeFault}
use Rattle.gql_expr_checks.proofs.RefusalLemmas.{first_of_in_two, misuse_in_two, stops}
use Rattle.gql_norm.specs.PatternRefusal.{refused_if}
use Rattle.gql_norm.specs.Termination.{empty_loop, unbounded}
use Rattle.gql_scope.specs.WholePatterns.{columns_past, over_clauses, unknown_names, wrong_kinds, joined_groups, joined_conditionals, of_pattern, open_references, is_misused, misused_over, column_faults, unset_in_clause, name_refusal, repetition_refusal, use_refusal, clauses_refusal}
use Rattle.gql_scope.specs.Machinery.Codes.{kept, nothing_kept, first_kept, first_over, kinds_apart, kinds_beside, misused_apart, misused_beside, names_refusal, refusal_by}
use Rattle.gql_scope.specs.declared.refusals.Code.{Code}
use Rattle.gql_scope.specs.declared.refusals.Code.TheVariants as code
use Rattle.gql_scope.specs.declared.refusals.Refusals.{Refusals}

-- one of three is there
pub some_of_three : {A : Type 0} (first second third : Option A) → is_some (option_or first (option_or second third)) ≡ ((is_some first || is_some second) || is_some third)
some_of_three (Some a) second third = refl
some_of_three None (Some b) third = refl
some_of_three None None third = refl

pub none_there : (o : Option Refusal) → is_some o ≡ false → o ≡ None
none_there None h = refl
none_there (Some r) h = absurd (cc)

pub or_none : (o : Option Refusal) → option_or o None ≡ o
or_none None = refl
or_none (Some r) = refl

pub or_assoc : (o p q : Option Refusal) → option_or o (option_or p q) ≡ option_or (option_or o p) q
or_assoc None p q = refl
or_assoc (Some r) p q = refl

-- a slot that has its refusal keeps it
pub stays : (o p : Option Refusal) → is_some o ≡ true → o ≡ option_or o p
stays None p h = absurd (cc)
stays (Some r) p h = refl

-- what holds of each code
pub by_codes : (P : Code → Type 0) → P code.Kinds → P code.GroupJoins → P code.CondJoins → P code.EmptyLoops → P code.OpenEnds → P code.GroupRefs → P code.Misuses → P code.Columns
    → P code.Parameters → (k : Code) → P k
by_codes P kinds groups conds loops ends refs misuses columns parameters code.Kinds = kinds
by_codes P kinds groups conds loops ends refs misuses columns parameters code.GroupJoins = groups
by_codes P kinds groups conds loops ends refs misuses columns parameters code.CondJoins = conds
by_codes P kinds groups conds loops ends refs misuses columns parameters code.EmptyLoops = loops
by_codes P kinds groups conds loops ends refs misuses columns parameters code.OpenEnds = ends
by_codes P kinds groups conds loops ends refs misuses columns parameters code.GroupRefs = refs
by_codes P kinds groups conds loops ends refs misuses columns parameters code.Misuses = misuses
by_codes P kinds groups conds loops ends refs misuses columns parameters code.Columns = columns
by_codes P kinds groups conds loops ends refs misuses columns parameters code.Parameters = parameters

-- what holds anyway holds behind an Ok, ..
pub holds_ok : {X E : Type 0} {P : Type 0} (r : Result X E) → P → OnOk r P
holds_ok (Ok x) p = p
holds_ok (Err e) p = tt

-- .. where something may follow of what holds there
pub on_ok : {X E : Type 0} {P Q : Type 0} (r : Result X E) → (P → Q) → OnOk r P → OnOk r Q
on_ok (Ok x) f p = f p
on_ok (Err e) f p = tt

pub on_both : {X E : Type 0} {P Q R : Type 0} (r : Result X E) → (P → Q → R) → OnOk r P → OnOk r Q → OnOk r R
on_both (Ok x) f p q = f p q
on_both (Err e) f p q = tt

pub on_all : {X E : Type 0} {P Q R S : Type 0} (r : Result X E) → (P → Q → R → S) → OnOk r P → OnOk r Q → OnOk r R → OnOk r S
on_all (Ok x) f p q s = f p q s
on_all (Err e) f p q s = tt

-- an answer is noted: that nothing is refused, or what is
pub noted_nothing : (slot o : Option Refusal) → o ≡ None → slot ≡ option_or slot o
noted_nothing slot o none = sym (or_none slot) ∙ ap (option_or slot) (sym none)

pub noted_defect : (r : Refusal) (slot new o : Option Refusal) → new ≡ option_or slot (Some r) → o ≡ Some r → new ≡ option_or slot o
noted_defect r slot new o kept some = kept ∙ ap (option_or slot) (sym some)

-- E09 is asked apart from the names or beside them, ..
kinds_split : (columns : ColumnList) (c : Clause)
    → refusal_of_first refusal.Kind (wrong_kinds columns c) ≡ option_or (refusal_of_first refusal.Kind (kinds_apart columns c)) (refusal_of_first refusal.Kind (kinds_beside columns c))
kinds_split columns (clause.Match m) = sym (or_none (refusal_of_first refusal.Kind (kinds_apart columns (clause.Match m))))
kinds_split columns (clause.Let is) = refl
kinds_split columns (clause.Filter e) = refl
kinds_split columns (clause.For f) = refl
kinds_split columns (clause.Page p) = refl
kinds_split columns (clause.Change (change.Insert ps)) = refl
kinds_split columns (clause.Change (change.Set is)) = sym (or_none (refusal_of_first refusal.Kind (kinds_apart columns (clause.Change (change.Set is)))))
kinds_split columns (clause.Change (change.Remove is)) = sym (or_none (refusal_of_first refusal.Kind (kinds_apart columns (clause.Change (change.Remove is)))))
kinds_split columns (clause.Change (change.Delete d xs)) = sym (or_none (refusal_of_first refusal.Kind (kinds_apart columns (clause.Change (change.Delete d xs)))))
kinds_split columns (clause.Return r) = refl

pub kinds_of_both : (columns : ColumnList) (c : Clause) (old between new : Option Refusal)
    → between ≡ option_or old (refusal_of_first refusal.Kind (kinds_apart columns c)) → new ≡ option_or between (refusal_of_first refusal.Kind (kinds_beside columns c))
    → new ≡ option_or old (refusal_of_first refusal.Kind (wrong_kinds columns c))
kinds_of_both columns c old between new p q =
    let apart = refusal_of_first refusal.Kind (kinds_apart columns c) in
    let beside = refusal_of_first refusal.Kind (kinds_beside columns c) in
    q ∙ ap (λ o. option_or o beside) p ∙ sym (or_assoc old apart beside) ∙ ap (option_or old) (sym (kinds_split columns c))

-- .. and so is E15
misuses_split : (columns : ColumnList) (c : Clause) → misuse_if (is_misused columns c) ≡ option_or (misuse_if (misused_apart columns c)) (misuse_if (misused_beside columns c))
misuses_split columns (clause.Match m) = sym (or_none (misuse_if (misused_apart columns (clause.Match m))))
misuses_split columns (clause.Let is) = refl
misuses_split columns (clause.Filter e) = sym (or_none (misuse_if (misused_apart columns (clause.Filter e))))
misuses_split columns (clause.For f) = sym (or_none (misuse_if (misused_apart columns (clause.For f))))
misuses_split columns (clause.Page p) = sym (or_none (misuse_if (misused_apart columns (clause.Page p))))
misuses_split columns (clause.Change x) = sym (or_none (misuse_if (misused_apart columns (clause.Change x))))
misuses_split columns (clause.Return r) = sym (or_none (misuse_if (misused_apart columns (clause.Return r))))

pub misuses_of_both : (columns : ColumnList) (c : Clause) (old between new : Option Refusal)
    → between ≡ option_or old (misuse_if (misused_apart columns c)) → new ≡ option_or between (misuse_if (misused_beside columns c)) → new ≡ option_or old (misuse_if (is_misused columns c))
misuses_of_both columns c old between new p q =
    let apart = misuse_if (misused_apart columns c) in
    let beside = misuse_if (misused_beside columns c) in
    q ∙ ap (λ o. option_or o beside) p ∙ sym (or_assoc old apart beside) ∙ ap (option_or old) (sym (misuses_split columns c))

-- the first refusal over clauses is that of the first of what is at fault in them, under columns that grow, ..
over_lists : {A : Type 0} (f : A → Refusal) (faults : ColumnList → Clause → List A) (columns : ColumnList) (cs : List Clause)
    → first_over (λ xs c. refusal_of_first f (faults xs c)) columns cs ≡ refusal_of_first f (over_clauses faults columns cs)
over_lists f faults columns [] = refl
over_lists f faults columns (c ∷ cs) =
    ap (option_or (refusal_of_first f (faults columns c))) (over_lists f faults (columns_past columns c) cs)
    ∙ sym (first_of_in_two f (faults columns c) (over_clauses faults (columns_past columns c) cs))

over_misuses : (columns : ColumnList) (cs : List Clause) → first_over (λ xs c. misuse_if (is_misused xs c)) columns cs ≡ misuse_if (misused_over columns cs)
over_misuses columns [] = refl
over_misuses columns (c ∷ cs) =
    ap (option_or (misuse_if (is_misused columns c))) (over_misuses (columns_past columns c) cs) ∙ sym (misuse_in_two (is_misused columns c) (misused_over (columns_past columns c) cs))

-- .. or whatever the columns
over_flat : {A : Type 0} (f : A → Refusal) (faults : Clause → List A) (columns : ColumnList) (cs : List Clause)
    → first_over (λ xs c. refusal_of_first f (faults c)) columns cs ≡ refusal_of_first f (flat_map faults cs)
over_flat f faults columns [] = refl
over_flat f faults columns (c ∷ cs) =
    ap (option_or (refusal_of_first f (faults c))) (over_flat f faults (columns_past columns c) cs) ∙ sym (first_of_in_two f (faults c) (flat_map faults cs))

refused_in_two : (r : Refusal) (a b : Bool) → refused_if r (a || b) ≡ option_or (refused_if r a) (refused_if r b)
refused_in_two r true b = refl
refused_in_two r false b = refl

over_any : (r : Refusal) (test : Clause → Bool) (columns : ColumnList) (cs : List Clause)
    → first_over (λ xs c. refused_if r (test c)) columns cs ≡ refused_if r (list_any test cs)
over_any r test columns [] = refl
over_any r test columns (c ∷ cs) =
    ap (option_or (refused_if r (test c))) (over_any r test (columns_past columns c) cs) ∙ sym (refused_in_two r (test c) (list_any test cs))

-- three codes in their order
in_order : (a b c x y z : Option Refusal) → a ≡ x → b ≡ y → c ≡ z → option_or a (option_or b c) ≡ option_or x (option_or y z)
in_order a b c x y z p q r = ap (λ o. option_or o (option_or b c)) p ∙ ap (λ o. option_or x (option_or o c)) q ∙ ap (λ o. option_or x (option_or y o)) r

module _ (params : List (List ℕ × Datum)) (cs : List Clause) where
  names : first_over names_refusal [] cs ≡ refusal_of_first refusal.Variable (over_clauses unknown_names [] cs)
  names = over_lists refusal.Variable unknown_names [] cs

  -- the codes E09 to E11
  abbrev behind_names : Option Refusal
  behind_names =
      option_or (refusal_of_first refusal.Kind (over_clauses wrong_kinds [] cs))
      (option_or (refusal_of_first refusal.GroupJoin (over_clauses joined_groups [] cs)) (refusal_of_first refusal.CondJoin (over_clauses joined_conditionals [] cs)))

  -- a refusal by E08 is that of the query
  pub names_stop : (e : ScopeFault) → Fails e (first_over names_refusal [] cs) → Fails e (clauses_refusal params cs)
  names_stop e refuses =
      let first = refusal_of_first refusal.Variable (over_clauses unknown_names [] cs) in
      let rest = option_or (repetition_refusal cs) (use_refusal params cs) in
      stops e (first_over names_refusal [] cs) (option_or behind_names rest) (clauses_refusal params cs) refuses
      (sym (or_assoc first behind_names rest) ∙ ap (λ o. option_or o (option_or behind_names rest)) (sym names))

  module _ (r : Refusals) (none : first_over names_refusal [] cs ≡ None) (codes : (k : Code) → kept k r ≡ option_or (kept k nothing_kept) (first_over (refusal_by params k) [] cs)) where
    joins : option_or r.kinds (option_or r.group_joins r.cond_joins) ≡ name_refusal cs
    joins =
        in_order r.kinds r.group_joins r.cond_joins (refusal_of_first refusal.Kind (over_clauses wrong_kinds [] cs)) (refusal_of_first refusal.GroupJoin (over_clauses joined_groups [] cs))
        (refusal_of_first refusal.CondJoin (over_clauses joined_conditionals [] cs)) (codes code.Kinds ∙ over_lists refusal.Kind wrong_kinds [] cs)
        (codes code.GroupJoins ∙ over_lists refusal.GroupJoin joined_groups [] cs) (codes code.CondJoins ∙ over_lists refusal.CondJoin joined_conditionals [] cs)
        ∙ ap (λ o. option_or o behind_names) (sym none ∙ names)

    repetition : option_or r.empty_loops (option_or r.open_ends r.group_refs) ≡ repetition_refusal cs
    repetition =
        in_order r.empty_loops r.open_ends r.group_refs (refused_if refusal.EmptyLoop (list_any (of_pattern empty_loop) cs)) (refused_if refusal.Unbounded (list_any (of_pattern unbounded) cs))
        (refusal_of_first refusal.GroupRef (flat_map open_references cs)) (codes code.EmptyLoops ∙ over_any refusal.EmptyLoop (of_pattern empty_loop) [] cs)
        (codes code.OpenEnds ∙ over_any refusal.Unbounded (of_pattern unbounded) [] cs) (codes code.GroupRefs ∙ over_flat refusal.GroupRef open_references [] cs)

    uses : option_or r.misuses (option_or r.columns r.parameters) ≡ use_refusal params cs
    uses =
        in_order r.misuses r.columns r.parameters (misuse_if (misused_over [] cs)) (refusal_of_first refusal.Column (over_clauses column_faults [] cs))
        (refusal_of_first refusal.Parameter (flat_map (unset_in_clause params) cs)) (codes code.Misuses ∙ over_misuses [] cs)
        (codes code.Columns ∙ over_lists refusal.Column column_faults [] cs) (codes code.Parameters ∙ over_flat refusal.Parameter (unset_in_clause params) [] cs)

    -- without one, the first in the order of the codes is that of the query
    pub first_of_all : first_kept r ≡ clauses_refusal params cs
    first_of_all =
        in_order (option_or r.kinds (option_or r.group_joins r.cond_joins)) (option_or r.empty_loops (option_or r.open_ends r.group_refs)) (option_or r.misuses (option_or r.columns r.parameters))
        (name_refusal cs) (repetition_refusal cs) (use_refusal params cs) joins repetition uses
