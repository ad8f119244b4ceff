-- Where nothing of a query is refused, each of its patterns is sound: the codes of a pattern are those of its clause.
use Rattle.std.proofs.Common.{◌≡◌, ℕ, Bool, true, false, List, [], ◌∷◌, map, flat_map, Option, Some, None, refl, ap}
use Rattle.std.proofs.lemmas.Bool.{or_parts}
use Rattle.std.specs.Prelude.{option_map}
use Rattle.std.specs.List.{list_any}
use Rattle.std.specs.Option.{option_or}
use Rattle.gql_values3.specs.Datum.{Datum}
use Rattle.gql_ast.specs.ClauseColumns.{ColumnList}
use Rattle.gql_ast.specs.declared.clause.Clause.{Clause}
use Rattle.gql_ast.specs.declared.clause.Clause.TheVariants as clause
use Rattle.gql_ast.specs.declared.clause.Match.{Match}
use Rattle.gql_ast.specs.declared.refusal.Refusal.{Refusal}
use Rattle.gql_ast.specs.declared.refusal.Refusal.TheVariants as refusal
use Rattle.gql_ast.specs.declared.refusal.ColumnRef.TheVariants as column
use Rattle.gql_expr_checks.specs.First.{first}
use Rattle.gql_expr_checks.specs.Refusals.{refusal_of_first, misuse_if}
use Rattle.gql_degrees.specs.FirstFaults.{told_number}
use Rattle.gql_norm.specs.NormalForm.{normal_form}
use Rattle.gql_norm.specs.UnknownNames.{unknown_in_match}
use Rattle.gql_norm.specs.WrongKinds.{wrong_in_match}
use Rattle.gql_norm.specs.JoinDefects.{joined_group, joined_conditional}
use Rattle.gql_norm.specs.Termination.{empty_loop, unbounded, group_references}
use Rattle.gql_norm.specs.OtherDefects.{misused_in_match, repeated_properties, unset_parameters}
use Rattle.gql_norm.specs.PatternRefusal.{refused_if}
use Rattle.gql_norm.specs.RowMatch.{IsSound}
use Rattle.gql_norm.proofs.NothingRefused.{neither, none_first, not_refused, both_empty}
use Rattle.gql_scope.specs.StatementBounds.{bounds_in_clause, first_bound}
use Rattle.gql_scope.specs.WholePatterns.{columns_past, over_clauses, unknown_names, wrong_kinds, at_most_one, joined_groups, joined_conditionals, of_pattern, open_references, is_misused, misused_over, column_faults, unset_in_clause, name_refusal, repetition_refusal, use_refusal, clauses_refusal}
use Rattle.gql_scope.specs.SoundMatches.{MatchesAreSound, AcceptedMatchesAreSound}

no_number : (ns : List ℕ) → option_map told_number (first ns) ≡ None → ns ≡ []
no_number [] e = refl
no_number (n ∷ ns) e = absurd (cc)

no_misuse : (b : Bool) → misuse_if b ≡ None → b ≡ false
no_misuse false e = refl
no_misuse true e = absurd (cc)

-- that no code finds anything in clauses
record Clean (params : List (List ℕ × Datum)) (columns : ColumnList) (cs : List Clause) : Type 0 where
  bounds : flat_map bounds_in_clause cs ≡ []
  names : over_clauses unknown_names columns cs ≡ []
  kinds : over_clauses wrong_kinds columns cs ≡ []
  groups : over_clauses joined_groups columns cs ≡ []
  conditionals : over_clauses joined_conditionals columns cs ≡ []
  loops : list_any (of_pattern empty_loop) cs ≡ false
  ends : list_any (of_pattern unbounded) cs ≡ false
  references : flat_map open_references cs ≡ []
  misuses : misused_over columns cs ≡ false
  faults : over_clauses column_faults columns cs ≡ []
  parameters : flat_map (unset_in_clause params) cs ≡ []

-- behind the first clause
rest : (params : List (List ℕ × Datum)) (columns : ColumnList) (c : Clause) (cs : List Clause) → Clean params columns (c ∷ cs) → Clean params (columns_past columns c) cs
rest params columns c cs clean = record {
  bounds = (both_empty (bounds_in_clause c) (flat_map bounds_in_clause cs) clean.bounds).1;
  names = (both_empty (unknown_names columns c) (over_clauses unknown_names (columns_past columns c) cs) clean.names).1;
  kinds = (both_empty (wrong_kinds columns c) (over_clauses wrong_kinds (columns_past columns c) cs) clean.kinds).1;
  groups = (both_empty (joined_groups columns c) (over_clauses joined_groups (columns_past columns c) cs) clean.groups).1;
  conditionals = (both_empty (joined_conditionals columns c) (over_clauses joined_conditionals (columns_past columns c) cs) clean.conditionals).1;
  loops = (or_parts (of_pattern empty_loop c) (list_any (of_pattern empty_loop) cs) clean.loops).1;
  ends = (or_parts (of_pattern unbounded c) (list_any (of_pattern unbounded) cs) clean.ends).1;
  references = (both_empty (open_references c) (flat_map open_references cs) clean.references).1;
  misuses = (or_parts (is_misused columns c) (misused_over (columns_past columns c) cs) clean.misuses).1;
  faults = (both_empty (column_faults columns c) (over_clauses column_faults (columns_past columns c) cs) clean.faults).1;
  parameters = (both_empty (unset_in_clause params c) (flat_map (unset_in_clause params) cs) clean.parameters).1;
}

-- a pattern of which no code finds anything is not refused
none_or : (r s : Option Refusal) → r ≡ None → s ≡ None → option_or r s ≡ None
none_or None s e f = f
none_or (Some r) s e f = absurd (cc)

not_joined : (refuse : List ℕ → Refusal) (o : Option (List ℕ)) → at_most_one o ≡ [] → option_map refuse o ≡ None
not_joined refuse None e = refl
not_joined refuse (Some x) e = absurd (cc)

unmapped : {A B : Type 0} (f : A → B) (xs : List A) → map f xs ≡ [] → xs ≡ []
unmapped f [] e = refl
unmapped f (x ∷ xs) e = absurd (cc)

sound_pattern : (params : List (List ℕ × Datum)) (columns : ColumnList) (m : Match) (cs : List Clause) → Clean params columns (clause.Match m ∷ cs) → IsSound params columns (normal_form m.pattern)
sound_pattern params columns m cs clean =
    let p = normal_form m.pattern in
    let past = columns_past columns (clause.Match m) in
    let properties = both_empty (map column.Property (repeated_properties p)) (over_clauses column_faults past cs) clean.faults in
    record {
      bounds = (both_empty (bounds_in_clause (clause.Match m)) (flat_map bounds_in_clause cs) clean.bounds).0;
      accepted =
          none_or _ _ (ap (refusal_of_first refusal.Variable) (both_empty (unknown_in_match columns p) (over_clauses unknown_names past cs) clean.names).0)
          (none_or _ _ (ap (refusal_of_first refusal.Kind) (both_empty (wrong_in_match columns p) (over_clauses wrong_kinds past cs) clean.kinds).0)
          (none_or _ _ (not_joined refusal.GroupJoin (joined_group columns p) (both_empty (at_most_one (joined_group columns p)) (over_clauses joined_groups past cs) clean.groups).0)
          (none_or _ _ (not_joined refusal.CondJoin (joined_conditional columns p) (both_empty (at_most_one (joined_conditional columns p)) (over_clauses joined_conditionals past cs) clean.conditionals).0)
          (none_or _ _ (ap (refused_if refusal.EmptyLoop) (or_parts (empty_loop p) (list_any (of_pattern empty_loop) cs) clean.loops).0)
          (none_or _ _ (ap (refused_if refusal.Unbounded) (or_parts (unbounded p) (list_any (of_pattern unbounded) cs) clean.ends).0)
          (none_or _ _ (ap (refusal_of_first refusal.GroupRef) (both_empty (group_references p) (flat_map open_references cs) clean.references).0)
          (none_or _ _ (ap (refused_if refusal.Misuse) (or_parts (misused_in_match columns p) (misused_over past cs) clean.misuses).0)
          (none_or _ _ (ap (refusal_of_first (λ x. refusal.Column (column.Property x))) (unmapped column.Property (repeated_properties p) properties.0))
          (ap (refusal_of_first refusal.Parameter) (both_empty (unset_parameters params p) (flat_map (unset_in_clause params) cs) clean.parameters).0)))))))));
    }

clean_is_sound : (params : List (List ℕ × Datum)) (columns : ColumnList) (cs : List Clause) → Clean params columns cs → MatchesAreSound params columns cs
clean_is_sound params columns [] clean = tt
clean_is_sound params columns (clause.Match m ∷ cs) clean =
    (sound_pattern params columns m cs clean, clean_is_sound params (columns_past columns (clause.Match m)) cs (rest params columns (clause.Match m) cs clean))
clean_is_sound params columns (clause.Let is ∷ cs) clean = clean_is_sound params (columns_past columns (clause.Let is)) cs (rest params columns (clause.Let is) cs clean)
clean_is_sound params columns (clause.Filter e ∷ cs) clean = clean_is_sound params (columns_past columns (clause.Filter e)) cs (rest params columns (clause.Filter e) cs clean)
clean_is_sound params columns (clause.For f ∷ cs) clean = clean_is_sound params (columns_past columns (clause.For f)) cs (rest params columns (clause.For f) cs clean)
clean_is_sound params columns (clause.Page p ∷ cs) clean = clean_is_sound params (columns_past columns (clause.Page p)) cs (rest params columns (clause.Page p) cs clean)
clean_is_sound params columns (clause.Change d ∷ cs) clean = clean_is_sound params (columns_past columns (clause.Change d)) cs (rest params columns (clause.Change d) cs clean)
clean_is_sound params columns (clause.Return r ∷ cs) clean = clean_is_sound params (columns_past columns (clause.Return r)) cs (rest params columns (clause.Return r) cs clean)

-- a query that is let through is clean
accepted_is_clean : (params : List (List ℕ × Datum)) (cs : List Clause) → first_bound cs ≡ None → clauses_refusal params cs ≡ None → Clean params [] cs
accepted_is_clean params cs unbound accepted =
    let codes = neither (name_refusal cs) (option_or (repetition_refusal cs) (use_refusal params cs)) accepted in
    let others = neither (repetition_refusal cs) (use_refusal params cs) codes.1 in
    let unknown = neither (refusal_of_first refusal.Variable (over_clauses unknown_names [] cs)) _ codes.0 in
    let wrong = neither (refusal_of_first refusal.Kind (over_clauses wrong_kinds [] cs)) _ unknown.1 in
    let joins = neither (refusal_of_first refusal.GroupJoin (over_clauses joined_groups [] cs)) (refusal_of_first refusal.CondJoin (over_clauses joined_conditionals [] cs)) wrong.1 in
    let empty = neither (refused_if refusal.EmptyLoop (list_any (of_pattern empty_loop) cs)) _ others.0 in
    let open_ends = neither (refused_if refusal.Unbounded (list_any (of_pattern unbounded) cs)) (refusal_of_first refusal.GroupRef (flat_map open_references cs)) empty.1 in
    let misuse = neither (misuse_if (misused_over [] cs)) _ others.1 in
    let uses = neither (refusal_of_first refusal.Column (over_clauses column_faults [] cs)) (refusal_of_first refusal.Parameter (flat_map (unset_in_clause params) cs)) misuse.1 in
    record {
      bounds = no_number (flat_map bounds_in_clause cs) unbound;
      names = none_first refusal.Variable (over_clauses unknown_names [] cs) unknown.0;
      kinds = none_first refusal.Kind (over_clauses wrong_kinds [] cs) wrong.0;
      groups = none_first refusal.GroupJoin (over_clauses joined_groups [] cs) joins.0;
      conditionals = none_first refusal.CondJoin (over_clauses joined_conditionals [] cs) joins.1;
      loops = not_refused refusal.EmptyLoop (list_any (of_pattern empty_loop) cs) empty.0;
      ends = not_refused refusal.Unbounded (list_any (of_pattern unbounded) cs) open_ends.0;
      references = none_first refusal.GroupRef (flat_map open_references cs) open_ends.1;
      misuses = no_misuse (misused_over [] cs) misuse.0;
      faults = none_first refusal.Column (over_clauses column_faults [] cs) uses.0;
      parameters = none_first refusal.Parameter (flat_map (unset_in_clause params) cs) uses.1;
    }

pub sound_matches : AcceptedMatchesAreSound
sound_matches params q unbound accepted = clean_is_sound params [] q.clauses (accepted_is_clean params q.clauses unbound accepted)
