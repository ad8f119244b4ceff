-- What is known of a statement that nothing refuses before it runs: what it names is there, what it makes isn't, and its patterns or
-- the text of its graph type are sound.
use Rattle.std.proofs.Common.{◌≡◌, List, [], ◌∷◌, map, Option, Some, None, refl}
use Rattle.std.specs.Prelude.{ℤ, option_map}
use Rattle.std.specs.Fmt.{signed_decimal}
use Rattle.std.specs.Option.{option_or}
use Rattle.gql_ast.specs.ClauseColumns.{ColumnList}
use Rattle.gql_ast.specs.NumberLiterals.{wide_number}
use Rattle.gql_ast.specs.declared.clause.Clause.{Clause}
use Rattle.gql_ast.specs.declared.clause.Clause.TheVariants as clause
use Rattle.gql_ast.specs.declared.graph_type.TypeBody.{TypeBody}
use Rattle.gql_ast.specs.declared.refusal.ColumnRef.TheVariants as column
use Rattle.gql_ast.specs.declared.refusal.Refusal.{Refusal}
use Rattle.gql_ast.specs.declared.refusal.Refusal.TheVariants as refusal
use Rattle.gql_ast.specs.declared.statement.CatalogStatement.{CatalogStatement}
use Rattle.gql_ast.specs.declared.statement.CatalogStatement.TheVariants as catalog
use Rattle.gql_ast.specs.declared.statement.Statement.{Statement}
use Rattle.gql_ast.specs.declared.statement.Statement.TheVariants as statement
use Rattle.gql_expr_checks.specs.Refusals.{refusal_of_first}
use Rattle.gql_linear.specs.SoundQuery as linear
use Rattle.gql_linear.specs.SoundQuery.{columns_past}
use Rattle.gql_scope.specs.SoundMatches as scope
use Rattle.gql_scope.specs.StatementBounds.{bound_of_statement}
use Rattle.gql_scope.specs.CatalogRefusals.{type_refusal, catalog_refusal}
use Rattle.gql_scope.specs.WholePatterns.{whole_refusal}
use Rattle.gql_scope.proofs.SoundLemmas.{sound_matches}
use Rattle.gql_type.specs.BodyFaults.{wrong_aliases, repeated_names}
use Rattle.gql_machine.specs.SessionState.{SessionState, ParameterList}
use Rattle.gql_machine.specs.StateRefusals.{missing_refusal, taken_refusal, transaction_refusal}
use Rattle.gql_machine.specs.StatementRun.{bound_refusal, first_refusal}
use Rattle.gql_machine.specs.Machinery.Allowed.{IsSoundBody, IsSoundType, IsSoundStatement, IsAllowed}

neither : (r s : Option Refusal) → option_or r s ≡ None → (r ≡ None) × (s ≡ None)
neither None s h = (refl, h)
neither (Some r) s h = absurd (cc)

unmapped : {A B : Type 0} (f : A → B) (o : Option A) → option_map f o ≡ None → o ≡ None
unmapped f None h = refl
unmapped f (Some x) h = absurd (cc)

none_first : {A : Type 0} (refuse : A → Refusal) (xs : List A) → refusal_of_first refuse xs ≡ None → xs ≡ []
none_first refuse [] h = refl
none_first refuse (x ∷ xs) h = absurd (cc)

unmapped_list : {A B : Type 0} (f : A → B) (xs : List A) → map f xs ≡ [] → xs ≡ []
unmapped_list f [] h = refl
unmapped_list f (x ∷ xs) h = absurd (cc)

-- what scopes say of the patterns is what the run asks
same_sound : (params : ParameterList) (columns : ColumnList) (cs : List Clause) → scope.MatchesAreSound params columns cs → linear.MatchesAreSound params columns cs
same_sound params columns [] h = tt
same_sound params columns (clause.Match m ∷ cs) h = (h.0, same_sound params (columns_past columns (clause.Match m)) cs h.1)
same_sound params columns (clause.Let x ∷ cs) h = same_sound params (columns_past columns (clause.Let x)) cs h
same_sound params columns (clause.Filter x ∷ cs) h = same_sound params (columns_past columns (clause.Filter x)) cs h
same_sound params columns (clause.For x ∷ cs) h = same_sound params (columns_past columns (clause.For x)) cs h
same_sound params columns (clause.Page x ∷ cs) h = same_sound params (columns_past columns (clause.Page x)) cs h
same_sound params columns (clause.Change x ∷ cs) h = same_sound params (columns_past columns (clause.Change x)) cs h
same_sound params columns (clause.Return x ∷ cs) h = same_sound params (columns_past columns (clause.Return x)) cs h

sound_body : (body : TypeBody) → type_refusal body ≡ None → IsSoundBody body
sound_body body h =
    let parts = neither (refusal_of_first refusal.Variable (wrong_aliases body)) (refusal_of_first refusal.Column (map column.Property (repeated_names body.elements))) h in
    record {
      aliases = none_first refusal.Variable (wrong_aliases body) parts.0;
      names = unmapped_list column.Property (repeated_names body.elements) (none_first refusal.Column (map column.Property (repeated_names body.elements)) parts.1);
    }

sound_type : (t : CatalogStatement) → catalog_refusal t ≡ None → IsSoundType t
sound_type (catalog.CreateType lenient name body) h = sound_body body h
sound_type (catalog.CreateGraph lenient name k) h = tt
sound_type (catalog.DropGraph lenient name) h = tt
sound_type (catalog.DropType lenient name) h = tt

sound_statement : (params : ParameterList) (s : Statement) → bound_refusal s ≡ None → whole_refusal params s ≡ None → IsSoundStatement params s
sound_statement params (statement.Query q) h k =
    same_sound params [] q.clauses (sound_matches params q (unmapped (λ (n : ℤ). refusal.Bounds (signed_decimal n)) (bound_of_statement (statement.Query q)) h) k)
sound_statement params (statement.Session x) h k = tt
sound_statement params (statement.Transaction x) h k = tt
sound_statement params (statement.Catalog x) h k = sound_type x k

pub allowed : (before : SessionState) (s : Statement) → first_refusal before s ≡ None → IsAllowed before s
allowed before s h =
    let numbers = neither (option_map refusal.Number (wide_number s)) _ h in
    let bounds = neither (bound_refusal s) _ numbers.1 in
    let missing = neither (missing_refusal before s) _ bounds.1 in
    let taken = neither (taken_refusal before s) _ missing.1 in
    let whole = neither (whole_refusal before.parameters s) (transaction_refusal before s) taken.1 in
    record { missing = missing.0; taken = taken.0; sound = sound_statement before.parameters s bounds.0 whole.0 }
