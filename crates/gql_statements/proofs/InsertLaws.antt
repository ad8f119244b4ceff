-- The laws of INSERT.
use Rattle.std.proofs.Common.{◌≡◌, ◌<◌, Bool, true, List, ◌∷◌, length, Some, None, refl, ap, ◌∙◌, arith}
use Rattle.gql_lexer.specs.declared.lexeme.Lexeme.{Lexeme}
use Rattle.gql_lexer.specs.declared.lexeme.Lexeme.TheVariants as lex
use Rattle.gql_ast.specs.declared.change.Arrow.{Arrow}
use Rattle.gql_ast.specs.declared.change.Arrow.TheVariants as arrow
use Rattle.gql_ast.specs.declared.change.Fill.{Fill}
use Rattle.gql_ast.specs.declared.change.InsertPath.{InsertPath}
use Rattle.gql_ast.specs.declared.change.InsertStep.{InsertStep}
use Rattle.gql_lexer.specs.SymbolPlaces.{opening, closing, opening_bracket, closing_bracket, comma}
use Rattle.gql_front.specs.Tables.{Begins}
use Rattle.gql_front.specs.Reading.{is_sign, after, op_at, many}
use Rattle.gql_front.proofs.Found.{Sound, is_there}
use Rattle.gql_front.proofs.Chains.{Many}
use Rattle.gql_front.proofs.LexemeTests.{sign_is}
use Rattle.gql_front.proofs.TableLemmas.{begins_read, read_begins, sign_row}
use Rattle.gql_parts.specs.Parts.{Passes, IsListOf}
use Rattle.gql_statements.specs.ChangeGrammar.{opening_of, IsInsertStep, AreInsertSteps, IsInsertPath}
use Rattle.gql_type.specs.TypeWords.{arrow_signs, arrow_sign, closing_of}
use Rattle.gql_statements.specs.Machinery.ChangeReaders.{insert_node_of, bracketed_of, insert_edge_of, insert_step_of, insert_steps_of, insert_path_of, insert_paths_of}
use Rattle.gql_parts.proofs.PartLaws.{Stops, bind_then, finish, passes_after, after_passes, passes_shorter, stops_op}
use Rattle.gql_parts.proofs.ListLaws.{listed_sound, listed_exact, list_shorter}
use Rattle.gql_parts.proofs.ManyLaws.{many_sound, many_exact, many_shorter}
use Rattle.gql_statements.proofs.FillLaws.{Between, between_sound, between_exact, between_shorter}

-- The symbol before an edge's brackets

arrow_passes : (w : Arrow) (ts r : List Lexeme) → Begins arrow_sign w ts r → Passes (is_sign (opening_of w)) ts r
arrow_passes w ts r h = (h.0, sign_row (λ t w. is_sign (opening_of w) t ≡ true) arrow_signs (refl, (refl, (refl, tt))) h.0 w h.1, h.2)

arrow_says : (w : Arrow) → arrow_sign (lex.Sign (opening_of w)) ≡ Some w
arrow_says arrow.Right = refl
arrow_says arrow.Left = refl
arrow_says arrow.Undirected = refl

passes_arrow : (w : Arrow) (ts r : List Lexeme) → Passes (is_sign (opening_of w)) ts r → Begins arrow_sign w ts r
passes_arrow w ts r h = (h.0, ap arrow_sign (sign_is (opening_of w) h.0 h.1) ∙ arrow_says w, h.2)

-- Edges

abbrev IsEdge : Arrow × Fill → List Lexeme → List Lexeme → Type 0
IsEdge e ts r =
    (a : List Lexeme) × Passes (is_sign (opening_of e.0)) ts a × (b : List Lexeme) × Between opening_bracket closing_bracket e.1 a b × Passes (is_sign (closing_of e.0)) b r

edge_sound : Sound IsEdge insert_edge_of
unfolding insert_edge_of
edge_sound ts x r e =
    bind_then (op_at arrow_sign ts) _ (x, r) e (λ w p e.
    bind_then (bracketed_of w.1) _ (x, r) e (λ f q e.
    bind_then (after (is_sign (closing_of w.0)) f.1) _ (x, r) e (λ b k e.
    finish (λ x r. IsEdge x ts r) (w.0, f.0) b x r e (
      w.1,
      arrow_passes w.0 ts w.1 (read_begins arrow_sign ts w.0 w.1 p),
      f.1,
      between_sound opening_bracket closing_bracket w.1 f.0 f.1 q,
      after_passes (is_sign (closing_of w.0)) f.1 b k,
    ))))

edge_exact : (x : Arrow × Fill) (ts s : List Lexeme) → IsEdge x ts s → insert_edge_of ts ≡ Some (x, s)
unfolding insert_edge_of
edge_exact x ts s h =
    rw (
      begins_read arrow_sign x.0 ts h.0 (passes_arrow x.0 ts h.0 h.1),
      between_exact opening_bracket closing_bracket refl x.1 h.0 h.2 h.3,
      passes_after (is_sign (closing_of x.0)) h.2 s h.4,
    ) refl

-- Steps

edge_in : (s : InsertStep) (ts r : List Lexeme) (h : IsInsertStep s ts r) → IsEdge (s.arrow, s.edge) ts h.8
edge_in s ts r h = (h.0, h.1, h.6, (h.2, h.3, h.4, h.5, h.7), h.9)

step_from : (s : InsertStep) (ts m r : List Lexeme) → IsEdge (s.arrow, s.edge) ts m → Between opening closing s.node m r → IsInsertStep s ts r
step_from s ts m r h k = let f = h.3 in (h.0, h.1, f.0, f.1, f.2, f.3, h.2, f.4, m, h.4, k)

step_sound : Sound IsInsertStep insert_step_of
unfolding insert_step_of
step_sound ts s r e =
    bind_then (insert_edge_of ts) _ (s, r) e (λ x p e.
    bind_then (insert_node_of x.1) _ (s, r) e (λ n q e.
    let found : InsertStep = record { arrow = x.0.0; edge = x.0.1; node = n.0 } in
    finish (λ s r. IsInsertStep s ts r) found n.1 s r e (step_from found ts x.1 n.1 (edge_sound ts x.0 x.1 p) (between_sound opening closing x.1 n.0 n.1 q))))

step_exact : (s : InsertStep) (ts r : List Lexeme) → IsInsertStep s ts r → insert_step_of ts ≡ Some (s, r)
unfolding insert_step_of
step_exact s ts r h = rw (edge_exact (s.arrow, s.edge) ts h.8 (edge_in s ts r h), between_exact opening closing refl s.node h.8 r h.10) refl

step_shorter : (s : InsertStep) (ts r : List Lexeme) → IsInsertStep s ts r → length r < length ts
step_shorter s ts r h =
    omega (
      arith,
      passes_shorter (is_sign (opening_of s.arrow)) ts h.0 h.1,
      between_shorter opening_bracket closing_bracket s.edge h.0 h.6 (h.2, h.3, h.4, h.5, h.7),
      passes_shorter (is_sign (closing_of s.arrow)) h.6 h.8 h.9,
      between_shorter opening closing s.node h.8 r h.10,
    )

-- a path may go on with these
abbrev pub goes_path : Lexeme → Bool
goes_path t = is_there (arrow_sign t)

no_edge : (ts : List Lexeme) → Stops goes_path ts → insert_edge_of ts ≡ None
unfolding insert_edge_of
no_edge ts stop = rw (stops_op arrow_sign ts stop) refl

no_step : (ts : List Lexeme) → Stops goes_path ts → insert_step_of ts ≡ None
unfolding insert_step_of
no_step ts stop = rw (no_edge ts stop) refl

steps_are : Many IsInsertStep AreInsertSteps
steps_are = record { none = λ r. refl; is_none = λ ts r h. h; more = more; is_more = is_more }
  where
    more : (s : InsertStep) (ss : List InsertStep) (ts m r : List Lexeme) → IsInsertStep s ts m → AreInsertSteps ss m r → AreInsertSteps (s ∷ ss) ts r
    more s ss ts m r h k = (m, h, k)

    is_more : (s : InsertStep) (ss : List InsertStep) (ts r : List Lexeme) → AreInsertSteps (s ∷ ss) ts r → (m : List Lexeme) × IsInsertStep s ts m × AreInsertSteps ss m r
    is_more s ss ts r h = h

-- Paths

path_sound : Sound IsInsertPath insert_path_of
unfolding insert_path_of insert_steps_of
path_sound ts p r e =
    bind_then (insert_node_of ts) _ (p, r) e (λ n q e.
    let steps = many insert_step_of (length n.1) n.1 in
    finish (λ p r. IsInsertPath p ts r) (record { start = n.0; steps = steps.0 }) steps.1 p r e
    (n.1, between_sound opening closing ts n.0 n.1 q, many_sound insert_step_of IsInsertStep AreInsertSteps steps_are step_sound (length n.1) n.1))

path_exact : (p : InsertPath) (ts s : List Lexeme) → IsInsertPath p ts s → Stops goes_path s → insert_path_of ts ≡ Some (p, s)
unfolding insert_path_of insert_steps_of
path_exact p ts s h stop =
    let steps = many_exact insert_step_of IsInsertStep AreInsertSteps steps_are step_shorter step_exact p.steps (length h.0) h.0 s (omega arith) h.2 (no_step s stop) in
    rw (between_exact opening closing refl p.start ts h.0 h.1)
    (ap (λ (z : List InsertStep × List Lexeme). let found : InsertPath = record { start = p.start; steps = z.0 } in Some (found, z.1)) steps)

path_shorter : (p : InsertPath) (ts r : List Lexeme) → IsInsertPath p ts r → length r < length ts
path_shorter p ts r h =
    omega (arith, between_shorter opening closing p.start ts h.0 h.1, many_shorter insert_step_of IsInsertStep AreInsertSteps steps_are step_shorter p.steps h.0 r h.2)

-- INSERT, behind that word

pub insert_sound : Sound (IsListOf IsInsertPath) insert_paths_of
unfolding insert_paths_of
insert_sound = listed_sound insert_path_of IsInsertPath path_sound

pub insert_exact : (ps : List InsertPath) (ts s : List Lexeme) → IsListOf IsInsertPath ps ts s → Stops goes_path s → Stops (is_sign comma) s → insert_paths_of ts ≡ Some (ps, s)
unfolding insert_paths_of
insert_exact = listed_exact insert_path_of IsInsertPath goes_path refl path_shorter path_exact

pub insert_shorter : (ps : List InsertPath) (ts r : List Lexeme) → IsListOf IsInsertPath ps ts r → length r < length ts
insert_shorter = list_shorter insert_path_of IsInsertPath path_shorter
