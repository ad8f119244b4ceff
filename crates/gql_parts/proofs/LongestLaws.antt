-- Each reader gives the longest front that derives its part. What is derived is read, or more is, and then the next lexeme
-- is one with which the part may go on.
use Rattle.std.proofs.Common.{◌≡◌, ◌≤◌, Bool, false, ◌||◌, ℕ, List, length, Option, Some, None, option_map, refl, ap, subst, ◌∙◌, arith}
use Rattle.gql_lexer.specs.declared.lexeme.Lexeme.{Lexeme}
use Rattle.gql_lexer.specs.declared.lexeme.Lexeme.TheVariants as lex
use Rattle.gql_lexer.specs.SymbolPlaces.{opening_brace}
use Rattle.gql_lexer.specs.WordPlaces.{WHERE}
use Rattle.gql_ast.specs.declared.expr.Expr.{Expr}
use Rattle.gql_ast.specs.declared.label.LabelExpr.{LabelExpr}
use Rattle.gql_ast.specs.declared.filler.Condition.{Condition}
use Rattle.gql_ast.specs.declared.filler.Condition.TheVariants as condition
use Rattle.gql_ast.specs.declared.filler.Filler.{Filler}
use Rattle.gql_ast.specs.declared.filler.MapItem.{MapItem}
use Rattle.gql_front.specs.Longest.{Longest}
use Rattle.gql_front.specs.Tables.{Begins}
use Rattle.gql_front.specs.Reading.{is_sign, is_word, name_in, after, op_at, maybe, opted}
use Rattle.gql_front.proofs.Agree.{is_longest}
use Rattle.gql_front.proofs.Found.{Goes, Goes-left, Goes-right, Found, exact, longer, exact_at}
use Rattle.gql_front.proofs.TableLemmas.{begins_read, read_begins, begins_shorter, begins_goes}
use Rattle.gql_exprs.proofs.ExprLists.{goes_or}
use Rattle.gql_exprs.proofs.LabelLevels.{goes_label}
use Rattle.gql_parts.specs.Parts.{Passes, IsOptional}
use Rattle.gql_parts.specs.Values.{IsValue, IsLabels}
use Rattle.gql_parts.specs.PartWords.{is_colon}
use Rattle.gql_parts.specs.FillerGrammar.{IsWhere, IsCondition, AsksLabels, IsFiller}
use Rattle.gql_parts.specs.Machinery.PartReaders.{read_value, read_labels}
use Rattle.gql_parts.specs.Machinery.FillerReaders.{where_of, map_of, as_condition, map_or_where, condition_of, variable_of, filler_labels_of, filler_of}
use Rattle.gql_parts.proofs.PartLaws.{Apart, nothing, opted_found, always_given, passes_after, after_passes, passes_shorter, passes_goes, stops_after, word_apart, sign_apart, passes_stops, led_found}
use Rattle.gql_parts.proofs.ValueLaws.{value_sound, value_found, value_shrinks, labels_sound, labels_found, labels_shrink}
use Rattle.gql_parts.proofs.FillerLaws.{where_sound, map_sound, map_exact, map_shorter, is_name, colon_apart, filler_sound}

-- Expressions and label expressions

pub value_longest : (ts : List Lexeme) → Longest IsValue ts (read_value ts)
value_longest ts = is_longest IsValue goes_or ts (read_value ts) (value_sound ts) (λ y s h. value_found y ts s h)

pub labels_longest : (ts : List Lexeme) → Longest IsLabels ts (read_labels ts)
labels_longest ts = is_longest IsLabels goes_label ts (read_labels ts) (labels_sound ts) (λ y s h. labels_found y ts s h)

-- WHERE

abbrev pub goes_where : Lexeme → Bool
goes_where t = goes_or t || is_word WHERE t

pub where_found : (e : Option Expr) (ts s : List Lexeme) → IsOptional IsWhere e ts s → Found (where_of ts) goes_where e s
unfolding where_of
where_found e ts s h = led_found (is_word WHERE) read_value IsWhere IsValue (λ x ts r h. h) (λ x ts r h. h) goes_or value_shrinks e ts s (λ x a k. value_found x a s k) h

pub where_longest : (ts : List Lexeme) → Longest (IsOptional IsWhere) ts (where_of ts)
where_longest ts = is_longest (IsOptional IsWhere) goes_where ts (where_of ts) (where_sound ts) (λ y s h. where_found y ts s h)

-- Labels behind a colon or IS

abbrev pub goes_colon : Lexeme → Bool
goes_colon t = goes_label t || is_colon t

filler_labels_found : (l : Option LabelExpr) (ts s : List Lexeme) → IsOptional AsksLabels l ts s → Found (filler_labels_of ts) goes_colon l s
unfolding filler_labels_of
filler_labels_found l ts s h = led_found is_colon read_labels AsksLabels IsLabels (λ x ts r h. h) (λ x ts r h. h) goes_label labels_shrink l ts s (λ x a k. labels_found x a s k) h

filler_labels_given : (ts : List Lexeme) → (y : Option LabelExpr × List Lexeme) × (filler_labels_of ts ≡ Some y) × (length y.1 ≤ length ts)
filler_labels_given ts = always_given (filler_labels_of ts) goes_colon None ts (filler_labels_found None ts ts refl)

-- A map, or WHERE

abbrev pub goes_condition : Lexeme → Bool
goes_condition t = goes_where t || is_sign opening_brace t

-- where no brace stands
no_brace : (ts : List Lexeme) (c : Option Expr) (s : List Lexeme) → after (is_sign opening_brace) ts ≡ None → Found (where_of ts) goes_where c s
    → Found (condition_of ts) goes_condition (option_map condition.Where c) s
unfolding condition_of
no_brace ts c s p (exact e) = exact (ap (map_or_where ts) p ∙ rw e refl)
no_brace ts c s p (longer x r e l i) = longer (option_map condition.Where x) r (ap (map_or_where ts) p ∙ rw e refl) l (Goes-left goes_where (is_sign opening_brace) s i)

nothing_found : (ts : List Lexeme) → Found (condition_of ts) goes_condition None ts
unfolding condition_of
nothing_found ts = go (after (is_sign opening_brace) ts) refl
  where
    here : (a : List Lexeme) → after (is_sign opening_brace) ts ≡ Some a → (m : Option (List MapItem × List Lexeme)) → map_of a ≡ m
        → Found (condition_of ts) goes_condition None ts
    here a p None q = exact (ap (map_or_where ts) p ∙ ap (λ (z : Option (List MapItem × List Lexeme)). Some (opted ts (as_condition z))) q)
    here a p (Some m) q =
        let passes = after_passes (is_sign opening_brace) ts a p in
        longer (Some (condition.Map m.0)) m.1 (ap (map_or_where ts) p ∙ ap (λ (z : Option (List MapItem × List Lexeme)). Some (opted ts (as_condition z))) q)
        (omega (arith, passes_shorter (is_sign opening_brace) ts a passes, map_shorter m.0 a m.1 (map_sound a m.0 m.1 q)))
        (Goes-right goes_where (is_sign opening_brace) ts (passes_goes (is_sign opening_brace) ts a passes))

    go : (o : Option (List Lexeme)) → after (is_sign opening_brace) ts ≡ o → Found (condition_of ts) goes_condition None ts
    go None p = no_brace ts None ts p (where_found None ts ts refl)
    go (Some a) p = here a p (map_of a) refl

condition_found : (c : Option Condition) (ts s : List Lexeme) → IsOptional IsCondition c ts s → Found (condition_of ts) goes_condition c s
unfolding condition_of
condition_found None ts s h = subst (λ z. Found (condition_of ts) goes_condition None z) h (nothing_found ts)
condition_found (Some (condition.Map is)) ts s h =
    exact (ap (map_or_where ts) (passes_after (is_sign opening_brace) ts h.0 h.1) ∙ rw (map_exact is h.0 s (h.2, h.3, h.4)) refl)
condition_found (Some (condition.Where e)) ts s h =
    let begins = passes_stops (is_word WHERE) (is_sign opening_brace) (word_apart WHERE (is_sign opening_brace) (λ x. refl)) ts h.0 h.1 in
    no_brace ts (Some e) s (stops_after (is_sign opening_brace) ts begins) (where_found (Some e) ts s h)

condition_given : (ts : List Lexeme) → (y : Option Condition × List Lexeme) × (condition_of ts ≡ Some y) × (length y.1 ≤ length ts)
condition_given ts = always_given (condition_of ts) goes_condition None ts (condition_found None ts ts refl)

-- what begins with none of g is missing
no_condition : (g : Lexeme → Bool) → Apart (is_sign opening_brace) g → Apart (is_word WHERE) g → (c : Option Condition) (m s : List Lexeme) → IsOptional IsCondition c m s → Goes g m → m ≡ s
no_condition g brace word None m s h i = h
no_condition g brace word (Some (condition.Map is)) m s h i = absurd (passes_stops (is_sign opening_brace) g brace m h.0 h.1 i)
no_condition g brace word (Some (condition.Where e)) m s h i = absurd (passes_stops (is_word WHERE) g word m h.0 h.1 i)

no_labels : (l : Option LabelExpr) (m s : List Lexeme) → IsOptional AsksLabels l m s → Goes is_name m → m ≡ s
no_labels None m s h i = h
no_labels (Some l) m s h i = absurd (passes_stops is_colon is_name (colon_apart is_name refl (λ x. refl)) m h.0 h.1 i)

-- Fillers

variable_found : (x : Option (List ℕ)) (ts s : List Lexeme) → IsOptional (Begins name_in) x ts s → Found (variable_of ts) is_name x s
unfolding variable_of maybe
variable_found x ts s h =
    opted_found (op_at name_in) (Begins name_in) nothing is_name (λ ts x r e. begins_shorter name_in x ts r (read_begins name_in ts x r e))
    (λ ts x r e. begins_goes name_in x ts r (read_begins name_in ts x r e)) x ts s (λ x k. exact (begins_read name_in x ts s k)) h

abbrev pub goes_filler : Lexeme → Bool
goes_filler t = is_name t || (goes_colon t || goes_condition t)

module _ (f : Filler) (ts s : List Lexeme) (h : IsFiller f ts s) where
  -- behind the variable and the labels
  last_part : variable_of ts ≡ Some (f.variable, h.0) → filler_labels_of h.0 ≡ Some (f.labels, h.2) → Found (condition_of h.2) goes_condition f.condition s
      → Found (filler_of ts) goes_filler f s
  unfolding filler_of
  last_part e k (exact c) = exact (rw (e, k, c) refl)
  last_part e k (longer y r c l i) =
      longer (record { variable = f.variable; labels = f.labels; condition = y }) r (rw (e, k, c) refl) l
      (Goes-right is_name (λ t. goes_colon t || goes_condition t) s (Goes-right goes_colon goes_condition s i))

  -- behind the variable
  middle_part : variable_of ts ≡ Some (f.variable, h.0) → Found (filler_labels_of h.0) goes_colon f.labels h.2 → Found (filler_of ts) goes_filler f s
  unfolding filler_of
  middle_part e (exact k) = last_part e k (condition_found f.condition h.2 s h.4)
  middle_part e (longer y r k l i) =
      let last = condition_given r in
      let missing = no_condition goes_colon (sign_apart opening_brace goes_colon refl) (word_apart WHERE goes_colon (λ x. refl)) f.condition h.2 s h.4 i in
      longer (record { variable = f.variable; labels = y; condition = last.0.0 }) last.0.1 (rw (e, k, last.1) refl) (omega (arith, l, last.2, ap length missing))
      (Goes-right is_name (λ t. goes_colon t || goes_condition t) s (Goes-left goes_colon goes_condition s (subst (λ z. Goes goes_colon z) missing i)))

  first_part : Found (variable_of ts) is_name f.variable h.0 → Found (filler_of ts) goes_filler f s
  unfolding filler_of
  first_part (exact e) = middle_part e (filler_labels_found f.labels h.0 h.2 h.3)
  first_part (longer x r e l i) =
      let middle = filler_labels_given r in
      let last = condition_given middle.0.1 in
      let unlabelled = no_labels f.labels h.0 h.2 h.3 i in
      let missing =
      no_condition is_name (sign_apart opening_brace is_name refl) (word_apart WHERE is_name (λ x. refl)) f.condition h.2 s h.4 (subst (λ z. Goes is_name z) unlabelled i) in
      longer (record { variable = x; labels = middle.0.0; condition = last.0.0 }) last.0.1 (rw (e, middle.1, last.1) refl)
      (omega (arith, l, middle.2, last.2, ap length unlabelled, ap length missing))
      (Goes-left is_name (λ t. goes_colon t || goes_condition t) s (subst (λ z. Goes is_name z) (unlabelled ∙ missing) i))

  filler_found : Found (filler_of ts) goes_filler f s
  filler_found = first_part (variable_found f.variable ts h.0 h.1)

pub filler_longest : (ts : List Lexeme) → Longest IsFiller ts (filler_of ts)
filler_longest ts = is_longest IsFiller goes_filler ts (filler_of ts) (filler_sound ts) (λ f s h. filler_found f ts s h)

-- a filler before a symbol with which it doesn't go on is read exactly
pub filler_exact : (place : ℕ) → goes_filler (lex.Sign place) ≡ false → (f : Filler) (ts s r : List Lexeme) → IsFiller f ts s → Passes (is_sign place) s r
    → filler_of ts ≡ Some (f, s)
filler_exact place none f ts s r h end =
    exact_at (filler_of ts) goes_filler f s (filler_found f ts s h) (passes_stops (is_sign place) goes_filler (sign_apart place goes_filler none) s r end)
