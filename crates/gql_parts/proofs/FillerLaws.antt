-- The laws of fillers, of maps and of WHERE.
use Rattle.std.proofs.Common.{◌≡◌, ◌<◌, ◌≤◌, Bool, false, ℕ, List, length, Option, Some, None, option_map, refl, ap, arith}
use Rattle.gql_lexer.specs.declared.lexeme.Lexeme.{Lexeme}
use Rattle.gql_lexer.specs.declared.lexeme.Lexeme.TheVariants as lex
use Rattle.gql_ast.specs.declared.expr.Expr.{Expr}
use Rattle.gql_ast.specs.declared.label.LabelExpr.{LabelExpr}
use Rattle.gql_ast.specs.declared.filler.Condition.{Condition}
use Rattle.gql_ast.specs.declared.filler.Condition.TheVariants as condition
use Rattle.gql_ast.specs.declared.filler.Filler.{Filler}
use Rattle.gql_ast.specs.declared.filler.MapItem.{MapItem}
use Rattle.gql_lexer.specs.SymbolPlaces.{opening_brace, closing_brace, colon}
use Rattle.gql_lexer.specs.WordPlaces.{IS, WHERE}
use Rattle.gql_front.specs.Tables.{Begins}
use Rattle.gql_front.specs.Reading.{is_sign, is_word, name_in, any_name_in, after, op_at, maybe, opted}
use Rattle.gql_front.proofs.Found.{Sound, is_there}
use Rattle.gql_front.proofs.TableLemmas.{read_begins, begins_shorter}
use Rattle.gql_exprs.proofs.ExprLists.{goes_or}
use Rattle.gql_parts.specs.Parts.{IsOptional}
use Rattle.gql_parts.specs.Values.{IsValue, IsLabels}
use Rattle.gql_parts.specs.PartWords.{is_colon}
use Rattle.gql_parts.specs.FillerGrammar.{IsWhere, IsMapItem, IsCondition, AsksLabels, IsFiller}
use Rattle.gql_parts.specs.Machinery.PartReaders.{read_value, read_labels}
use Rattle.gql_parts.specs.Machinery.FillerReaders.{where_of, as_map_item, map_item_of, map_of, as_condition, map_or_where, condition_of, variable_of, filler_labels_of, filler_of}
use Rattle.gql_parts.proofs.PartLaws.{Stops, Apart, bind_then, finish, after_passes, passes_shorter, word_apart, sign_apart, begins_stops, optional_shorter, maybe_sound, said_exact, either_apart, says_no_sign, led_sound}
use Rattle.gql_parts.proofs.BraceLaws.{ToBrace, to_brace_sound, to_brace_exact, to_brace_shorter}
use Rattle.gql_parts.proofs.ValueLaws.{value_sound, value_shorter, labels_sound, labels_shorter}
use Rattle.gql_parts.proofs.NamedLaws.{named_sound, named_exact, named_shorter}

-- [WHERE Expr]

pub where_sound : Sound (IsOptional IsWhere) where_of
unfolding where_of
where_sound = led_sound (is_word WHERE) read_value IsWhere IsValue (λ x ts r h. h) (λ x ts r h. h) value_sound

pub where_shorter : (e : Option Expr) (ts r : List Lexeme) → IsOptional IsWhere e ts r → length r ≤ length ts
where_shorter = optional_shorter IsWhere (λ e ts r h. omega (arith, passes_shorter (is_word WHERE) ts h.0 h.1, value_shorter e h.0 r h.2))

-- Maps

map_item_sound : Sound IsMapItem map_item_of
unfolding map_item_of
map_item_sound = named_sound any_name_in colon as_map_item IsMapItem (λ x e ts r h. h)

map_item_exact : (i : MapItem) (ts s : List Lexeme) → IsMapItem i ts s → Stops goes_or s → map_item_of ts ≡ Some (i, s)
unfolding map_item_of
map_item_exact i ts s h stop = named_exact any_name_in colon as_map_item i.name i.value ts s h stop

pub map_item_shorter : (i : MapItem) (ts r : List Lexeme) → IsMapItem i ts r → length r < length ts
map_item_shorter i ts r h = named_shorter any_name_in colon i.name i.value ts r h

-- what stands behind the opening brace
abbrev pub MapRest : List MapItem → List Lexeme → List Lexeme → Type 0
MapRest = ToBrace IsMapItem

pub map_sound : Sound MapRest map_of
unfolding map_of
map_sound = to_brace_sound map_item_of IsMapItem map_item_sound

map_item_starts : (i : MapItem) (ts r : List Lexeme) → IsMapItem i ts r → Stops (is_sign closing_brace) ts
map_item_starts i ts r h = begins_stops any_name_in (is_sign closing_brace) (says_no_sign any_name_in closing_brace refl) i.name ts h.0 h.1

pub map_exact : (is : List MapItem) (ts s : List Lexeme) → MapRest is ts s → map_of ts ≡ Some (is, s)
unfolding map_of
map_exact = to_brace_exact map_item_of IsMapItem map_item_shorter goes_or refl refl map_item_exact map_item_starts

pub map_shorter : (is : List MapItem) (ts r : List Lexeme) → MapRest is ts r → length r < length ts
map_shorter = to_brace_shorter map_item_of IsMapItem map_item_shorter

-- [Map; WHERE Expr]

pub condition_sound : Sound (IsOptional IsCondition) condition_of
unfolding condition_of
condition_sound ts c r e = go (after (is_sign opening_brace) ts) refl e
  where
    held : (w : Option Expr) (s : List Lexeme) → IsOptional IsWhere w ts s → IsOptional IsCondition (option_map condition.Where w) ts s
    held None s h = h
    held (Some x) s h = h

    held_map : (a : List Lexeme) → after (is_sign opening_brace) ts ≡ Some a → (m : Option (List MapItem × List Lexeme)) → map_of a ≡ m
        → ◌≡◌ {A = Option (Option Condition × List Lexeme)} (Some (opted ts (as_condition m))) (Some (c, r)) → IsOptional IsCondition c ts r
    held_map a p None q k = finish (λ c r. IsOptional IsCondition c ts r) None ts c r k refl
    held_map a p (Some m) q k =
        finish (λ c r. IsOptional IsCondition c ts r) (Some (condition.Map m.0)) m.1 c r k
        (let h = map_sound a m.0 m.1 q in (a, after_passes (is_sign opening_brace) ts a p, h.0, h.1, h.2))

    go : (o : Option (List Lexeme)) → after (is_sign opening_brace) ts ≡ o → map_or_where ts o ≡ Some (c, r) → IsOptional IsCondition c ts r
    go (Some a) p k = held_map a p (map_of a) refl k
    go None p k =
        bind_then (where_of ts) _ (c, r) k (λ w q k.
        finish (λ c r. IsOptional IsCondition c ts r) (option_map condition.Where w.0) w.1 c r k (held w.0 w.1 (where_sound ts w.0 w.1 q)))

pub condition_shorter : (c : Option Condition) (ts r : List Lexeme) → IsOptional IsCondition c ts r → length r ≤ length ts
condition_shorter None ts r h = omega (arith, ap length h)
condition_shorter (Some (condition.Map is)) ts r h = omega (arith, passes_shorter (is_sign opening_brace) ts h.0 h.1, map_shorter is h.0 r (h.2, h.3, h.4))
condition_shorter (Some (condition.Where e)) ts r h = omega (arith, passes_shorter (is_word WHERE) ts h.0 h.1, value_shorter e h.0 r h.2)

-- [Name]

abbrev pub is_name : Lexeme → Bool
is_name t = is_there (name_in t)

pub variable_sound : Sound (IsOptional (Begins name_in)) variable_of
unfolding variable_of
variable_sound = maybe_sound (op_at name_in) (Begins name_in) (read_begins name_in)

pub variable_exact : (x : Option (List ℕ)) (ts s : List Lexeme) → IsOptional (Begins name_in) x ts s → Stops is_name s → variable_of ts ≡ Some (x, s)
unfolding variable_of maybe
variable_exact x ts s h stop = ap Some (said_exact name_in x ts s h stop)

-- [(":" or IS) LabelExpr]

pub colon_apart : (g : Lexeme → Bool) → g (lex.Sign colon) ≡ false → ((x : List ℕ) → g (lex.Word IS x) ≡ false) → Apart is_colon g
colon_apart g sign word = either_apart (is_sign colon) (is_word IS) g (sign_apart colon g sign) (word_apart IS g word)

filler_labels_sound : Sound (IsOptional AsksLabels) filler_labels_of
unfolding filler_labels_of
filler_labels_sound = led_sound is_colon read_labels AsksLabels IsLabels (λ x ts r h. h) (λ x ts r h. h) labels_sound

filler_labels_shorter : (l : Option LabelExpr) (ts r : List Lexeme) → IsOptional AsksLabels l ts r → length r ≤ length ts
filler_labels_shorter = optional_shorter AsksLabels (λ l ts r h. omega (arith, passes_shorter is_colon ts h.0 h.1, labels_shorter l h.0 r h.2))

-- Fillers

pub filler_sound : Sound IsFiller filler_of
unfolding filler_of
filler_sound ts f r e =
    bind_then (variable_of ts) _ (f, r) e (λ x p e.
    bind_then (filler_labels_of x.1) _ (f, r) e (λ l q e.
    bind_then (condition_of l.1) _ (f, r) e (λ c k e.
    finish (λ f r. IsFiller f ts r) (record { variable = x.0; labels = l.0; condition = c.0 }) c.1 f r e
    (x.1, variable_sound ts x.0 x.1 p, l.1, filler_labels_sound x.1 l.0 l.1 q, condition_sound l.1 c.0 c.1 k))))

pub filler_shorter : (f : Filler) (ts r : List Lexeme) → IsFiller f ts r → length r ≤ length ts
filler_shorter f ts r h =
    omega (
      arith,
      optional_shorter (Begins name_in) (begins_shorter name_in) f.variable ts h.0 h.1,
      filler_labels_shorter f.labels h.0 h.2 h.3,
      condition_shorter f.condition h.2 r h.4,
    )
