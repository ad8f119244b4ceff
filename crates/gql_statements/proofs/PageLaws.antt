-- The laws of ORDER BY, OFFSET and LIMIT.
use Rattle.std.proofs.Common.{◌≡◌, ◌<◌, ◌≤◌, inl, inr, Bool, true, false, ◌||◌, ℕ, List, [], ◌∷◌, length, Option, Some, None, refl, sym, ap, subst, ◌∙◌, arith}
use Rattle.gql_lexer.specs.declared.lexeme.Lexeme.{Lexeme}
use Rattle.gql_lexer.specs.declared.lexeme.Lexeme.TheVariants as lex
use Rattle.gql_ast.specs.declared.page.SortDirection.{SortDirection}
use Rattle.gql_ast.specs.declared.page.SortDirection.TheVariants as direction
use Rattle.gql_ast.specs.declared.page.NullOrder.{NullOrder}
use Rattle.gql_ast.specs.declared.page.SortItem.{SortItem}
use Rattle.gql_ast.specs.declared.page.RowCount.{RowCount}
use Rattle.gql_ast.specs.declared.page.Page.{Page}
use Rattle.gql_ast.specs.declared.page.Page.TheVariants as page
use Rattle.gql_lexer.specs.SymbolPlaces.{comma}
use Rattle.gql_lexer.specs.WordPlaces.{BY, LIMIT, NULLS, OFFSET, SKIP}
use Rattle.gql_front.specs.Tables.{Begins}
use Rattle.gql_front.specs.Reading.{◌>>=◌, is_sign, is_word, after, op_at}
use Rattle.gql_front.proofs.Found.{Sound, is_there}
use Rattle.gql_front.proofs.TableLemmas.{begins_read, read_begins, begins_shorter, word_row}
use Rattle.gql_exprs.proofs.ExprLists.{goes_or}
use Rattle.gql_parts.specs.Parts.{Passes, IsOptional, IsListOf}
use Rattle.gql_statements.specs.PartWords.{direction_words, direction_word, null_word, count_in, is_skip}
use Rattle.gql_statements.specs.PageGrammar.{IsDirection, IsNullOrder, IsSortItem, IsSkip, IsLimit}
use Rattle.gql_parts.specs.Machinery.PartReaders.{read_value, led}
use Rattle.gql_statements.specs.Machinery.PageReaders.{or_ascending, direction_of, sort_item_of, sort_items_of, order_of, skip_of, limit_of, order_page_of, skip_page_of, limit_page_of}
use Rattle.gql_parts.proofs.PartLaws.{either_apart, Stops, left_stops, right_stops, Apart, bind_then, finish, passes_after, after_passes, passes_shorter, word_apart, passes_stops, begins_stops, optional_stops, optional_shorter, led_sound, led_exact}
use Rattle.gql_parts.proofs.ListLaws.{listed_sound, listed_exact, list_shorter}
use Rattle.gql_parts.proofs.ValueLaws.{value_sound, value_exact, value_shorter}

-- Directions

abbrev pub is_direction : Lexeme → Bool
is_direction t = is_there (direction_word t)

no_direction : (ts : List Lexeme) → Stops is_direction ts → op_at direction_word ts ≡ None
no_direction [] stop = refl
no_direction (t ∷ ts) stop = go (direction_word t) refl
  where
    go : (o : Option SortDirection) → direction_word t ≡ o → op_at direction_word (t ∷ ts) ≡ None
    go None e = rw e refl
    go (Some d) e = absurd (stop (ap is_there e))

direction_sound : (ts : List Lexeme) → IsDirection (direction_of ts).0 ts (direction_of ts).1
unfolding direction_of
direction_sound ts = go (op_at direction_word ts) refl
  where
    at : (d : SortDirection) (r : List Lexeme) → Begins direction_word d ts r → IsDirection d ts r
    at direction.Ascending r h = inr h
    at direction.Descending r h = h

    go : (o : Option (SortDirection × List Lexeme)) → op_at direction_word ts ≡ o → IsDirection (or_ascending ts o).0 ts (or_ascending ts o).1
    go None e = inl refl
    go (Some x) e = at x.0 x.1 (read_begins direction_word ts x.0 x.1 e)

direction_exact : (d : SortDirection) (ts s : List Lexeme) → IsDirection d ts s → Stops is_direction s → direction_of ts ≡ (d, s)
unfolding direction_of
direction_exact direction.Ascending ts s (inl h) stop = ap direction_of h ∙ ap (or_ascending s) (no_direction s stop)
direction_exact direction.Ascending ts s (inr h) stop = ap (or_ascending ts) (begins_read direction_word direction.Ascending ts s h)
direction_exact direction.Descending ts s h stop = ap (or_ascending ts) (begins_read direction_word direction.Descending ts s h)

direction_shorter : (d : SortDirection) (ts r : List Lexeme) → IsDirection d ts r → length r ≤ length ts
direction_shorter direction.Ascending ts r (inl h) = omega (arith, ap length h)
direction_shorter direction.Ascending ts r (inr h) = omega (arith, begins_shorter direction_word direction.Ascending ts r h)
direction_shorter direction.Descending ts r h = omega (arith, begins_shorter direction_word direction.Descending ts r h)

direction_no_expression : (t : Lexeme) (d : SortDirection) → direction_word t ≡ Some d → goes_or t ≡ true → ⊥
direction_no_expression t d e h =
    let no_goes = word_row (λ t d. goes_or t ≡ false) direction_words (λ x. (refl, (refl, (refl, (refl, tt))))) t d e in
    cc

direction_stops : (d : SortDirection) (m s : List Lexeme) → IsDirection d m s → Stops goes_or s → Stops goes_or m
direction_stops direction.Ascending m s (inl h) stop = subst (λ z. Stops goes_or z) (sym h) stop
direction_stops direction.Ascending m s (inr h) stop = begins_stops direction_word goes_or direction_no_expression direction.Ascending m s h
direction_stops direction.Descending m s h stop = begins_stops direction_word goes_or direction_no_expression direction.Descending m s h

-- NULLS FIRST and NULLS LAST

nulls_sound : Sound (IsOptional IsNullOrder) (led (is_word NULLS) (op_at null_word))
nulls_sound = led_sound (is_word NULLS) (op_at null_word) IsNullOrder (Begins null_word) (λ x ts r h. h) (λ x ts r h. h) (read_begins null_word)

nulls_exact : (n : Option NullOrder) (ts s : List Lexeme) → IsOptional IsNullOrder n ts s → Stops (is_word NULLS) s → led (is_word NULLS) (op_at null_word) ts ≡ Some (n, s)
nulls_exact n ts s h stop =
    led_exact (is_word NULLS) (op_at null_word) IsNullOrder (Begins null_word) (λ x ts r h. h) (λ x ts r h. h) n ts s (λ x a k. begins_read null_word x a s k) h stop

nulls_stop : (g : Lexeme → Bool) → Apart (is_word NULLS) g → (n : Option NullOrder) (m s : List Lexeme) → IsOptional IsNullOrder n m s → Stops g s → Stops g m
nulls_stop g apart n m s h stop = optional_stops IsNullOrder g n m s (λ x k. passes_stops (is_word NULLS) g apart m k.0 k.1) h stop

nulls_shorter : (n : Option NullOrder) (ts r : List Lexeme) → IsOptional IsNullOrder n ts r → length r ≤ length ts
nulls_shorter = optional_shorter IsNullOrder (λ n ts r h. omega (arith, passes_shorter (is_word NULLS) ts h.0 h.1, begins_shorter null_word n h.0 r h.2))

-- Sort keys

-- a sort key may go on with these
abbrev pub goes_sort : Lexeme → Bool
goes_sort t = goes_or t || (is_direction t || is_word NULLS t)

sort_item_sound : Sound IsSortItem sort_item_of
unfolding sort_item_of
sort_item_sound ts i r e =
    bind_then (read_value ts) _ (i, r) e (λ v w e.
    bind_then (led (is_word NULLS) (op_at null_word) (direction_of v.1).1) _ (i, r) e (λ n k e.
    finish (λ i r. IsSortItem i ts r) (record { key = v.0; direction = (direction_of v.1).0; nulls = n.0 }) n.1 i r e
    (v.1, value_sound ts v.0 v.1 w, (direction_of v.1).1, direction_sound v.1, nulls_sound (direction_of v.1).1 n.0 n.1 k)))

sort_item_exact : (i : SortItem) (ts s : List Lexeme) → IsSortItem i ts s → Stops goes_sort s → sort_item_of ts ≡ Some (i, s)
unfolding sort_item_of
sort_item_exact i ts s h stop =
    let expr_stop = left_stops goes_or (λ t. is_direction t || is_word NULLS t) s stop in
    let rest_stop = right_stops goes_or (λ t. is_direction t || is_word NULLS t) s stop in
    let direction_stop = left_stops is_direction (is_word NULLS) s rest_stop in
    let null_stop = right_stops is_direction (is_word NULLS) s rest_stop in
    let b = nulls_stop is_direction (word_apart NULLS is_direction (λ x. refl)) i.nulls h.2 s h.4 direction_stop in
    let c = nulls_stop goes_or (word_apart NULLS goes_or (λ x. refl)) i.nulls h.2 s h.4 expr_stop in
    rw (value_exact i.key ts h.0 h.1 (direction_stops i.direction h.0 h.2 h.3 c), direction_exact i.direction h.0 h.2 h.3 b)
    (ap (λ (o : Option (Option NullOrder × List Lexeme)). o >>= λ n. Some (record { key = i.key; direction = i.direction; nulls = n.0 }, n.1)) (nulls_exact i.nulls h.2 s h.4 null_stop))

pub sort_item_shorter : (i : SortItem) (ts r : List Lexeme) → IsSortItem i ts r → length r < length ts
sort_item_shorter i ts r h = omega (arith, value_shorter i.key ts h.0 h.1, direction_shorter i.direction h.0 h.2 h.3, nulls_shorter i.nulls h.2 r h.4)

-- ORDER BY, behind ORDER

abbrev pub goes_order : Lexeme → Bool
goes_order t = goes_sort t || is_sign comma t

abbrev pub Ordered : List SortItem → List Lexeme → List Lexeme → Type 0
Ordered is ts r = (b : List Lexeme) × Passes (is_word BY) ts b × IsListOf IsSortItem is b r

pub order_sound : Sound Ordered order_of
unfolding order_of sort_items_of
order_sound ts is r e =
    bind_then (after (is_word BY) ts) _ (is, r) e (λ a p e.
    (a, after_passes (is_word BY) ts a p, listed_sound sort_item_of IsSortItem sort_item_sound a is r e))

pub order_exact : (is : List SortItem) (ts s : List Lexeme) → Ordered is ts s → Stops goes_order s → order_of ts ≡ Some (is, s)
unfolding order_of sort_items_of
order_exact is ts s h stop =
    rw (passes_after (is_word BY) ts h.0 h.1)
    (listed_exact sort_item_of IsSortItem goes_sort refl sort_item_shorter sort_item_exact is h.0 s h.2 (left_stops goes_sort (is_sign comma) s stop) (right_stops goes_sort (is_sign comma) s stop))

pub order_shorter : (is : List SortItem) (ts r : List Lexeme) → Ordered is ts r → length r < length ts
order_shorter is ts r h = omega (arith, passes_shorter (is_word BY) ts h.0 h.1, list_shorter sort_item_of IsSortItem sort_item_shorter is h.0 r h.2)

-- OFFSET and LIMIT

pub skip_apart : (g : Lexeme → Bool) → ((x : List ℕ) → g (lex.Word OFFSET x) ≡ false) → ((x : List ℕ) → g (lex.Word SKIP x) ≡ false) → Apart is_skip g
skip_apart g offset skip = either_apart (is_word OFFSET) (is_word SKIP) g (word_apart OFFSET g offset) (word_apart SKIP g skip)

pub skip_sound : Sound (IsOptional IsSkip) skip_of
unfolding skip_of
skip_sound = led_sound is_skip (op_at count_in) IsSkip (Begins count_in) (λ x ts r h. h) (λ x ts r h. h) (read_begins count_in)

pub skip_exact : (c : Option RowCount) (ts s : List Lexeme) → IsOptional IsSkip c ts s → Stops is_skip s → skip_of ts ≡ Some (c, s)
unfolding skip_of
skip_exact c ts s h stop = led_exact is_skip (op_at count_in) IsSkip (Begins count_in) (λ x ts r h. h) (λ x ts r h. h) c ts s (λ x a k. begins_read count_in x a s k) h stop

pub skip_stops : (g : Lexeme → Bool) → Apart is_skip g → (c : Option RowCount) (m s : List Lexeme) → IsOptional IsSkip c m s → Stops g s → Stops g m
skip_stops g apart c m s h stop = optional_stops IsSkip g c m s (λ x k. passes_stops is_skip g apart m k.0 k.1) h stop

pub skip_shorter : (c : Option RowCount) (ts r : List Lexeme) → IsOptional IsSkip c ts r → length r ≤ length ts
skip_shorter = optional_shorter IsSkip (λ c ts r h. omega (arith, passes_shorter is_skip ts h.0 h.1, begins_shorter count_in c h.0 r h.2))

pub limit_sound : Sound (IsOptional IsLimit) limit_of
unfolding limit_of
limit_sound = led_sound (is_word LIMIT) (op_at count_in) IsLimit (Begins count_in) (λ x ts r h. h) (λ x ts r h. h) (read_begins count_in)

pub limit_exact : (c : Option RowCount) (ts s : List Lexeme) → IsOptional IsLimit c ts s → Stops (is_word LIMIT) s → limit_of ts ≡ Some (c, s)
unfolding limit_of
limit_exact c ts s h stop = led_exact (is_word LIMIT) (op_at count_in) IsLimit (Begins count_in) (λ x ts r h. h) (λ x ts r h. h) c ts s (λ x a k. begins_read count_in x a s k) h stop

pub limit_stops : (g : Lexeme → Bool) → Apart (is_word LIMIT) g → (c : Option RowCount) (m s : List Lexeme) → IsOptional IsLimit c m s → Stops g s → Stops g m
limit_stops g apart c m s h stop = optional_stops IsLimit g c m s (λ x k. passes_stops (is_word LIMIT) g apart m k.0 k.1) h stop

pub limit_shorter : (c : Option RowCount) (ts r : List Lexeme) → IsOptional IsLimit c ts r → length r ≤ length ts
limit_shorter = optional_shorter IsLimit (λ c ts r h. omega (arith, passes_shorter (is_word LIMIT) ts h.0 h.1, begins_shorter count_in c h.0 r h.2))

-- [Skip] [Limit] behind what may go on with g
pub order_ends : (g : Lexeme → Bool) → Apart is_skip g → Apart (is_word LIMIT) g → (c d : Option RowCount) (a b s : List Lexeme)
    → IsOptional IsSkip c a b → IsOptional IsLimit d b s → Stops g s → Stops g a
order_ends g no_skip no_limit c d a b s h k stop = skip_stops g no_skip c a b h (limit_stops g no_limit d b s k stop)

-- The three forms, each behind its first word

abbrev pub OrderPage : Page → List Lexeme → List Lexeme → Type 0
OrderPage (page.Order is s l) ts r = (a : List Lexeme) × Ordered is ts a × (b : List Lexeme) × IsOptional IsSkip s a b × IsOptional IsLimit l b r
OrderPage _ ts r = ⊥

abbrev pub SkipPage : Page → List Lexeme → List Lexeme → Type 0
SkipPage (page.Skip c l) ts r = (a : List Lexeme) × Begins count_in c ts a × IsOptional IsLimit l a r
SkipPage _ ts r = ⊥

abbrev pub LimitPage : Page → List Lexeme → List Lexeme → Type 0
LimitPage (page.Limit c) ts r = Begins count_in c ts r
LimitPage _ ts r = ⊥

pub order_page_sound : Sound OrderPage order_page_of
unfolding order_page_of
order_page_sound ts p r e =
    bind_then (order_of ts) _ (p, r) e (λ o q e.
    bind_then (skip_of o.1) _ (p, r) e (λ s k e.
    bind_then (limit_of s.1) _ (p, r) e (λ l j e.
    finish (λ p r. OrderPage p ts r) (page.Order o.0 s.0 l.0) l.1 p r e (o.1, order_sound ts o.0 o.1 q, s.1, skip_sound o.1 s.0 s.1 k, limit_sound s.1 l.0 l.1 j))))

pub skip_page_sound : Sound SkipPage skip_page_of
unfolding skip_page_of
skip_page_sound ts p r e =
    bind_then (op_at count_in ts) _ (p, r) e (λ c q e.
    bind_then (limit_of c.1) _ (p, r) e (λ l j e.
    finish (λ p r. SkipPage p ts r) (page.Skip c.0 l.0) l.1 p r e (c.1, read_begins count_in ts c.0 c.1 q, limit_sound c.1 l.0 l.1 j)))

pub limit_page_sound : Sound LimitPage limit_page_of
unfolding limit_page_of
limit_page_sound ts p r e =
    bind_then (op_at count_in ts) _ (p, r) e (λ c q e.
    finish (λ p r. LimitPage p ts r) (page.Limit c.0) c.1 p r e (read_begins count_in ts c.0 c.1 q))

-- a page may go on with these
abbrev pub goes_page : Lexeme → Bool
goes_page t = goes_order t || (is_skip t || is_word LIMIT t)

page_skip : (s : List Lexeme) → Stops goes_page s → Stops is_skip s
page_skip s stop = left_stops is_skip (is_word LIMIT) s (right_stops goes_order (λ t. is_skip t || is_word LIMIT t) s stop)

page_limit : (s : List Lexeme) → Stops goes_page s → Stops (is_word LIMIT) s
page_limit s stop = right_stops is_skip (is_word LIMIT) s (right_stops goes_order (λ t. is_skip t || is_word LIMIT t) s stop)

pub order_page_exact : (p : Page) (ts s : List Lexeme) → OrderPage p ts s → Stops goes_page s → order_page_of ts ≡ Some (p, s)
unfolding order_page_of
order_page_exact (page.Order is o l) ts s h stop =
    let order_stop = left_stops goes_order (λ t. is_skip t || is_word LIMIT t) s stop in
    let a = order_ends goes_order (skip_apart goes_order (λ x. refl) (λ x. refl)) (word_apart LIMIT goes_order (λ x. refl)) o l h.0 h.2 s h.3 h.4 order_stop in
    let b = limit_stops is_skip (word_apart LIMIT is_skip (λ x. refl)) l h.2 s h.4 (page_skip s stop) in
    rw (order_exact is ts h.0 h.1 a, skip_exact o h.0 h.2 h.3 b, limit_exact l h.2 s h.4 (page_limit s stop)) refl
order_page_exact (page.Skip c l) ts s h stop = absurd h
order_page_exact (page.Limit c) ts s h stop = absurd h

pub skip_page_exact : (p : Page) (ts s : List Lexeme) → SkipPage p ts s → Stops goes_page s → skip_page_of ts ≡ Some (p, s)
unfolding skip_page_of
skip_page_exact (page.Skip c l) ts s h stop = rw (begins_read count_in c ts h.0 h.1, limit_exact l h.0 s h.2 (page_limit s stop)) refl
skip_page_exact (page.Order is o l) ts s h stop = absurd h
skip_page_exact (page.Limit c) ts s h stop = absurd h

pub limit_page_exact : (p : Page) (ts s : List Lexeme) → LimitPage p ts s → limit_page_of ts ≡ Some (p, s)
unfolding limit_page_of
limit_page_exact (page.Limit c) ts s h = rw (begins_read count_in c ts s h) refl
limit_page_exact (page.Order is o l) ts s h = absurd h
limit_page_exact (page.Skip c l) ts s h = absurd h
