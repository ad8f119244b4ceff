-- The laws of RETURN.
use Rattle.std.proofs.Common.{◌≡◌, ◌<◌, ◌≤◌, inl, inr, Bool, true, ◌||◌, ℕ, List, [], ◌∷◌, length, Option, Some, None, refl, ap, ◌∙◌, arith}
use Rattle.gql_lexer.specs.declared.lexeme.Lexeme.{Lexeme}
use Rattle.gql_ast.specs.declared.page.SortItem.{SortItem}
use Rattle.gql_ast.specs.declared.projection.Return.{Return}
use Rattle.gql_ast.specs.declared.projection.ReturnItem.{ReturnItem}
use Rattle.gql_ast.specs.declared.projection.ReturnItems.{ReturnItems}
use Rattle.gql_ast.specs.declared.projection.ReturnItems.TheVariants as items
use Rattle.gql_ast.specs.declared.words.SetQuantifier.{SetQuantifier}
use Rattle.gql_ast.specs.declared.words.SetQuantifier.TheVariants as quantifier
use Rattle.gql_lexer.specs.SymbolPlaces.{comma, star}
use Rattle.gql_lexer.specs.WordPlaces.{ALL, AS, BY, DISTINCT, GROUP, LIMIT, ORDER}
use Rattle.gql_front.specs.Tables.{Begins}
use Rattle.gql_front.specs.Reading.{is_sign, is_word, name_in, after, op_at}
use Rattle.gql_front.proofs.Found.{Sound}
use Rattle.gql_front.proofs.TableLemmas.{begins_read, read_begins, begins_shorter, word_row}
use Rattle.gql_exprs.specs.ExprWords.{quantifier_words, quantifier_op}
use Rattle.gql_exprs.specs.Grammar.{IsQuantifier}
use Rattle.gql_exprs.specs.Machinery.LeafReaders.{quantifier_or_all, quantifier_of}
use Rattle.gql_exprs.proofs.ExprAtomSound.{quantifier_is}
use Rattle.gql_exprs.proofs.ExprLists.{goes_or}
use Rattle.gql_parts.specs.Parts.{Passes, IsOptional, IsListOf}
use Rattle.gql_statements.specs.PartWords.{is_skip}
use Rattle.gql_statements.specs.PageGrammar.{IsOrder, IsSkip, IsLimit}
use Rattle.gql_statements.specs.ReturnGrammar.{IsAlias, IsReturnItem, AreReturnItems, IsGrouping}
use Rattle.gql_parts.specs.Machinery.PartReaders.{read_value, listed}
use Rattle.gql_statements.specs.Machinery.PageReaders.{order_of, skip_of, limit_of}
use Rattle.gql_statements.specs.Machinery.ReturnReaders.{alias_of, return_item_of, return_list_of, all_or_listed, return_items_of, names_of, grouped_of, grouping_of, ordering_of, return_of}
use Rattle.gql_parts.proofs.PartLaws.{Stops, nothing, nothing_stops, left_stops, right_stops, Apart, Led, bind_then, finish, passes_after, after_passes, passes_shorter, stops_after, word_apart, sign_apart, passes_stops, optional_stops, optional_shorter, led_sound, led_exact, led_stops}
use Rattle.gql_parts.proofs.ListLaws.{listed_sound, listed_exact}
use Rattle.gql_parts.proofs.ValueLaws.{value_sound, value_exact, value_shorter, value_begins}
use Rattle.gql_statements.proofs.PageLaws.{Ordered, goes_order, order_sound, order_exact, skip_apart, skip_sound, skip_exact, skip_stops, limit_sound, limit_exact, limit_stops}

-- DISTINCT and ALL

no_quantifier : (ts : List Lexeme) → Stops (is_word DISTINCT) ts → Stops (is_word ALL) ts → op_at quantifier_op ts ≡ None
no_quantifier [] distinct all = refl
no_quantifier (t ∷ ts) distinct all = go (quantifier_op t) refl
  where
    go : (o : Option SetQuantifier) → quantifier_op t ≡ o → op_at quantifier_op (t ∷ ts) ≡ None
    go None e = rw e refl
    go (Some quantifier.Distinct) e = absurd (distinct (word_row tests quantifier_words (λ y. (refl, (refl, tt))) t quantifier.Distinct e))
      where
        tests : Lexeme → SetQuantifier → Type 0
        tests t quantifier.Distinct = is_word DISTINCT t ≡ true
        tests t quantifier.All = is_word ALL t ≡ true
    go (Some quantifier.All) e = absurd (all (word_row tests quantifier_words (λ y. (refl, (refl, tt))) t quantifier.All e))
      where
        tests : Lexeme → SetQuantifier → Type 0
        tests t quantifier.Distinct = is_word DISTINCT t ≡ true
        tests t quantifier.All = is_word ALL t ≡ true

quantifier_exact : (q : SetQuantifier) (ts s : List Lexeme) → IsQuantifier q ts s → Stops (is_word DISTINCT) s → Stops (is_word ALL) s → quantifier_of ts ≡ (q, s)
unfolding quantifier_of
quantifier_exact quantifier.Distinct ts s h distinct all = ap (λ z. quantifier_or_all z (op_at quantifier_op z)) h.1
quantifier_exact quantifier.All ts s (inl h) distinct all = ap (λ z. quantifier_or_all z (op_at quantifier_op z)) h ∙ ap (quantifier_or_all s) (no_quantifier s distinct all)
quantifier_exact quantifier.All ts s (inr h) distinct all = ap (λ z. quantifier_or_all z (op_at quantifier_op z)) h.1

-- Items

alias_sound : Sound (IsOptional IsAlias) alias_of
unfolding alias_of
alias_sound = led_sound (is_word AS) (op_at name_in) IsAlias (Begins name_in) (λ x ts r h. h) (λ x ts r h. h) (read_begins name_in)

alias_exact : (x : Option (List ℕ)) (ts s : List Lexeme) → IsOptional IsAlias x ts s → Stops (is_word AS) s → alias_of ts ≡ Some (x, s)
unfolding alias_of
alias_exact x ts s h stop = led_exact (is_word AS) (op_at name_in) IsAlias (Begins name_in) (λ x ts r h. h) (λ x ts r h. h) x ts s (λ x a k. begins_read name_in x a s k) h stop

alias_shorter : (x : Option (List ℕ)) (ts r : List Lexeme) → IsOptional IsAlias x ts r → length r ≤ length ts
alias_shorter = optional_shorter IsAlias (λ x ts r h. omega (arith, passes_shorter (is_word AS) ts h.0 h.1, begins_shorter name_in x h.0 r h.2))

-- an item may go on with these
abbrev pub goes_item : Lexeme → Bool
goes_item t = goes_or t || is_word AS t

return_item_sound : Sound IsReturnItem return_item_of
unfolding return_item_of
return_item_sound ts i r e =
    bind_then (read_value ts) _ (i, r) e (λ v w e.
    bind_then (alias_of v.1) _ (i, r) e (λ x k e.
    finish (λ i r. IsReturnItem i ts r) (record { value = v.0; name = x.0 }) x.1 i r e (v.1, value_sound ts v.0 v.1 w, alias_sound v.1 x.0 x.1 k)))

return_item_exact : (i : ReturnItem) (ts s : List Lexeme) → IsReturnItem i ts s → Stops goes_item s → return_item_of ts ≡ Some (i, s)
unfolding return_item_of
return_item_exact i ts s h stop =
    let behind = optional_stops IsAlias goes_or i.name h.0 s (λ x k. passes_stops (is_word AS) goes_or (word_apart AS goes_or (λ x. refl)) h.0 k.0 k.1) h.2 (left_stops goes_or (is_word AS) s stop) in
    rw (value_exact i.value ts h.0 h.1 behind, alias_exact i.name h.0 s h.2 (right_stops goes_or (is_word AS) s stop)) refl

pub return_item_shorter : (i : ReturnItem) (ts r : List Lexeme) → IsReturnItem i ts r → length r < length ts
return_item_shorter i ts r h = omega (arith, value_shorter i.value ts h.0 h.1, alias_shorter i.name h.0 r h.2)

-- items may go on with these
abbrev pub goes_items : Lexeme → Bool
goes_items t = goes_item t || is_sign comma t

return_items_sound : Sound AreReturnItems return_items_of
unfolding return_items_of return_list_of
return_items_sound ts is r e = go (after (is_sign star) ts) refl e
  where
    go : (o : Option (List Lexeme)) → after (is_sign star) ts ≡ o → all_or_listed ts o ≡ Some (is, r) → AreReturnItems is ts r
    go (Some a) p k = finish (λ is r. AreReturnItems is ts r) items.All a is r k (after_passes (is_sign star) ts a p)
    go None p k =
        bind_then (listed return_item_of ts) _ (is, r) k (λ l q k.
        finish (λ is r. AreReturnItems is ts r) (items.Listed l.0) l.1 is r k (listed_sound return_item_of IsReturnItem return_item_sound ts l.0 l.1 q))

list_begins : (is : List ReturnItem) (ts r : List Lexeme) → IsListOf IsReturnItem is ts r → Stops (is_sign star) ts × Stops (is_word ALL) ts × Stops (is_word DISTINCT) ts
list_begins [] ts r h = absurd h
list_begins (i ∷ is) ts r h = let b = value_begins i.value ts h.1.0 h.1.1 in (b.1, b.2, b.3)

return_items_exact : (is : ReturnItems) (ts s : List Lexeme) → AreReturnItems is ts s → Stops goes_items s → return_items_of ts ≡ Some (is, s)
unfolding return_items_of return_list_of
return_items_exact items.All ts s h stop = ap (all_or_listed ts) (passes_after (is_sign star) ts s h)
return_items_exact (items.Listed is) ts s h stop =
    ap (all_or_listed ts) (stops_after (is_sign star) ts (list_begins is ts s h).0)
    ∙ rw (listed_exact return_item_of IsReturnItem goes_item refl return_item_shorter return_item_exact is ts s h
    (left_stops goes_item (is_sign comma) s stop) (right_stops goes_item (is_sign comma) s stop)) refl

-- no items begin with DISTINCT or ALL
items_begin : (is : ReturnItems) (ts r : List Lexeme) → AreReturnItems is ts r → Stops (is_word DISTINCT) ts × Stops (is_word ALL) ts
items_begin items.All ts r h =
    (passes_stops (is_sign star) (is_word DISTINCT) (sign_apart star (is_word DISTINCT) refl) ts r h, passes_stops (is_sign star) (is_word ALL) (sign_apart star (is_word ALL) refl) ts r h)
items_begin (items.Listed is) ts r h = let b = list_begins is ts r h in (b.2, b.1)

-- Names between commas

pub names_sound : Sound (IsListOf (Begins name_in)) names_of
unfolding names_of
names_sound = listed_sound (op_at name_in) (Begins name_in) (read_begins name_in)

pub names_exact : (xs : List (List ℕ)) (ts s : List Lexeme) → IsListOf (Begins name_in) xs ts s → Stops (is_sign comma) s → names_of ts ≡ Some (xs, s)
unfolding names_of
names_exact xs ts s h stop =
    listed_exact (op_at name_in) (Begins name_in) nothing refl (begins_shorter name_in) (λ x ts s h stop. begins_read name_in x ts s h) xs ts s h (nothing_stops s) stop

-- GROUP BY, behind GROUP

abbrev Grouped : List (List ℕ) → List Lexeme → List Lexeme → Type 0
Grouped xs ts r = (b : List Lexeme) × Passes (is_word BY) ts b × IsListOf (Begins name_in) xs b r

grouped_sound : Sound Grouped grouped_of
unfolding grouped_of
grouped_sound ts xs r e = bind_then (after (is_word BY) ts) _ (xs, r) e (λ a p e. (a, after_passes (is_word BY) ts a p, names_sound a xs r e))

grouped_exact : (xs : List (List ℕ)) (ts s : List Lexeme) → Grouped xs ts s → Stops (is_sign comma) s → grouped_of ts ≡ Some (xs, s)
unfolding grouped_of
grouped_exact xs ts s h stop = rw (passes_after (is_word BY) ts h.0 h.1) (names_exact xs h.0 s h.2 stop)

grouping_back : (xs : List (List ℕ)) (ts r : List Lexeme) → Led (is_word GROUP) Grouped xs ts r → IsGrouping xs ts r
grouping_back xs ts r h = (h.0, h.1, h.2.0, h.2.1, h.2.2)

grouping_forth : (xs : List (List ℕ)) (ts r : List Lexeme) → IsGrouping xs ts r → Led (is_word GROUP) Grouped xs ts r
grouping_forth xs ts r h = (h.0, h.1, (h.2, h.3, h.4))

grouping_sound : Sound (IsOptional IsGrouping) grouping_of
unfolding grouping_of
grouping_sound = led_sound (is_word GROUP) grouped_of IsGrouping Grouped grouping_back grouping_forth grouped_sound

grouping_exact : (xs : Option (List (List ℕ))) (ts s : List Lexeme) → IsOptional IsGrouping xs ts s → Stops (is_word GROUP) s → Stops (is_sign comma) s → grouping_of ts ≡ Some (xs, s)
unfolding grouping_of
grouping_exact xs ts s h stop end = led_exact (is_word GROUP) grouped_of IsGrouping Grouped grouping_back grouping_forth xs ts s (λ x a k. grouped_exact x a s k end) h stop

-- [Order]

ordering_back : (is : List SortItem) (ts r : List Lexeme) → Led (is_word ORDER) Ordered is ts r → IsOrder is ts r
ordering_back is ts r h = (h.0, h.1, h.2.0, h.2.1, h.2.2)

ordering_forth : (is : List SortItem) (ts r : List Lexeme) → IsOrder is ts r → Led (is_word ORDER) Ordered is ts r
ordering_forth is ts r h = (h.0, h.1, (h.2, h.3, h.4))

ordering_sound : Sound (IsOptional IsOrder) ordering_of
unfolding ordering_of
ordering_sound = led_sound (is_word ORDER) order_of IsOrder Ordered ordering_back ordering_forth order_sound

ordering_exact : (is : Option (List SortItem)) (ts s : List Lexeme) → IsOptional IsOrder is ts s → Stops (is_word ORDER) s → Stops goes_order s → ordering_of ts ≡ Some (is, s)
unfolding ordering_of
ordering_exact is ts s h stop end = led_exact (is_word ORDER) order_of IsOrder Ordered ordering_back ordering_forth is ts s (λ x a k. order_exact x a s k end) h stop

-- RETURN, behind that word

abbrev pub Returned : Return → List Lexeme → List Lexeme → Type 0
Returned ret ts r =
    (b : List Lexeme) × IsQuantifier ret.quantifier ts b
    × (c : List Lexeme) × AreReturnItems ret.items b c × (d : List Lexeme) × IsOptional IsGrouping ret.grouping c d
    × (e : List Lexeme) × IsOptional IsOrder ret.order d e × (f : List Lexeme) × IsOptional IsSkip ret.skip e f × IsOptional IsLimit ret.limit f r

pub return_sound : Sound Returned return_of
unfolding return_of
return_sound ts ret r h =
    let q = quantifier_of ts in
    bind_then (return_items_of q.1) _ (ret, r) h (λ is a h.
    bind_then (grouping_of is.1) _ (ret, r) h (λ g b h.
    bind_then (ordering_of g.1) _ (ret, r) h (λ o c h.
    bind_then (skip_of o.1) _ (ret, r) h (λ s d h.
    bind_then (limit_of s.1) _ (ret, r) h (λ l e h.
    finish (λ ret r. Returned ret ts r) (record { quantifier = q.0; items = is.0; grouping = g.0; order = o.0; skip = s.0; limit = l.0 }) l.1 ret r h (
      q.1,
      quantifier_is ts,
      is.1,
      return_items_sound q.1 is.0 is.1 a,
      g.1,
      grouping_sound is.1 g.0 g.1 b,
      o.1,
      ordering_sound g.1 o.0 o.1 c,
      s.1,
      skip_sound o.1 s.0 s.1 d,
      limit_sound s.1 l.0 l.1 e,
    ))))))

-- a statement ends with RETURN, so nothing stands behind it
pub return_exact : (ret : Return) (ts : List Lexeme) → Returned ret ts [] → return_of ts ≡ Some (ret, [])
unfolding return_of
return_exact ret ts h =
    let b = h.0 in let c = h.2 in let d = h.4 in let e = h.6 in let f = h.8 in
    let at_limit : (g : Lexeme → Bool) → Apart (is_word LIMIT) g → Stops g f = λ g a. limit_stops g a ret.limit f [] h.10 (λ i. i) in
    let at_skip : (g : Lexeme → Bool) → Apart (is_word LIMIT) g → Apart is_skip g → Stops g e = λ g a s. skip_stops g s ret.skip e f h.9 (at_limit g a) in
    let at_order : (g : Lexeme → Bool) → Apart (is_word LIMIT) g → Apart is_skip g → Apart (is_word ORDER) g → Stops g d =
    λ g a s o. led_stops (is_word ORDER) order_of IsOrder Ordered ordering_back ordering_forth g o ret.order d e h.7 (at_skip g a s) in
    let at_grouping : Stops goes_items c =
    led_stops (is_word GROUP) grouped_of IsGrouping Grouped grouping_back grouping_forth goes_items (word_apart GROUP goes_items (λ x. refl)) ret.grouping c d h.5
    (at_order goes_items (word_apart LIMIT goes_items (λ x. refl)) (skip_apart goes_items (λ x. refl) (λ x. refl)) (word_apart ORDER goes_items (λ x. refl))) in
    let begins = items_begin ret.items b c h.3 in
    rw (
      quantifier_exact ret.quantifier ts b h.1 begins.0 begins.1,
      return_items_exact ret.items b c h.3 at_grouping,
      grouping_exact ret.grouping c d h.5
          (at_order (is_word GROUP) (word_apart LIMIT (is_word GROUP) (λ x. refl)) (skip_apart (is_word GROUP) (λ x. refl) (λ x. refl)) (word_apart ORDER (is_word GROUP) (λ x. refl)))
          (at_order (is_sign comma) (word_apart LIMIT (is_sign comma) (λ x. refl)) (skip_apart (is_sign comma) (λ x. refl) (λ x. refl)) (word_apart ORDER (is_sign comma) (λ x. refl))),
      ordering_exact ret.order d e h.7
          (at_skip (is_word ORDER) (word_apart LIMIT (is_word ORDER) (λ x. refl)) (skip_apart (is_word ORDER) (λ x. refl) (λ x. refl)))
          (at_skip goes_order (word_apart LIMIT goes_order (λ x. refl)) (skip_apart goes_order (λ x. refl) (λ x. refl))),
      skip_exact ret.skip e f h.9 (at_limit is_skip (word_apart LIMIT is_skip (λ x. refl))),
      limit_exact ret.limit f [] h.10 (λ i. i),
    ) refl
