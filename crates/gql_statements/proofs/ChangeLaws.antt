-- The laws of SET, REMOVE and DELETE, and of changes.
use Rattle.std.proofs.Common.{◌≡◌, ◌<◌, inl, inr, Bool, ◌||◌, ℕ, List, length, Option, Some, None, refl, sym, ap, subst, arith}
use Rattle.gql_lexer.specs.declared.lexeme.Lexeme.{Lexeme}
use Rattle.gql_ast.specs.declared.change.ChangeClause.{ChangeClause}
use Rattle.gql_ast.specs.declared.change.ChangeClause.TheVariants as change
use Rattle.gql_ast.specs.declared.change.Detachment.{Detachment}
use Rattle.gql_ast.specs.declared.change.Detachment.TheVariants as detachment
use Rattle.gql_ast.specs.declared.change.RemoveItem.{RemoveItem}
use Rattle.gql_ast.specs.declared.change.RemoveItem.TheVariants as remove_item
use Rattle.gql_ast.specs.declared.change.SetItem.{SetItem}
use Rattle.gql_ast.specs.declared.change.SetItem.TheVariants as set_item
use Rattle.gql_lexer.specs.SymbolPlaces.{comma, dot, equal}
use Rattle.gql_lexer.specs.WordPlaces as word
use Rattle.gql_front.specs.Tables.{Begins}
use Rattle.gql_front.specs.Reading.{is_sign, is_word, name_in, any_name_in, after, op_at}
use Rattle.gql_front.proofs.Found.{Sound}
use Rattle.gql_front.proofs.TableLemmas.{begins_read, read_begins, begins_shorter}
use Rattle.gql_exprs.proofs.ExprLists.{goes_or}
use Rattle.gql_statements.specs.declared.change_word.ChangeWord.{ChangeWord}
use Rattle.gql_statements.specs.declared.change_word.ChangeWord.TheVariants as changes
use Rattle.gql_parts.specs.Parts.{Passes, MayPass, IsListOf}
use Rattle.gql_parts.specs.PartWords.{is_colon}
use Rattle.gql_statements.specs.ChangeGrammar.{IsInsertPath, IsSetItem, IsRemoveItem, IsChange}
use Rattle.gql_parts.specs.Machinery.PartReaders.{read_value}
use Rattle.gql_statements.specs.Machinery.ReturnReaders.{names_of}
use Rattle.gql_statements.specs.Machinery.ChangeReaders.{insert_paths_of, property_or_label, remove_item_of, remove_items_of, set_to, set_item_of, set_items_of, delete_of, change_behind}
use Rattle.gql_parts.proofs.PartLaws.{Stops, left_stops, right_stops, nothing, nothing_stops, bind_then, finish, passes_after, after_passes, passes_shorter, stops_after, passes_stops}
use Rattle.gql_parts.proofs.ListLaws.{listed_sound, listed_exact, list_shorter}
use Rattle.gql_parts.proofs.ValueLaws.{value_sound, value_exact, value_shorter}
use Rattle.gql_parts.proofs.FillerLaws.{colon_apart}
use Rattle.gql_statements.proofs.ReturnLaws.{names_sound, names_exact}
use Rattle.gql_statements.proofs.InsertLaws.{goes_path, insert_sound, insert_exact, insert_shorter}

-- REMOVE

remove_item_sound : Sound IsRemoveItem remove_item_of
unfolding remove_item_of
remove_item_sound ts i r e =
    bind_then (op_at name_in ts) _ (i, r) e (λ x p e. go x.0 x.1 (read_begins name_in ts x.0 x.1 p) (after (is_sign dot) x.1) refl e)
  where
    go : (x : List ℕ) (m : List Lexeme) → Begins name_in x ts m → (o : Option (List Lexeme)) → after (is_sign dot) m ≡ o → property_or_label x m o ≡ Some (i, r) → IsRemoveItem i ts r
    go x m h (Some a) q e =
        bind_then (op_at any_name_in a) _ (i, r) e (λ y k e.
        finish (λ i r. IsRemoveItem i ts r) (remove_item.Property x y.0) y.1 i r e (m, h, a, after_passes (is_sign dot) m a q, read_begins any_name_in a y.0 y.1 k))
    go x m h None q e =
        bind_then (after is_colon m) _ (i, r) e (λ a j e.
        bind_then (op_at any_name_in a) _ (i, r) e (λ y k e.
        finish (λ i r. IsRemoveItem i ts r) (remove_item.Label x y.0) y.1 i r e (m, h, a, after_passes is_colon m a j, read_begins any_name_in a y.0 y.1 k)))

remove_item_exact : (i : RemoveItem) (ts s : List Lexeme) → IsRemoveItem i ts s → remove_item_of ts ≡ Some (i, s)
unfolding remove_item_of
remove_item_exact (remove_item.Property x p) ts s h =
    rw (begins_read name_in x ts h.0 h.1, passes_after (is_sign dot) h.0 h.2 h.3, begins_read any_name_in p h.2 s h.4) refl
remove_item_exact (remove_item.Label x l) ts s h =
    let no_dot = stops_after (is_sign dot) h.0 (passes_stops is_colon (is_sign dot) (colon_apart (is_sign dot) refl (λ x. refl)) h.0 h.2 h.3) in
    rw (begins_read name_in x ts h.0 h.1, no_dot, passes_after is_colon h.0 h.2 h.3, begins_read any_name_in l h.2 s h.4) refl

remove_item_shorter : (i : RemoveItem) (ts r : List Lexeme) → IsRemoveItem i ts r → length r < length ts
remove_item_shorter (remove_item.Property x p) ts r h =
    omega (arith, begins_shorter name_in x ts h.0 h.1, passes_shorter (is_sign dot) h.0 h.2 h.3, begins_shorter any_name_in p h.2 r h.4)
remove_item_shorter (remove_item.Label x l) ts r h =
    omega (arith, begins_shorter name_in x ts h.0 h.1, passes_shorter is_colon h.0 h.2 h.3, begins_shorter any_name_in l h.2 r h.4)

-- SET

set_to_sound : (i : RemoveItem) (ts m : List Lexeme) (j : SetItem) (r : List Lexeme) → IsRemoveItem i ts m → set_to i m ≡ Some (j, r) → IsSetItem j ts r
set_to_sound (remove_item.Property x p) ts m j r h e =
    bind_then (after (is_sign equal) m) _ (j, r) e (λ a q e.
    bind_then (read_value a) _ (j, r) e (λ v k e.
    finish (λ j r. IsSetItem j ts r) (set_item.Property x p v.0) v.1 j r e (m, h, a, after_passes (is_sign equal) m a q, value_sound a v.0 v.1 k)))
set_to_sound (remove_item.Label x l) ts m j r h e = finish (λ j r. IsSetItem j ts r) (set_item.Label x l) m j r e h

set_item_sound : Sound IsSetItem set_item_of
unfolding set_item_of
set_item_sound ts j r e = bind_then (remove_item_of ts) _ (j, r) e (λ i p e. set_to_sound i.0 ts i.1 j r (remove_item_sound ts i.0 i.1 p) e)

set_item_exact : (i : SetItem) (ts s : List Lexeme) → IsSetItem i ts s → Stops goes_or s → set_item_of ts ≡ Some (i, s)
unfolding set_item_of
set_item_exact (set_item.Property x p e) ts s h stop =
    rw (remove_item_exact (remove_item.Property x p) ts h.0 h.1, passes_after (is_sign equal) h.0 h.2 h.3, value_exact e h.2 s h.4 stop) refl
set_item_exact (set_item.Label x l) ts s h stop = rw (remove_item_exact (remove_item.Label x l) ts s h) refl

set_item_shorter : (i : SetItem) (ts r : List Lexeme) → IsSetItem i ts r → length r < length ts
set_item_shorter (set_item.Property x p e) ts r h =
    omega (arith, remove_item_shorter (remove_item.Property x p) ts h.0 h.1, passes_shorter (is_sign equal) h.0 h.2 h.3, value_shorter e h.2 r h.4)
set_item_shorter (set_item.Label x l) ts r h = remove_item_shorter (remove_item.Label x l) ts r h

-- DELETE

abbrev AreNames : List (List ℕ) → List Lexeme → List Lexeme → Type 0
AreNames = IsListOf (Begins name_in)

-- what stands behind DELETE, which detaches or not
abbrev Deletes : Detachment → ChangeClause → List Lexeme → List Lexeme → Type 0
Deletes d (change.Delete f xs) ts r = (f ≡ d) × AreNames xs ts r
Deletes d (change.Insert ps) ts r = ⊥
Deletes d (change.Set is) ts r = ⊥
Deletes d (change.Remove is) ts r = ⊥

delete_sound : (d : Detachment) → Sound (Deletes d) (delete_of d)
unfolding delete_of
delete_sound d ts c r e = bind_then (names_of ts) _ (c, r) e (λ xs p e. finish (λ c r. Deletes d c ts r) (change.Delete d xs.0) xs.1 c r e (refl, names_sound ts xs.0 xs.1 p))

delete_exact : (d : Detachment) (c : ChangeClause) (ts s : List Lexeme) → Deletes d c ts s → Stops (is_sign comma) s → delete_of d ts ≡ Some (c, s)
unfolding delete_of
delete_exact d (change.Delete f xs) ts s h stop = rw (names_exact xs ts s h.1 stop) (ap (λ z. Some (change.Delete z xs, s)) (sym h.0))
delete_exact d (change.Insert ps) ts s h stop = absurd h
delete_exact d (change.Set is) ts s h stop = absurd h
delete_exact d (change.Remove is) ts s h stop = absurd h

delete_shorter : (d : Detachment) (c : ChangeClause) (ts r : List Lexeme) → Deletes d c ts r → length r < length ts
delete_shorter d (change.Delete f xs) ts r h = list_shorter (op_at name_in) (Begins name_in) (begins_shorter name_in) xs ts r h.1
delete_shorter d (change.Insert ps) ts r h = absurd h
delete_shorter d (change.Set is) ts r h = absurd h
delete_shorter d (change.Remove is) ts r h = absurd h

-- Changes, behind their first word

abbrev pub Changes : ChangeWord → ChangeClause → List Lexeme → List Lexeme → Type 0
Changes changes.Insert (change.Insert ps) ts r = IsListOf IsInsertPath ps ts r
Changes changes.Set (change.Set is) ts r = IsListOf IsSetItem is ts r
Changes changes.Remove (change.Remove is) ts r = IsListOf IsRemoveItem is ts r
Changes changes.Delete c ts r = Deletes detachment.NoDetach c ts r
Changes (changes.Detaching d) c ts r = (a : List Lexeme) × Passes (is_word word.DELETE) ts a × Deletes d c a r
Changes _ _ ts r = ⊥

pub changed_sound : (w : ChangeWord) → Sound (Changes w) (change_behind w)
unfolding set_items_of remove_items_of
changed_sound changes.Insert ts c r e =
    bind_then (insert_paths_of ts) _ (c, r) e (λ x p e. finish (λ c r. Changes changes.Insert c ts r) (change.Insert x.0) x.1 c r e (insert_sound ts x.0 x.1 p))
changed_sound changes.Set ts c r e =
    bind_then (set_items_of ts) _ (c, r) e (λ x p e.
    finish (λ c r. Changes changes.Set c ts r) (change.Set x.0) x.1 c r e (listed_sound set_item_of IsSetItem set_item_sound ts x.0 x.1 p))
changed_sound changes.Remove ts c r e =
    bind_then (remove_items_of ts) _ (c, r) e (λ x p e.
    finish (λ c r. Changes changes.Remove c ts r) (change.Remove x.0) x.1 c r e (listed_sound remove_item_of IsRemoveItem remove_item_sound ts x.0 x.1 p))
changed_sound changes.Delete ts c r e = delete_sound detachment.NoDetach ts c r e
changed_sound (changes.Detaching d) ts c r e =
    bind_then (after (is_word word.DELETE) ts) _ (c, r) e (λ a p e. (a, after_passes (is_word word.DELETE) ts a p, delete_sound d a c r e))

-- a change may go on with these
abbrev pub goes_change : Lexeme → Bool
goes_change t = (goes_or t || is_sign comma t) || goes_path t

pub change_value : (s : List Lexeme) → Stops goes_change s → Stops goes_or s
change_value s stop = left_stops goes_or (is_sign comma) s (left_stops (λ t. goes_or t || is_sign comma t) goes_path s stop)

pub change_comma : (s : List Lexeme) → Stops goes_change s → Stops (is_sign comma) s
change_comma s stop = right_stops goes_or (is_sign comma) s (left_stops (λ t. goes_or t || is_sign comma t) goes_path s stop)

pub changed_exact : (w : ChangeWord) (c : ChangeClause) (ts s : List Lexeme) → Changes w c ts s → Stops goes_change s → change_behind w ts ≡ Some (c, s)
unfolding set_items_of remove_items_of
changed_exact changes.Insert (change.Insert ps) ts s h stop =
    rw (insert_exact ps ts s h (right_stops (λ t. goes_or t || is_sign comma t) goes_path s stop) (change_comma s stop)) refl
changed_exact changes.Set (change.Set is) ts s h stop =
    rw (listed_exact set_item_of IsSetItem goes_or refl set_item_shorter set_item_exact is ts s h (change_value s stop) (change_comma s stop)) refl
changed_exact changes.Remove (change.Remove is) ts s h stop =
    rw (listed_exact remove_item_of IsRemoveItem nothing refl remove_item_shorter (λ i ts s h stop. remove_item_exact i ts s h) is ts s h (nothing_stops s) (change_comma s stop)) refl
changed_exact changes.Delete c ts s h stop = delete_exact detachment.NoDetach c ts s h (change_comma s stop)
changed_exact (changes.Detaching d) c ts s h stop = rw (passes_after (is_word word.DELETE) ts h.0 h.1) (delete_exact d c h.0 s h.2 (change_comma s stop))
changed_exact _ _ ts s h stop = absurd h

pub changed_shorter : (w : ChangeWord) (c : ChangeClause) (ts r : List Lexeme) → Changes w c ts r → length r < length ts
changed_shorter changes.Insert (change.Insert ps) ts r h = insert_shorter ps ts r h
changed_shorter changes.Set (change.Set is) ts r h = list_shorter set_item_of IsSetItem set_item_shorter is ts r h
changed_shorter changes.Remove (change.Remove is) ts r h = list_shorter remove_item_of IsRemoveItem remove_item_shorter is ts r h
changed_shorter changes.Delete c ts r h = delete_shorter detachment.NoDetach c ts r h
changed_shorter (changes.Detaching d) c ts r h = omega (arith, passes_shorter (is_word word.DELETE) ts h.0 h.1, delete_shorter d c h.0 r h.2)
changed_shorter _ _ ts r h = absurd h

-- Changes with their first word

abbrev pub change_test : ChangeWord → Lexeme → Bool
change_test changes.Insert = is_word word.INSERT
change_test changes.Set = is_word word.SET
change_test changes.Remove = is_word word.REMOVE
change_test changes.Delete = is_word word.DELETE
change_test (changes.Detaching detachment.Detach) = is_word word.DETACH
change_test (changes.Detaching detachment.NoDetach) = is_word word.NODETACH

pub change_parts : (c : ChangeClause) (ts r : List Lexeme) → IsChange c ts r → (w : ChangeWord) × (a : List Lexeme) × Passes (change_test w) ts a × Changes w c a r
change_parts (change.Insert ps) ts r h = (changes.Insert, h.0, h.1, h.2)
change_parts (change.Set is) ts r h = (changes.Set, h.0, h.1, h.2)
change_parts (change.Remove is) ts r h = (changes.Remove, h.0, h.1, h.2)
change_parts (change.Delete detachment.Detach xs) ts r h = (changes.Detaching detachment.Detach, h.0, h.1, (h.2, h.3, (refl, h.4)))
change_parts (change.Delete detachment.NoDetach xs) ts r h = go h.1
  where
    go : MayPass (is_word word.NODETACH) ts h.0 → (w : ChangeWord) × (a : List Lexeme) × Passes (change_test w) ts a × Changes w (change.Delete detachment.NoDetach xs) a r
    go (inl e) = (changes.Delete, h.2, subst (λ z. Passes (is_word word.DELETE) z h.2) (sym e) h.3, (refl, h.4))
    go (inr k) = (changes.Detaching detachment.NoDetach, h.0, k, (h.2, h.3, (refl, h.4)))

pub change_from : (w : ChangeWord) (c : ChangeClause) (ts a r : List Lexeme) → Passes (change_test w) ts a → Changes w c a r → IsChange c ts r
change_from changes.Insert (change.Insert ps) ts a r p h = (a, p, h)
change_from changes.Set (change.Set is) ts a r p h = (a, p, h)
change_from changes.Remove (change.Remove is) ts a r p h = (a, p, h)
change_from changes.Delete (change.Delete f xs) ts a r p h = subst (λ z. IsChange (change.Delete z xs) ts r) (sym h.0) (ts, inl refl, a, p, h.1)
change_from (changes.Detaching detachment.Detach) (change.Delete f xs) ts a r p h = subst (λ z. IsChange (change.Delete z xs) ts r) (sym h.2.0) (a, p, h.0, h.1, h.2.1)
change_from (changes.Detaching detachment.NoDetach) (change.Delete f xs) ts a r p h =
    subst (λ z. IsChange (change.Delete z xs) ts r) (sym h.2.0) (a, inr p, h.0, h.1, h.2.1)
change_from (changes.Detaching detachment.Detach) _ ts a r p h = absurd h.2
change_from (changes.Detaching detachment.NoDetach) _ ts a r p h = absurd h.2
change_from _ _ ts a r p h = absurd h
