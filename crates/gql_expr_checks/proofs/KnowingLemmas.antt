-- What a look-up finds once a column is added at the end.
use Rattle.std.proofs.Common.{◌≡◌, ℕ, Bool, true, false, cond, ◌||◌, List, [], ◌∷◌, ◌++◌, Option, Some, None, refl, sym, ap, ◌∙◌, true≢false, is_some}
use Rattle.std.specs.Prelude.{find, option_map}
use Rattle.std.specs.Option.{option_or}
use Rattle.std.proofs.lemmas.List.Folds.{find-append}
use Rattle.std.proofs.lemmas.Slice.Eq.{bytes_eq-Decides}
use Rattle.gql_values3.specs.Texts.{same_text}
use Rattle.gql_values3.specs.declared.table.ColumnKind.{ColumnKind}
use Rattle.gql_ast.specs.ClauseColumns.{ColumnList, is_column}
use Rattle.gql_expr_checks.specs.Machinery.Knowing.{first_kind}

abbrev found : ColumnList → List ℕ → Option (List ℕ × ColumnKind)
found columns x = find (λ (c : List ℕ × ColumnKind). same_text x c.0) columns

-- a name is known exactly where it is a column
pub is_some-first_kind : (columns : ColumnList) (x : List ℕ) → is_some (first_kind columns x) ≡ is_column columns x
is_some-first_kind [] x = refl
is_some-first_kind (c ∷ cs) x = by (same_text x c.0) (is_some-first_kind cs x)
  where
    by : (b : Bool) → is_some (first_kind cs x) ≡ is_column cs x
        → is_some (option_map (λ (c : List ℕ × ColumnKind). c.1) (cond b (Some c) (found cs x))) ≡ (b || is_column cs x)
    by true h = refl
    by false h = h

pub same_text-refl : (x : List ℕ) → same_text x x ≡ true
same_text-refl x = (bytes_eq-Decides x x).1 refl

pub same_text-sym : (x y : List ℕ) → same_text x y ≡ same_text y x
same_text-sym x y = by (same_text x y) (same_text y x) refl refl
  where
    by : (b c : Bool) → same_text x y ≡ b → same_text y x ≡ c → b ≡ c
    by true true p q = refl
    by true false p q = sym ((bytes_eq-Decides y x).1 (sym ((bytes_eq-Decides x y).0 p))) ∙ q
    by false true p q = sym p ∙ (bytes_eq-Decides x y).1 (sym ((bytes_eq-Decides y x).0 q))
    by false false p q = refl

-- of two lists, the first that has the name
kind_of_two : (o : Option (List ℕ × ColumnKind)) (b : Bool) (c : List ℕ × ColumnKind) → option_map (λ (d : List ℕ × ColumnKind). d.1) (option_or o (cond b (Some c) None))
    ≡ option_or (option_map (λ (d : List ℕ × ColumnKind). d.1) o) (cond b (Some c.1) None)
kind_of_two None true c = refl
kind_of_two None false c = refl
kind_of_two (Some d) b c = refl

pub first_kind-push : (columns : ColumnList) (y : List ℕ) (k : ColumnKind) (x : List ℕ)
    → first_kind (columns ++ (y, k) ∷ []) x ≡ option_or (first_kind columns x) (cond (same_text x y) (Some k) None)
first_kind-push columns y k x =
    ap (option_map (λ (c : List ℕ × ColumnKind). c.1)) (find-append (λ (c : List ℕ × ColumnKind). same_text x c.0) columns ((y, k) ∷ [])) ∙ kind_of_two (found columns x) (same_text x y) (y, k)

-- a new name is found, and each other as before
pub knows_new : (columns : ColumnList) (y : List ℕ) (k : ColumnKind) (x : List ℕ) → first_kind columns y ≡ None
    → cond (same_text y x) (Some k) (first_kind columns x) ≡ first_kind (columns ++ (y, k) ∷ []) x
knows_new columns y k x none = by (same_text y x) refl ∙ sym (first_kind-push columns y k x)
  where
    by : (b : Bool) → same_text y x ≡ b → cond (same_text y x) (Some k) (first_kind columns x) ≡ option_or (first_kind columns x) (cond (same_text x y) (Some k) None)
    by true p =
        ap (λ t. cond t (Some k) (first_kind columns x)) p
        ∙ sym (ap (λ o. option_or o (cond (same_text x y) (Some k) None)) (ap (first_kind columns) (sym ((bytes_eq-Decides y x).0 p)) ∙ none)
        ∙ ap (λ t. cond t (Some k) None) (same_text-sym x y ∙ p))
    by false p =
        ap (λ t. cond t (Some k) (first_kind columns x)) p
        ∙ or_none (first_kind columns x) ∙ sym (ap (λ t. option_or (first_kind columns x) (cond t (Some k) None)) (same_text-sym x y ∙ p))
      where
        or_none : (o : Option ColumnKind) → o ≡ option_or o None
        or_none None = refl
        or_none (Some a) = refl

-- a name that was known stays what it was
pub knows_old : (columns : ColumnList) (y : List ℕ) (k : ColumnKind) (x : List ℕ) → is_some (first_kind columns y) ≡ true
    → first_kind columns x ≡ first_kind (columns ++ (y, k) ∷ []) x
knows_old columns y k x there = by (same_text x y) refl (first_kind columns x) refl ∙ sym (first_kind-push columns y k x)
  where
    by : (b : Bool) → same_text x y ≡ b → (o : Option ColumnKind) → first_kind columns x ≡ o
        → first_kind columns x ≡ option_or (first_kind columns x) (cond (same_text x y) (Some k) None)
    by true p None q = absurd (true≢false (sym there ∙ ap (λ z. is_some (first_kind columns z)) (sym ((bytes_eq-Decides x y).0 p)) ∙ ap is_some q))
    by b p (Some o) q = q ∙ sym (ap (λ z. option_or z (cond (same_text x y) (Some k) None)) q)
    by false p None q = q ∙ sym (ap (λ z. option_or z (cond (same_text x y) (Some k) None)) q ∙ ap (λ t. cond t (Some k) None) p)

-- a new name is put into the map, and the list has one more column
pub knows_inserted : (old new : List ℕ → Option ColumnKind) (columns more : ColumnList) (y z : List ℕ) (k : ColumnKind)
    → z ≡ y → ((x : List ℕ) → old x ≡ first_kind columns x) → is_some (old z) ≡ false
    → ((x : List ℕ) → new x ≡ cond (same_text z x) (Some k) (old x)) → more ≡ columns ++ (y, k) ∷ [] → (x : List ℕ) → new x ≡ first_kind more x
knows_inserted old new columns more y z k same knows absent puts grows x =
    puts x ∙ ap (λ o. cond (same_text z x) (Some k) o) (knows x) ∙ ap (λ w. cond (same_text w x) (Some k) (first_kind columns x)) same
    ∙ knows_new columns y k x (none (first_kind columns y) (sym (ap is_some (knows z ∙ ap (first_kind columns) same)) ∙ absent)) ∙ ap (λ cs. first_kind cs x) (sym grows)
  where
    none : (o : Option ColumnKind) → is_some o ≡ false → o ≡ None
    none None h = refl
    none (Some a) h = absurd (true≢false h)

-- the map stays, and the list has one more column of a name that was there
pub knows_repeated : (old : List ℕ → Option ColumnKind) (columns more : ColumnList) (y z : List ℕ) (k : ColumnKind)
    → z ≡ y → ((x : List ℕ) → old x ≡ first_kind columns x) → is_some (old z) ≡ true → more ≡ columns ++ (y, k) ∷ [] → (x : List ℕ) → old x ≡ first_kind more x
knows_repeated old columns more y z k same knows there grows x =
    knows x ∙ knows_old columns y k x (sym (ap is_some (knows z ∙ ap (first_kind columns) same)) ∙ there) ∙ ap (λ cs. first_kind cs x) (sym grows)
