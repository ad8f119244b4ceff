-- The outputs of RETURN: rows alone, and rows with what stands behind them.
use Rattle.std.proofs.Common.{◌≡◌, ℕ, suc, true, cond, ◌||◌, List, [], ◌∷◌, ◌++◌, length, map, take, refl, sym, ap, ◌∙◌, Some, Result, Ok, Err}
use Rattle.gql_values3.specs.Datum.{Datum}
use Rattle.gql_values3.specs.PropertyGraph.{PropertyGraph}
use Rattle.gql_ast.specs.Tree.{Tree}
use Rattle.gql_ast.specs.Faults.{each}
use Rattle.gql_ast.specs.declared.fault.DataFault.{DataFault}
use Rattle.gql_eval.specs.Machinery.Next.{next}
use Rattle.gql_eval.specs.Gives.{Fails}
use Rattle.gql_eval.specs.declared.error.EvalError.{EvalError}
use Rattle.gql_eval.specs.declared.error.EvalError.TheVariants as error
use Rattle.gql_eval.specs.RowLists.{RowList}
use Rattle.gql_ast.specs.ClauseColumns.{ColumnList}
use Rattle.gql_table.specs.Paging.{Sortable, paged}
use Rattle.gql_ast.specs.Projections.{is_grouped, is_distinct, output_columns, output_trees}
use Rattle.gql_ast.specs.declared.projection.Return.{Return}
use Rattle.gql_ast.specs.declared.words.SetQuantifier.{SetQuantifier}
use Rattle.gql_ast.specs.declared.words.SetQuantifier.TheVariants as quantifier
use Rattle.gql_table.specs.Distinct.{distinct_rows, left_of}
use Rattle.gql_table.specs.Grouping.{grouped_rows}
use Rattle.gql_table.specs.Machinery.Width.{seen}
use Rattle.gql_table.specs.Projection.{output_row, output_of, all_alone, with_incoming, grouped_outputs, plain_outputs, returned_rows}

-- two steps, of which the first only changes what it is given
pub next_next : {A B C : Type 0} (r : Result A DataFault) (f : A → B) (k : B → Result C DataFault) → next (next r (λ x. Ok (f x))) k ≡ next r (λ x. k (f x))
next_next (Ok x) f k = refl
next_next (Err e) f k = refl

pub each_length_cons : {A B : Type 0} (r : Result B DataFault) (s : Result (List B) DataFault) (xs : List A) (ys : List B)
    → next r (λ y. next s (λ zs. Ok (y ∷ zs))) ≡ Ok ys → ((zs : List B) → s ≡ Ok zs → length zs ≡ length xs) → length ys ≡ suc (length xs)
each_length_cons (Err e) s xs ys p h = absurd (cc)
each_length_cons (Ok y) (Err e) xs ys p h = absurd (cc)
each_length_cons {A} {B} (Ok y) (Ok zs) xs ys p h = let same : ys ≡ y ∷ zs = cc in ap length same ∙ ap suc (h zs refl)

-- as many results as items
pub each_length : {A B : Type 0} (f : A → Result B DataFault) (xs : List A) (ys : List B) → each f xs ≡ Ok ys → length ys ≡ length xs
each_length f [] [] p = refl
each_length f [] (y ∷ ys) p = absurd (cc)
each_length f (x ∷ xs) ys p = each_length_cons (f x) (each f xs) xs ys p (each_length f xs)

pub take_front : {A : Type 0} (xs ys : List A) (n : ℕ) → length xs ≡ n → take n (xs ++ ys) ≡ xs
take_front xs ys n p = ap (λ k. take k (xs ++ ys)) (sym p) ∙ front xs ys
  where
    front : {A : Type 0} (xs ys : List A) → take (length xs) (xs ++ ys) ≡ xs
    front [] [] = refl
    front [] (y ∷ ys) = refl
    front (x ∷ xs) ys = ap (λ zs. x ∷ zs) (front xs ys)

pub firsts_alone : (rows : RowList) → map (λ (o : Sortable). o.0) (all_alone rows) ≡ rows
firsts_alone [] = refl
firsts_alone (r ∷ rs) = ap (λ l. r ∷ l) (firsts_alone rs)

module _ (g : PropertyGraph) (params : List (List ℕ × Datum)) (columns : ColumnList) (es : List Tree) where
  -- the output rows alone
  firsts_case : {C : Type 0} (r : List Datum) (s : Result (List Datum) DataFault) (os : Result (List Sortable) DataFault) (rs : Result RowList DataFault) (k : RowList → Result C DataFault)
      → ((j : RowList → Result C DataFault) → next os (λ outs. j (map (λ (o : Sortable). o.0) outs)) ≡ next rs j)
      → next (next (next s (λ out. Ok (out, out ++ r))) (λ o. next os (λ more. Ok (o ∷ more)))) (λ outs. k (map (λ (o : Sortable). o.0) outs))
      ≡ next (next s (λ out. next rs (λ more. Ok (out ∷ more)))) k
  firsts_case r (Err e) os rs k h = refl
  firsts_case r (Ok out) os rs k h =
      next_next os (λ more. (out, out ++ r) ∷ more) (λ outs. k (map (λ (o : Sortable). o.0) outs)) ∙ h (λ more. k (out ∷ more)) ∙ sym (next_next rs (λ more. out ∷ more) k)

  pub firsts : {C : Type 0} (rows : RowList) (k : RowList → Result C DataFault)
      → next (each (output_of g params columns es) rows) (λ outs. k (map (λ (o : Sortable). o.0) outs)) ≡ next (each (output_row g params columns es) rows) k
  firsts [] k = refl
  firsts (r ∷ rs) k =
      firsts_case r (output_row g params columns es r) (each (output_of g params columns es) rs) (each (output_row g params columns es) rs) k (firsts rs)

  -- an output row, and behind it the incoming row
  abbrev pub wide_row : List Datum → Result (List Datum) DataFault
  wide_row row = next (output_row g params columns es row) (λ out. Ok (out ++ row))

  wide_case : {C : Type 0} (r : List Datum) (s : Result (List Datum) DataFault) (os : Result (List Sortable) DataFault) (ws : Result RowList DataFault) (k : List Sortable → Result C DataFault)
      → ((out : List Datum) → s ≡ Ok out → take (length es) (out ++ r) ≡ out)
      → ((j : List Sortable → Result C DataFault) → next os j ≡ next ws (λ more. j (map (seen (Some (length es))) more)))
      → next (next (next s (λ out. Ok (out, out ++ r))) (λ o. next os (λ more. Ok (o ∷ more)))) k
      ≡ next (next (next s (λ out. Ok (out ++ r))) (λ w. next ws (λ more. Ok (w ∷ more)))) (λ more. k (map (seen (Some (length es))) more))
  wide_case r (Err e) os ws k front h = refl
  wide_case r (Ok out) os ws k front h =
      next_next os (λ more. (out, out ++ r) ∷ more) k ∙ h (λ more. k ((out, out ++ r) ∷ more))
      ∙ ap (λ (o : List Datum). next ws (λ more. k ((o, out ++ r) ∷ map (seen (Some (length es))) more))) (sym (front out refl))
      ∙ sym (next_next ws (λ more. (out ++ r) ∷ more) (λ more. k (map (seen (Some (length es))) more)))

  pub wide_is : {C : Type 0} (rows : RowList) (k : List Sortable → Result C DataFault)
      → next (each (output_of g params columns es) rows) k ≡ next (each wide_row rows) (λ ws. k (map (seen (Some (length es))) ws))
  wide_is [] k = refl
  wide_is (r ∷ rs) k =
      wide_case r (output_row g params columns es r) (each (output_of g params columns es) rs) (each wide_row rs) k
      (λ out p. take_front out r (length es) (each_length _ es out p)) (wide_is rs)

-- what follows of outputs whose rows alone are given
pub after_firsts : {A B C : Type 0} (r : Result A DataFault) (m : A → B) (d : B → C) {D : Type 0} (k : C → Result D DataFault) (b : B) → next r (λ x. Ok (m x)) ≡ Ok b
    → next (next r (λ x. Ok (d (m x)))) k ≡ k (d b)
after_firsts (Ok x) m d k b p = ap (λ y. k (d y)) (inside p)
  where
    inside : {B : Type 0} {y z : B} → ◌≡◌ {A = Result B DataFault} (Ok y) (Ok z) → y ≡ z
    inside e = cc
after_firsts (Err e) m d k b p = absurd (cc)

pub fails_firsts : {A B C D : Type 0} (e : EvalError) (r : Result A DataFault) (m : A → B) (d : B → C) (k : C → Result D DataFault) → Fails e (next r (λ x. Ok (m x)))
    → Fails e (next (next r (λ x. Ok (d (m x)))) k)
fails_firsts error.OutOfMemory r m d k p = tt
fails_firsts (error.Fault f) (Ok x) m d k p = absurd (cc)
fails_firsts (error.Fault f) (Err x) m d k p = let same : x ≡ f = cc in ap Err same

pub map_long : {A B : Type 0} (f : A → B) (xs : List A) → length (map f xs) ≡ length xs
map_long f [] = refl
map_long f (x ∷ xs) = ap suc (map_long f xs)

-- the rows of a RETURN that is grouped
module _ (g : PropertyGraph) (params : List (List ℕ × Datum)) (columns : ColumnList) where
  grouped_case : (q : SetQuantifier) (es : List Tree) (rows outs : RowList) → grouped_rows g params columns es rows ≡ Ok outs → grouped_outputs g params columns q es rows ≡ Ok (all_alone (left_of q outs))
  grouped_case quantifier.All es rows outs p = ap (λ (r : Result RowList DataFault). next r (λ os. Ok (all_alone os))) p
  grouped_case quantifier.Distinct es rows outs p = ap (λ (r : Result RowList DataFault). next r (λ os. Ok (all_alone (distinct_rows os)))) p

  pub grouped_returned : (r : Return) (rows outs : RowList) → is_grouped columns r ≡ true → grouped_rows g params columns (output_trees columns r.items) rows ≡ Ok outs
      → returned_rows g params columns r rows ≡ paged g params (output_columns columns r.items) r.order r.skip r.limit (all_alone (left_of r.quantifier outs))
  grouped_returned r rows outs is given =
      let es = output_trees columns r.items in
      ap (λ b. next (cond b (grouped_outputs g params columns r.quantifier es rows) (plain_outputs g params columns r.quantifier r.items rows))
      (paged g params (cond (b || is_distinct r.quantifier) (output_columns columns r.items) (with_incoming columns r.items)) r.order r.skip r.limit)) is
      ∙ ap (λ (o : Result (List Sortable) DataFault). next o (paged g params (output_columns columns r.items) r.order r.skip r.limit)) (grouped_case r.quantifier es rows outs given)
