-- What the walk of one name finds is what the definitions say of it.
use Rattle.std.proofs.Common.{◌≡◌, ℕ, suc, ◌+◌, Bool, true, false, List, [], ◌∷◌, ◌++◌, flat_map, is_some, Option, Some, None, find, refl, sym, ap, ◌∙◌, arith}
use Rattle.std.specs.Prelude.{option_map, if◌then◌else◌}
use Rattle.gql_values3.specs.Texts.{same_text}
use Rattle.gql_values3.specs.declared.table.ColumnKind.{ColumnKind}
use Rattle.gql_ast.specs.ClauseColumns.{ColumnList}
use Rattle.gql_expr_checks.specs.Machinery.Knowing.{first_kind}
use Rattle.gql_norm.specs.declared.degree.Degree.{Degree}
use Rattle.gql_norm.specs.declared.degree.Degree.TheVariants.{Singleton, Group}
use Rattle.gql_ast.specs.Tree.{Tree}
use Rattle.gql_ast.specs.declared.mode.Mode.{Mode}
use Rattle.gql_ast.specs.declared.pattern.Direction.{Direction}
use Rattle.gql_norm.specs.NormalPattern.{ElementPattern, Part, Node, Edge, Concat, Union, Alt, Quant, Opt, ModeScope, Sides, NoSide, Side, NormalPath}
use Rattle.gql_norm.specs.Places.{size, size_all}
use Rattle.gql_norm.specs.Degree.{element_degree, joint, beside, beside_all, under_optional, degree_of, degrees_of}
use Rattle.gql_norm.specs.NewColumns.{degree_in_paths}
use Rattle.gql_norm.specs.Declaration.{Declared, all_declared}
use Rattle.gql_norm.specs.JoinDefects.{Spot, first_place, declared_in_paths, column_degree, degree_of_column, spot_by, spots_in_row, spots_in_later, spots_in, spots_in_sides, spots_in_paths, spots_at_columns}
use Rattle.gql_degrees.specs.Machinery.JoinWalk.{sooner, place_if, Before, none_before, and_degree, is_behind_fault, are_both_faulty, Walked, in_turn, side_by, closed, all_group, all_optional, against, walked, walked_sides, walked_paths, with_column, place_of_fault}
use Rattle.gql_degrees.proofs.PlaceLemmas.{sooner_none, sooner_comm, sooner_assoc, sooner_cross, former_none, place_if-none, least_of, least_append, least_of_each, first_named, first_append}
use Rattle.gql_degrees.proofs.NamedLemmas.{variable_at, named_in, named_in_sides, named_in_paths, declared_named_paths, first_place_in_paths}
use Rattle.gql_degrees.proofs.RowLemmas.{row_by, later_by, row_none, later_none, row_more, later_more, spot_place, spot_other, row_against, later_against}

module _ (f : Degree → Degree → Bool) (x : List ℕ) where
  -- of a part with nothing before, and behind others
  abbrev pub alone : Part → ℕ → Walked
  alone p a = record { degree = degree_of p x; first = first_named x (named_in p a); fault = least_of x (spots_in f p a); behind = a + size p }

  abbrev pub told : Part → ℕ → Before → Walked
  told p a b = record {
    degree = degree_of p x;
    first = first_named x (named_in p a);
    fault = sooner (least_of x (spots_in f p a)) (row_by (is_behind_fault f b) x p a);
    behind = a + size p;
  }

  abbrev alone_sides : Sides → ℕ → Walked
  alone_sides ss b = record {
    degree = beside_all (degrees_of ss x);
    first = first_named x (named_in_sides ss b);
    fault = least_of x (spots_in_sides f ss b);
    behind = b + size_all ss;
  }

  told_alone : (p : Part) (a : ℕ) → told p a none_before ≡ alone p a
  told_alone p a = λ i. record {
    degree = degree_of p x;
    first = first_named x (named_in p a);
    fault = (ap (sooner (least_of x (spots_in f p a))) (row_none f x p a) ∙ sooner_none (least_of x (spots_in f p a))) i;
    behind = a + size p;
  }

  -- the faults of a row
  pub least_in_row : (p r : Part) (a : ℕ) → least_of x (spots_in f (Concat p r) a)
      ≡ sooner (least_of x (spots_in f p a)) (sooner (least_of x (spots_in f r (a + size p))) (row_by (are_both_faulty f (degree_of p x)) x r (a + size p)))
  least_in_row p r a =
      least_append x (spots_in f p a ++ spots_in f r (a + size p)) (flat_map (λ (d : Declared). spots_in_row f d.name (degree_of p d.name) r (a + size p)) (all_declared p a))
      ∙ (λ i. sooner (least_append x (spots_in f p a) (spots_in f r (a + size p)) i) (row_against f x p a r (a + size p) i))
      ∙ sym (sooner_assoc (least_of x (spots_in f p a)) (least_of x (spots_in f r (a + size p))) (row_by (are_both_faulty f (degree_of p x)) x r (a + size p)))

  -- what is at fault in one part, then as that part, then in the rest, then in the rest with those before and with that part
  regrouped : (l s m q d : Option ℕ) → sooner (sooner l s) (sooner m (sooner q d)) ≡ sooner (sooner l (sooner m d)) (sooner s q)
  regrouped l s m q d =
      ap (sooner (sooner l s)) (ap (sooner m) (sooner_comm q d) ∙ sooner_assoc m d q) ∙ sooner_cross l s (sooner m d) q

  fault_in_row : (p r : Part) (a : ℕ) (b : Before)
      → sooner (sooner (least_of x (spots_in f p a)) (place_if (is_behind_fault f b (degree_of p x)) (first_named x (named_in p a))))
      (sooner (least_of x (spots_in f r (a + size p))) (row_by (is_behind_fault f (and_degree b (degree_of p x))) x r (a + size p)))
      ≡ sooner (least_of x (spots_in f (Concat p r) a)) (row_by (is_behind_fault f b) x (Concat p r) a)
  fault_in_row p r a b =
      (λ i. sooner (sooner (least_of x (spots_in f p a)) (place_if (is_behind_fault f b (degree_of p x)) (first_named x (named_in p a))))
      (sooner (least_of x (spots_in f r (a + size p))) (row_more f x b (degree_of p x) r (a + size p) i)))
      ∙ regrouped (least_of x (spots_in f p a)) (place_if (is_behind_fault f b (degree_of p x)) (first_named x (named_in p a))) (least_of x (spots_in f r (a + size p)))
      (row_by (is_behind_fault f b) x r (a + size p)) (row_by (are_both_faulty f (degree_of p x)) x r (a + size p))
      ∙ (λ i. sooner (sym (least_in_row p r a) i) (sooner (place_if (is_behind_fault f b (degree_of p x)) (first_named x (named_in p a))) (row_by (is_behind_fault f b) x r (a + size p))))

  lone_is : (v : Option (List ℕ)) (a : ℕ) → option_map (λ (d : Degree). a) (element_degree v x) ≡ first_named x (variable_at v a)
  lone_is None a = refl
  lone_is (Some y) a = by (same_text x y)
    where
      by : (b : Bool) → option_map (λ (d : Degree). a) (if b then Some Singleton else None) ≡ option_map (λ (s : Spot). s.0) (if b then Some (a, y) else None)
      by true = refl
      by false = refl

  beside_places : (a m : ℕ) → ((a + 1) + m) + 1 ≡ a + m + 2
  beside_places a m = omega arith

  behind_node : (w : ElementPattern) (a : ℕ) → a + 1 ≡ a + size (Node w)
  unfolding size
  behind_node w a = refl

  behind_edge : (d : Direction) (w : ElementPattern) (a : ℕ) → a + 1 ≡ a + size (Edge d w)
  unfolding size
  behind_edge d w a = refl

  behind_row : (p r : Part) (a : ℕ) → (a + size p) + size r ≡ a + size (Concat p r)
  unfolding size
  behind_row p r a = omega arith

  behind_beside : (p r : Part) (a : ℕ) → ((a + size p + 2) + size r) + 1 ≡ a + size (Union p r)
  unfolding size
  behind_beside p r a = omega arith

  behind_told : (ss : Sides) (a : ℕ) → (a + 1) + size_all ss ≡ a + size (Alt ss)
  unfolding size
  behind_told ss a = omega arith

  behind_repeated : (c : Part) (l : ℕ) (n : Option ℕ) (a : ℕ) → ((a + 2) + size c) + 1 ≡ a + size (Quant c l n)
  unfolding size
  behind_repeated c l n a = omega arith

  behind_optional : (c : Part) (a : ℕ) → ((a + 1) + size c) + 1 ≡ a + size (Opt c)
  unfolding size
  behind_optional c a = omega arith

  behind_scope : (m : Mode) (c : Part) (w : Option Tree) (a : ℕ) → ((a + 1) + size c) + 1 ≡ a + size (ModeScope m c w)
  unfolding size
  behind_scope m c w a = omega arith

  behind_last : (p : Part) (b : ℕ) → (b + size p) + 1 ≡ b + size_all (Side p NoSide)
  unfolding size
  behind_last p b = omega arith

  behind_side : (p : Part) (ss : Sides) (b : ℕ) → (b + size p + 1) + size_all ss ≡ b + size_all (Side p ss)
  unfolding size
  behind_side p ss b = omega arith

  behind_no_side : (b : ℕ) → b ≡ b + size_all NoSide
  unfolding size
  behind_no_side b = omega arith

  by_alone : (p : Part) (a : ℕ) → walked f x p a none_before ≡ told p a none_before → walked f x p a none_before ≡ alone p a
  by_alone p a h = h ∙ told_alone p a

  mutual
    pub walked_told : (p : Part) (a : ℕ) (b : Before) → walked f x p a b ≡ told p a b
    walked_told (Node w) a b = λ i. against f b (record { degree = element_degree w.variable x; first = lone_is w.variable a i; fault = None; behind = behind_node w a i })
    walked_told (Edge d w) a b = λ i. against f b (record { degree = element_degree w.variable x; first = lone_is w.variable a i; fault = None; behind = behind_edge d w a i })
    walked_told (Concat p r) a b =
        let one = by_alone p a (walked_told p a none_before) in
        (λ i. in_turn (against f b (one i)) (walked f x r (one i).behind (and_degree b (one i).degree)))
        ∙ (λ i. in_turn (against f b (alone p a)) (walked_told r (a + size p) (and_degree b (degree_of p x)) i))
        ∙ (λ i. record {
          degree = joint (degree_of p x) (degree_of r x);
          first = sym (first_append x (named_in p a) (named_in r (a + size p))) i;
          fault = fault_in_row p r a b i;
          behind = behind_row p r a i;
        })
    walked_told (Union p r) a b =
        let one = by_alone p (a + 1) (walked_told p (a + 1) none_before) in
        let other = by_alone r (a + size p + 2) (walked_told r (a + size p + 2) none_before) in
        (λ i. against f b (closed (side_by (one i) (walked f x r ((one i).behind + 1) none_before))))
        ∙ (λ i. against f b (closed (side_by (alone p (a + 1)) (walked f x r (beside_places a (size p) i) none_before))))
        ∙ (λ i. against f b (closed (side_by (alone p (a + 1)) (other i))))
        ∙ (λ i. against f b (record {
          degree = beside (degree_of p x) (degree_of r x);
          first = sym (first_append x (named_in p (a + 1)) (named_in r (a + size p + 2))) i;
          fault = sym (least_append x (spots_in f p (a + 1)) (spots_in f r (a + size p + 2))) i;
          behind = behind_beside p r a i;
        }))
    walked_told (Alt ss) a b =
        (λ i. against f b (walked_sides_told ss (a + 1) i))
        ∙ (λ i. against f b (record {
          degree = beside_all (degrees_of ss x);
          first = first_named x (named_in_sides ss (a + 1));
          fault = least_of x (spots_in_sides f ss (a + 1));
          behind = behind_told ss a i;
        }))
    walked_told (Quant c l n) a b =
        let one = by_alone c (a + 2) (walked_told c (a + 2) none_before) in
        (λ i. against f b (closed (all_group (one i))))
        ∙ (λ i. against f b (record {
          degree = option_map (λ (d : Degree). Group) (degree_of c x);
          first = first_named x (named_in c (a + 2));
          fault = least_of x (spots_in f c (a + 2));
          behind = behind_repeated c l n a i;
        }))
    walked_told (Opt c) a b =
        let one = by_alone c (a + 1) (walked_told c (a + 1) none_before) in
        (λ i. against f b (closed (all_optional (one i))))
        ∙ (λ i. against f b (record {
          degree = option_map under_optional (degree_of c x);
          first = first_named x (named_in c (a + 1));
          fault = least_of x (spots_in f c (a + 1));
          behind = behind_optional c a i;
        }))
    walked_told (ModeScope m c w) a b =
        let one = by_alone c (a + 1) (walked_told c (a + 1) none_before) in
        (λ i. against f b (closed (one i)))
        ∙ (λ i. against f b (record {
          degree = degree_of c x;
          first = first_named x (named_in c (a + 1));
          fault = least_of x (spots_in f c (a + 1));
          behind = behind_scope m c w a i;
        }))

    walked_sides_told : (ss : Sides) (b : ℕ) → walked_sides f x ss b ≡ alone_sides ss b
    walked_sides_told NoSide b = λ i. record { degree = None; first = None; fault = None; behind = behind_no_side b i }
    walked_sides_told (Side p NoSide) b =
        let one = by_alone p b (walked_told p b none_before) in
        (λ i. closed (one i))
        ∙ (λ i. record {
          degree = degree_of p x;
          first = sym (first_append x (named_in p b) [] ∙ former_none (first_named x (named_in p b))) i;
          fault = sym (least_append x (spots_in f p b) [] ∙ sooner_none (least_of x (spots_in f p b))) i;
          behind = behind_last p b i;
        })
    walked_sides_told (Side p (Side r ss)) b =
        let one = by_alone p b (walked_told p b none_before) in
        (λ i. side_by (closed (one i)) (walked_sides f x (Side r ss) (closed (one i)).behind))
        ∙ (λ i. side_by (closed (alone p b)) (walked_sides_told (Side r ss) (b + size p + 1) i))
        ∙ (λ i. record {
          degree = beside (degree_of p x) (beside_all (degrees_of (Side r ss) x));
          first = sym (first_append x (named_in p b) (named_in_sides (Side r ss) (b + size p + 1))) i;
          fault = sym (least_append x (spots_in f p b) (spots_in_sides f (Side r ss) (b + size p + 1))) i;
          behind = behind_side p (Side r ss) b i;
        })

  -- of path patterns
  abbrev end_of : List NormalPath → ℕ → ℕ
  end_of [] a = a
  end_of (p ∷ ps) a = end_of ps (a + suc (size p.body))

  abbrev told_paths : List NormalPath → ℕ → Before → Walked
  told_paths ps a b = record {
    degree = degree_in_paths ps x;
    first = first_named x (named_in_paths ps a);
    fault = sooner (least_of x (spots_in_paths f ps a)) (later_by (is_behind_fault f b) x ps a);
    behind = end_of ps a;
  }

  pub least_in_paths : (p : NormalPath) (ps : List NormalPath) (a : ℕ) → least_of x (spots_in_paths f (p ∷ ps) a)
      ≡ sooner (least_of x (spots_in f p.body a)) (sooner (least_of x (spots_in_paths f ps (a + suc (size p.body)))) (later_by (are_both_faulty f (degree_of p.body x)) x ps (a + suc (size p.body))))
  least_in_paths p ps a =
      let e = a + suc (size p.body) in
      least_append x (spots_in f p.body a ++ flat_map (λ (d : Declared). spots_in_later f d.name (degree_of p.body d.name) ps e) (all_declared p.body a)) (spots_in_paths f ps e)
      ∙ (λ i. sooner (least_append x (spots_in f p.body a) (flat_map (λ (d : Declared). spots_in_later f d.name (degree_of p.body d.name) ps e) (all_declared p.body a)) i) (least_of x (spots_in_paths f ps e)))
      ∙ (λ i. sooner (sooner (least_of x (spots_in f p.body a)) (later_against f x p.body a ps e i)) (least_of x (spots_in_paths f ps e)))
      ∙ sym (sooner_assoc (least_of x (spots_in f p.body a)) (later_by (are_both_faulty f (degree_of p.body x)) x ps e) (least_of x (spots_in_paths f ps e)))
      ∙ ap (sooner (least_of x (spots_in f p.body a))) (sooner_comm (later_by (are_both_faulty f (degree_of p.body x)) x ps e) (least_of x (spots_in_paths f ps e)))

  fault_in_paths : (p : NormalPath) (ps : List NormalPath) (a : ℕ) (b : Before)
      → sooner (sooner (least_of x (spots_in f p.body a)) (place_if (is_behind_fault f b (degree_of p.body x)) (first_named x (named_in p.body a))))
      (sooner (least_of x (spots_in_paths f ps (a + suc (size p.body)))) (later_by (is_behind_fault f (and_degree b (degree_of p.body x))) x ps (a + suc (size p.body))))
      ≡ sooner (least_of x (spots_in_paths f (p ∷ ps) a)) (later_by (is_behind_fault f b) x (p ∷ ps) a)
  fault_in_paths p ps a b =
      let e = a + suc (size p.body) in
      (λ i. sooner (sooner (least_of x (spots_in f p.body a)) (place_if (is_behind_fault f b (degree_of p.body x)) (first_named x (named_in p.body a))))
      (sooner (least_of x (spots_in_paths f ps e)) (later_more f x b (degree_of p.body x) ps e i)))
      ∙ regrouped (least_of x (spots_in f p.body a)) (place_if (is_behind_fault f b (degree_of p.body x)) (first_named x (named_in p.body a))) (least_of x (spots_in_paths f ps e))
      (later_by (is_behind_fault f b) x ps e) (later_by (are_both_faulty f (degree_of p.body x)) x ps e)
      ∙ (λ i. sooner (sym (least_in_paths p ps a) i) (sooner (place_if (is_behind_fault f b (degree_of p.body x)) (first_named x (named_in p.body a))) (later_by (is_behind_fault f b) x ps e)))

  next_place : (a n : ℕ) → (a + n) + 1 ≡ a + suc n
  next_place a n = omega arith

  pub walked_paths_told : (ps : List NormalPath) (a : ℕ) (b : Before) → walked_paths f x ps a b ≡ told_paths ps a b
  walked_paths_told [] a b = refl
  walked_paths_told (p ∷ ps) a b =
      let one = by_alone p.body a (walked_told p.body a none_before) in
      (λ i. in_turn (against f b (one i)) (walked_paths f x ps ((one i).behind + 1) (and_degree b (one i).degree)))
      ∙ (λ i. in_turn (against f b (alone p.body a)) (walked_paths f x ps (next_place a (size p.body) i) (and_degree b (degree_of p.body x))))
      ∙ (λ i. in_turn (against f b (alone p.body a)) (walked_paths_told ps (a + suc (size p.body)) (and_degree b (degree_of p.body x)) i))
      ∙ (λ i. record {
        degree = joint (degree_of p.body x) (degree_in_paths ps x);
        first = sym (first_append x (named_in p.body a) (named_in_paths ps (a + suc (size p.body)))) i;
        fault = fault_in_paths p ps a b i;
        behind = end_of ps (a + suc (size p.body));
      })

  -- and with the columns
  column_is : (columns : ColumnList) → option_map column_degree (first_kind columns x) ≡ degree_of_column columns x
  column_is columns = by (find (λ (c : List ℕ × ColumnKind). same_text x c.0) columns)
    where
      by : (o : Option (List ℕ × ColumnKind)) → option_map column_degree (option_map (λ (c : List ℕ × ColumnKind). c.1) o) ≡ option_map (λ (c : List ℕ × ColumnKind). column_degree c.1) o
      by None = refl
      by (Some c) = refl

  place_if_there : (c : Bool) (m : Option ℕ) → place_if (is_some m) (place_if c m) ≡ place_if c m
  place_if_there c None = sym (place_if-none c)
  place_if_there c (Some a) = refl

  pub least_at_columns : (columns : ColumnList) (ps : List NormalPath)
      → least_of x (spots_at_columns f columns ps) ≡ place_if (are_both_faulty f (degree_of_column columns x) (degree_in_paths ps x)) (first_named x (named_in_paths ps 0))
  least_at_columns columns ps =
      least_of_each x (λ y. spot_by f y (degree_of_column columns y) (degree_in_paths ps y) (first_place y (declared_in_paths ps 0)))
      (λ y h. spot_other f x y h (degree_of_column columns y) (degree_in_paths ps y) (first_place y (declared_in_paths ps 0))) (declared_in_paths ps 0)
      ∙ (λ i. place_if (is_some (first_named x (declared_named_paths ps 0 i))) (spot_place f x (degree_of_column columns x) (degree_in_paths ps x) (first_place x (declared_in_paths ps 0)) i))
      ∙ (λ i. place_if (is_some (first_named x (named_in_paths ps 0))) (place_if (are_both_faulty f (degree_of_column columns x) (degree_in_paths ps x)) (first_place_in_paths x ps 0 i)))
      ∙ place_if_there (are_both_faulty f (degree_of_column columns x) (degree_in_paths ps x)) (first_named x (named_in_paths ps 0))

  pub place_is : (columns : ColumnList) (ps : List NormalPath) → place_of_fault f columns ps x ≡ least_of x (spots_in_paths f ps 0 ++ spots_at_columns f columns ps)
  place_is columns ps =
      (λ i. with_column f (first_kind columns x) (walked_paths_told ps 0 none_before i))
      ∙ (λ i. sooner ((ap (sooner (least_of x (spots_in_paths f ps 0))) (later_none f x ps 0) ∙ sooner_none (least_of x (spots_in_paths f ps 0))) i)
      (place_if (are_both_faulty f (column_is columns i) (degree_in_paths ps x)) (first_named x (named_in_paths ps 0))))
      ∙ (λ i. sooner (least_of x (spots_in_paths f ps 0)) (sym (least_at_columns columns ps) i))
      ∙ sym (least_append x (spots_in_paths f ps 0) (spots_at_columns f columns ps))
