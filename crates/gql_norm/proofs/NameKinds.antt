-- What E09 says where it finds nothing: in the text of a MATCH all declarations of one name are of one kind.
use Rattle.std.proofs.Common.{◌≡◌, inl, inr, ℕ, Bool, true, false, ◌&&◌, ◌||◌, not, cond, List, [], ◌∷◌, map, flat_map, Option, Some, None, refl, sym, ap, ◌∙◌, subst}
use Rattle.std.specs.List.{list_any}
use Rattle.std.proofs.lemmas.Bool.{or_parts, or_right}
use Rattle.gql_values3.specs.Texts.{same_text}
use Rattle.gql_values3.specs.declared.table.ColumnKind.{ColumnKind}
use Rattle.gql_values3.specs.declared.table.ColumnKind.TheVariants as kind
use Rattle.gql_ast.specs.ClauseColumns.{ColumnList, is_column}
use Rattle.gql_expr_checks.proofs.KnowingLemmas.{same_text-refl, same_text-sym}
use Rattle.gql_norm.specs.NormalPattern.{Part, Node, Edge, Concat, Union, Alt, Quant, Opt, ModeScope, Sides, NoSide, Side, NormalPath}
use Rattle.gql_norm.specs.Declaration.{Declared, declarations}
use Rattle.gql_norm.specs.Selection.{Each, Among}
use Rattle.gql_norm.specs.WrongKinds.{is_kind, clashes, wrong_among}
use Rattle.gql_norm.specs.Machinery.ColumnGrowth.{declared_variable, declared_in, declared_in_sides}
use Rattle.gql_norm.proofs.AmongLemmas.{among_flat}
use Rattle.gql_norm.proofs.ColumnLemmas.{without_place, declarations_seen}
use Rattle.gql_norm.proofs.EachLemmas.{each_append, each_of, each_map, each_of_map, of_each}
use Rattle.gql_norm.proofs.PositionKinds.{IsElement, IsOfKind}

-- each declaration is one of a node or of an edge
abbrev IsOfElement : List ℕ × ColumnKind → Type 0
IsOfElement c = IsElement c.1

variable_is_element : (k : ColumnKind) (o : Option (List ℕ)) → IsElement k → Each IsOfElement (declared_variable k o)
variable_is_element k None h = tt
variable_is_element k (Some x) h = (h, tt)

mutual
  are_elements : (p : Part) → Each IsOfElement (declared_in p)
  are_elements (Node w) = variable_is_element kind.Node w.variable tt
  are_elements (Edge d w) = variable_is_element kind.Edge w.variable tt
  are_elements (Concat p r) = each_append IsOfElement (declared_in p) (declared_in r) (are_elements p) (are_elements r)
  are_elements (Union p r) = each_append IsOfElement (declared_in p) (declared_in r) (are_elements p) (are_elements r)
  are_elements (Alt ss) = sides_are_elements ss
  are_elements (Quant b l n) = are_elements b
  are_elements (Opt b) = are_elements b
  are_elements (ModeScope m b c) = are_elements b

  sides_are_elements : (ss : Sides) → Each IsOfElement (declared_in_sides ss)
  sides_are_elements NoSide = tt
  sides_are_elements (Side p ss) = each_append IsOfElement (declared_in p) (declared_in_sides ss) (are_elements p) (sides_are_elements ss)

pub declared_elements : (body : Part) → Each (λ (d : Declared). IsElement d.kind) (declarations body)
declared_elements body = each_of_map IsOfElement without_place (declarations body) (subst (Each IsOfElement) (sym (declarations_seen body)) (are_elements body))

pub all_elements : (ps : List NormalPath) → Each (λ (d : Declared). IsElement d.kind) (flat_map (λ (q : NormalPath). declarations q.body) ps)
all_elements [] = tt
all_elements (p ∷ ps) = each_append (λ (d : Declared). IsElement d.kind) (declarations p.body) (flat_map (λ (q : NormalPath). declarations q.body) ps) (declared_elements p.body) (all_elements ps)

-- each declaration is among what is declared
pub declared_columns : (body : Part) → Each (λ (d : Declared). is_column (declared_in body) d.name ≡ true) (declarations body)
declared_columns body = subst (λ cs. Each (λ (d : Declared). is_column cs d.name ≡ true) (declarations body)) (declarations_seen body) (each_of (λ (d : Declared). is_column (map without_place (declarations body)) d.name ≡ true) (declarations body) (λ d i. is_there d (declarations body) i))
  where
    is_there : (d : Declared) (ds : List Declared) → Among d ds → is_column (map without_place ds) d.name ≡ true
    is_there d [] i = elim i [ ]
    is_there d (e ∷ ds) (inl p) = ap (λ b. b || is_column (map without_place ds) d.name) (ap (λ z. same_text d.name z.name) (sym p) ∙ same_text-refl d.name)
    is_there d (e ∷ ds) (inr i) = or_right (same_text d.name e.name) (is_column (map without_place ds) d.name) (is_there d ds i)

same_kind : (k l : ColumnKind) → IsElement k → IsElement l → is_kind k l ≡ true → k ≡ l
same_kind kind.Node kind.Node i j h = refl
same_kind kind.Node kind.Edge i j h = absurd (cc)
same_kind kind.Edge kind.Edge i j h = refl
same_kind kind.Edge kind.Node i j h = absurd (cc)
same_kind kind.Node _ i j h = absurd j
same_kind kind.Edge _ i j h = absurd j
same_kind _ l i j h = absurd i

-- a test that fails of all, and one that must hold
none_passes : (test : Declared → Bool) (ds : List Declared) (d : Declared) → Among d ds → list_any test ds ≡ false → test d ≡ false
none_passes test [] d i h = elim i [ ]
none_passes test (e ∷ ds) d (inl p) h = subst (λ z. test z ≡ false) (sym p) (or_parts (test e) (list_any test ds) h).0
none_passes test (e ∷ ds) d (inr i) h = none_passes test ds d i (or_parts (test e) (list_any test ds) h).1

must_hold : (a b : Bool) → (a && not b) ≡ false → a ≡ true → b ≡ true
must_hold true true h k = refl
must_hold true false h k = absurd (cc)
must_hold false b h k = absurd (cc)

module _ (columns : ColumnList) where
  -- a declaration that doesn't clash, and those behind it
  goes_on : (before : List Declared) (d : Declared) (ds : List Declared) → wrong_among columns before (d ∷ ds) ≡ [] → (clashes before columns d ≡ false) × (wrong_among columns (d ∷ before) ds ≡ [])
  goes_on before d ds h = by (clashes before columns d) refl h
    where
      by : (b : Bool) → clashes before columns d ≡ b → cond b (d.name ∷ wrong_among columns (d ∷ before) ds) (wrong_among columns (d ∷ before) ds) ≡ []
          → (clashes before columns d ≡ false) × (wrong_among columns (d ∷ before) ds ≡ [])
      by true e k = absurd (cc)
      by false e k = (e, k)

  agrees : (before : List Declared) (d e : Declared) → Among e before → clashes before columns d ≡ false → same_text d.name e.name ≡ true → is_kind d.kind e.kind ≡ true
  agrees before d e i h t =
      must_hold (same_text d.name e.name) (is_kind d.kind e.kind)
      (none_passes (λ (z : Declared). same_text d.name z.name && not (is_kind d.kind z.kind)) before e i (or_parts _ _ h).0) t

  later_agrees : (before ds : List Declared) (e d : Declared) → Among e before → wrong_among columns before ds ≡ [] → Among d ds → same_text d.name e.name ≡ true → is_kind d.kind e.kind ≡ true
  later_agrees before [] e d i h j t = elim j [ ]
  later_agrees before (c ∷ ds) e d i h (inl p) t =
      subst (λ z. is_kind z.kind e.kind ≡ true) (sym p) (agrees before c e i (goes_on before c ds h).0 (subst (λ z. same_text z.name e.name ≡ true) p t))
  later_agrees before (c ∷ ds) e d i h (inr j) t = later_agrees (c ∷ before) ds e d (inr i) (goes_on before c ds h).1 j t

  one_kind : (before ds : List Declared) → Each (λ (d : Declared). IsElement d.kind) ds → wrong_among columns before ds ≡ []
      → (d e : Declared) → Among d ds → Among e ds → same_text d.name e.name ≡ true → e.kind ≡ d.kind
  one_kind before [] a h d e i j t = elim i [ ]
  one_kind before (c ∷ ds) a h d e (inl p) (inl q) t = ap (λ z. z.kind) (q ∙ sym p)
  one_kind before (c ∷ ds) a h d e (inl p) (inr j) t =
      same_kind e.kind c.kind (of_each (λ (z : Declared). IsElement z.kind) ds e a.1 j) a.0
      (later_agrees (c ∷ before) ds c e (inl refl) (goes_on before c ds h).1 j (same_text-sym e.name c.name ∙ subst (λ z. same_text z.name e.name ≡ true) p t))
      ∙ ap (λ z. z.kind) (sym p)
  one_kind before (c ∷ ds) a h d e (inr i) (inl q) t =
      ap (λ z. z.kind) q
      ∙ sym (same_kind d.kind c.kind (of_each (λ (z : Declared). IsElement z.kind) ds d a.1 i) a.0
      (later_agrees (c ∷ before) ds c d (inl refl) (goes_on before c ds h).1 i (subst (λ z. same_text d.name z.name ≡ true) q t)))
  one_kind before (c ∷ ds) a h d e (inr i) (inr j) t = one_kind (c ∷ before) ds a.1 (goes_on before c ds h).1 d e i j t

  -- all that a path pattern declares under the name of one of its declarations is of this kind
  abbrev pub HasOneKind : NormalPath → Declared → Type 0
  HasOneKind p d = Each (IsOfKind d.name d.kind) (declared_in p.body)

  pub names_have_one_kind : (ps : List NormalPath) → wrong_among columns [] (flat_map (λ (q : NormalPath). declarations q.body) ps) ≡ [] → Each (λ (p : NormalPath). Each (HasOneKind p) (declarations p.body)) ps
  names_have_one_kind ps h =
      each_of (λ (p : NormalPath). Each (HasOneKind p) (declarations p.body)) ps
      (λ p i. each_of (HasOneKind p) (declarations p.body)
      (λ d j. subst (Each (IsOfKind d.name d.kind)) (declarations_seen p.body)
      (each_map (IsOfKind d.name d.kind) without_place (declarations p.body)
      (each_of (λ (e : Declared). IsOfKind d.name d.kind (without_place e)) (declarations p.body)
      (λ e k t. one_kind [] all (all_elements ps) h d e (within p d i j) (within p e i k) t)))))
    where
      all : List Declared
      all = flat_map (λ (q : NormalPath). declarations q.body) ps

      within : (p : NormalPath) (d : Declared) → Among p ps → Among d (declarations p.body) → Among d all
      within p d i j = among_flat (λ (q : NormalPath). declarations q.body) p ps d i j
