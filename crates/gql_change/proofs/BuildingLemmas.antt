-- The changes that are built lead to the definition's graph. The acts are taken in the order of their elements, so when
-- an element is at hand, none before it comes again; and the order among elements does not matter to the graph.
use Rattle.std.proofs.Common.{◌≡◌, ℕ, Bool, true, false, cond, not, List, [], ◌∷◌, ◌++◌, map, refl, sym, ap, subst, ◌∙◌, append_assoc, append-nil, arith, Some, None, slice_get, Result, Ok, Err}
use Rattle.std.proofs.lemmas.Bool.{and_from, and_parts}
use Rattle.std.specs.Result.{IfOk}
use Rattle.std.specs.Prelude.{◌&&◌, ◌==◌, filter}
use Rattle.std.specs.List.{AllByRecursion}
use Rattle.std.specs.Ordering.{is_lt, nat_cmp}
use Rattle.std.specs.Cmp.{IsStrictWeakOrder}
use Rattle.std.proofs.lemmas.Bool.Decides.{nat_tests}
use Rattle.std.proofs.lemmas.List.Sorted.{ranks_by}
use Rattle.gql_values3.specs.PropertyGraph.{PropertyGraph, is_graph}
use Rattle.gql_values3.specs.declared.element.Elem.{Elem}
use Rattle.gql_values3.specs.declared.element.Elem.TheVariants as elem
use Rattle.gql_values3.specs.declared.records.NodeRecord.{NodeRecord}
use Rattle.gql_values3.specs.declared.records.EdgeRecord.{EdgeRecord}
use Rattle.gql_values3.specs.Lookup.{has_element}
use Rattle.gql_change.specs.Conflicts.{elem_cmp, same_elem}
use Rattle.gql_change.specs.AssignedGraph.{acts_on, node_after, edge_after, assigned}
use Rattle.gql_change.specs.Plans.{LeadTo}
use Rattle.gql_change.specs.Machinery.Swaps.{swaps, act_fits, fits, all_fit, others}
use Rattle.gql_eval.specs.StableSort.{stably_sorted}
use Rattle.gql_change.specs.Machinery.Building.{target_before, Built, built_with, built, built_from}
use Rattle.gql_change.specs.declared.assignment.Act.{Act}
use Rattle.gql_change.specs.declared.assignment.Act.TheVariants as act
use Rattle.gql_change.specs.declared.assignment.Assignment.{Assignment}
use Rattle.gql_eval.proofs.StableSort.{Ascends, NoneLess, itself, sorted_ascends, sorted_ties, sorted_all}
use Rattle.gql_change.proofs.ConflictLemmas.{elem_total}
use Rattle.gql_change.proofs.AssignedLemmas.{all_weaker, first_act, same_elem_is, same_elem_itself}
use Rattle.gql_change.proofs.SwapLemmas.{swaps_lead, leads_append, nothing_leads}

pub targets_ordered : IsStrictWeakOrder target_before
targets_ordered = ranks_by elem_total (λ (a : Assignment). a.target)

-- what is in order to each other
number_ties : (m n : ℕ) → (not (is_lt (nat_cmp m n)) && not (is_lt (nat_cmp n m))) ≡ (n == m)
number_ties m n = grind (arith, nat_tests)

elem_ties : (e t : Elem) → (not (is_lt (elem_cmp e t)) && not (is_lt (elem_cmp t e))) ≡ same_elem t e
elem_ties (elem.Node m) (elem.Node n) = number_ties m.0 n.0
elem_ties (elem.Edge m) (elem.Edge n) = number_ties m.0 n.0
elem_ties (elem.Node m) (elem.Edge n) = refl
elem_ties (elem.Edge m) (elem.Node n) = refl

-- of two elements that are not one, one is before the other
comes_after : (e t : Elem) → is_lt (elem_cmp e t) ≡ false → same_elem e t ≡ false → is_lt (elem_cmp t e) ≡ true
comes_after e t p q = by (is_lt (elem_cmp e t)) (is_lt (elem_cmp t e)) p (elem_ties t e ∙ q)
  where
    by : (b c : Bool) → b ≡ false → (not c && not b) ≡ false → c ≡ true
    by true c r s = absurd (cc)
    by false true r s = refl
    by false false r s = absurd (cc)

-- an element with some act
abbrev some_act : Elem → Assignment
some_act e = record { target = e; act = act.Label [] }

-- the acts on an element stand as they stood
acts_on-sorted : (e : Elem) (xs : List Assignment) → acts_on e (stably_sorted target_before xs) ≡ acts_on e xs
acts_on-sorted e xs =
    ap (map (λ (a : Assignment). a.act))
    (subst (λ (p : Assignment → Bool). filter p (stably_sorted target_before xs) ≡ filter p xs) (λ i (a : Assignment). elem_ties e a.target i)
    (sorted_ties target_before targets_ordered (some_act e) xs))

pub assigned-sorted : (g : PropertyGraph) (xs : List Assignment) → assigned (stably_sorted target_before xs) g ≡ assigned xs g
assigned-sorted g xs = λ i. record {
  nodes = map (λ (r : NodeRecord). node_after (acts_on-sorted (elem.Node r.number) xs i) r) g.nodes;
  edges = map (λ (r : EdgeRecord). edge_after (acts_on-sorted (elem.Edge r.number) xs i) r) g.edges;
  next_node = g.next_node;
  next_edge = g.next_edge;
}

-- one act more
acts_case : (b : Bool) (x : Act) (acts more : List Act) → cond b (x ∷ acts ++ more) (acts ++ more) ≡ cond b (x ∷ acts) acts ++ more
acts_case true x acts more = refl
acts_case false x acts more = refl

pub acts_on-append : (e : Elem) (xs ys : List Assignment) → acts_on e (xs ++ ys) ≡ acts_on e xs ++ acts_on e ys
acts_on-append e [] ys = refl
acts_on-append e (x ∷ xs) ys =
    let b = same_elem x.target e in
    first_act b x (xs ++ ys) e refl ∙ ap (λ (l : List Act). cond b (x.act ∷ l) l) (acts_on-append e xs ys)
    ∙ acts_case b x.act (acts_on e xs) (acts_on e ys) ∙ ap (λ (l : List Act). l ++ acts_on e ys) (sym (first_act b x xs e refl))

others-append : (e : Elem) (xs ys : List Assignment) → others e (xs ++ ys) ≡ others e xs ++ others e ys
others-append e [] ys = refl
others-append e (x ∷ xs) ys = by (not (same_elem x.target e)) (others-append e xs ys)
  where
    by : (b : Bool) → others e (xs ++ ys) ≡ others e xs ++ others e ys → cond b (x ∷ others e (xs ++ ys)) (others e (xs ++ ys)) ≡ cond b (x ∷ others e xs) (others e xs) ++ others e ys
    by true h = ap (λ (l : List Assignment). x ∷ l) h
    by false h = h

-- none of them is above the element
abbrev NoneAbove : Elem → List Assignment → Type 0
NoneAbove e xs = AllByRecursion (λ (a : Assignment). target_before (some_act e) a ≡ false) xs

all_push : {A : Type 0} (P : A → Type 0) (xs : List A) (x : A) → AllByRecursion P xs → P x → AllByRecursion P (xs ++ x ∷ [])
all_push P [] x all here = (here, tt)
all_push P (y ∷ ys) x all here = (all.0, all_push P ys x all.1 here)

-- an element above them all is none of them
abbrev NoneOf : Elem → List Assignment → Type 0
NoneOf e xs = AllByRecursion (λ (a : Assignment). same_elem a.target e ≡ false) xs

is_none_of : (e t : Elem) → is_lt (elem_cmp t e) ≡ true → (a : Assignment) → target_before (some_act t) a ≡ false → same_elem a.target e ≡ false
is_none_of e t p a q = by (same_elem a.target e) refl
  where
    by : (b : Bool) → same_elem a.target e ≡ b → b ≡ false
    by true r =
        let same : a.target ≡ e = same_elem_is a.target e r in
        let below : is_lt (elem_cmp t a.target) ≡ true = ap (λ y. is_lt (elem_cmp t y)) same ∙ p in
        absurd (cc)
    by false r = refl

others-none : (e : Elem) (xs : List Assignment) → NoneOf e xs → others e xs ≡ xs
others-none e [] none = refl
others-none e (x ∷ xs) none =
    ap (λ b. cond (not b) (x ∷ others e xs) (others e xs)) none.0 ∙ ap (λ (l : List Assignment). x ∷ l) (others-none e xs none.1)

acts_on-none : (e : Elem) (xs : List Assignment) → NoneOf e xs → acts_on e xs ≡ []
acts_on-none e [] none = refl
acts_on-none e (x ∷ xs) none = first_act false x xs e none.0 ∙ acts_on-none e xs none.1

module _ (g : PropertyGraph) (one : is_graph g ≡ true) where
  all_fit-push : (xs : List Assignment) (a : Assignment) → all_fit g xs ≡ true → fits g a ≡ true → all_fit g (xs ++ a ∷ []) ≡ true
  all_fit-push [] a h k = and_from (fits g a) true k refl
  all_fit-push (x ∷ xs) a h k =
      and_from (fits g x) (all_fit g (xs ++ a ∷ [])) ((and_parts (fits g x) (all_fit g xs) h).0) (all_fit-push xs a ((and_parts (fits g x) (all_fit g xs) h).1) k)

  -- what holds while an element is at hand: done are the acts of xs
  pub record AtHand (xs : List Assignment) (b : Built) : Type 0 where
    leads : LeadTo g b.changes (assigned (others b.target xs) g)
    acts : b.acts ≡ acts_on b.target xs
    there : has_element g b.target ≡ true
    fit : all_fit g xs ≡ true
    none_above : NoneAbove b.target xs

  ended : (xs : List Assignment) (b : Built) → AtHand xs b → LeadTo g (b.changes ++ swaps g b.target b.acts) (assigned xs g)
  ended xs b h =
      leads_append g (assigned (others b.target xs) g) (assigned xs g) b.changes (swaps g b.target b.acts) h.leads
      (subst (λ (acts : List Act). LeadTo (assigned (others b.target xs) g) (swaps g b.target acts) (assigned xs g)) (sym h.acts)
      (swaps_lead g one xs h.fit b.target h.there))

  not_itself : (e : Elem) → is_lt (elem_cmp e e) ≡ false
  not_itself e = itself target_before targets_ordered (some_act e)

  -- one act more on the element at hand
  same_at_hand : (xs : List Assignment) (b : Built) (a : Assignment) → AtHand xs b → fits g a ≡ true → same_elem a.target b.target ≡ true
      → AtHand (xs ++ a ∷ []) (record { changes = b.changes; target = b.target; acts = b.acts ++ a.act ∷ [] })
  same_at_hand xs b a h k p =
      let it : a.target ≡ b.target = same_elem_is a.target b.target p in
      let left : others b.target (xs ++ a ∷ []) ≡ others b.target xs =
      others-append b.target xs (a ∷ []) ∙ ap (λ c. others b.target xs ++ cond (not c) (a ∷ []) []) p ∙ append-nil (others b.target xs) in
      record {
        leads = subst (λ (l : List Assignment). LeadTo g b.changes (assigned l g)) (sym left) h.leads;
        acts = ap (λ (l : List Act). l ++ a.act ∷ []) h.acts ∙ ap (λ (l : List Act). acts_on b.target xs ++ l) (sym (first_act true a [] b.target p))
            ∙ sym (acts_on-append b.target xs (a ∷ []));
        there = h.there;
        fit = all_fit-push xs a h.fit k;
        none_above = all_push (λ (y : Assignment). target_before (some_act b.target) y ≡ false) xs a h.none_above
            (ap (λ y. is_lt (elem_cmp b.target y)) it ∙ not_itself b.target);
      }

  -- an act on another element, which comes after the one at hand
  other_at_hand : (xs : List Assignment) (b : Built) (a : Assignment) → AtHand xs b → fits g a ≡ true → same_elem a.target b.target ≡ false → is_lt (elem_cmp a.target b.target) ≡ false
      → AtHand (xs ++ a ∷ []) (record { changes = b.changes ++ swaps g b.target b.acts; target = a.target; acts = a.act ∷ [] })
  other_at_hand xs b a h k p q =
      let after : is_lt (elem_cmp b.target a.target) ≡ true = comes_after a.target b.target q p in
      let none : NoneOf a.target xs =
      all_weaker (λ (y : Assignment). target_before (some_act b.target) y ≡ false) (λ (y : Assignment). same_elem y.target a.target ≡ false) xs
      (λ y r. is_none_of a.target b.target after y r) h.none_above in
      let left : others a.target (xs ++ a ∷ []) ≡ xs =
      others-append a.target xs (a ∷ []) ∙ ap (λ (l : List Assignment). l ++ others a.target (a ∷ [])) (others-none a.target xs none)
      ∙ ap (λ c. xs ++ cond (not c) (a ∷ []) []) (same_elem_itself a.target) ∙ append-nil xs in
      record {
        leads = subst (λ (l : List Assignment). LeadTo g (b.changes ++ swaps g b.target b.acts) (assigned l g)) (sym left) (ended xs b h);
        acts = sym (acts_on-append a.target xs (a ∷ []) ∙ ap (λ (l : List Act). l ++ acts_on a.target (a ∷ [])) (acts_on-none a.target xs none)
            ∙ first_act true a [] a.target (same_elem_itself a.target));
        there = (and_parts (has_element g a.target) (act_fits a.act) k).0;
        fit = all_fit-push xs a h.fit k;
        none_above = all_push (λ (y : Assignment). target_before (some_act a.target) y ≡ false) xs a
            (all_weaker (λ (y : Assignment). target_before (some_act b.target) y ≡ false) (λ (y : Assignment). target_before (some_act a.target) y ≡ false) xs
            (λ y r. targets_ordered.chain (some_act a.target) (some_act b.target) y q r) h.none_above)
            (not_itself a.target);
      }

  step_case : (c : Bool) (xs : List Assignment) (b : Built) (a : Assignment) (more : List Assignment) → AtHand xs b → fits g a ≡ true
      → same_elem a.target b.target ≡ c → is_lt (elem_cmp a.target b.target) ≡ false → NoneLess target_before (some_act b.target) more → NoneLess target_before (some_act a.target) more
      → ((s : Built) → AtHand (xs ++ a ∷ []) s → NoneLess target_before (some_act s.target) more → LeadTo g (built g s more) (assigned ((xs ++ a ∷ []) ++ more) g))
      → LeadTo g (built g (cond c (record { changes = b.changes; target = b.target; acts = b.acts ++ a.act ∷ [] })
      (record { changes = b.changes ++ swaps g b.target b.acts; target = a.target; acts = a.act ∷ [] })) more) (assigned ((xs ++ a ∷ []) ++ more) g)
  step_case true xs b a more h k p q n m then = then (record { changes = b.changes; target = b.target; acts = b.acts ++ a.act ∷ [] }) (same_at_hand xs b a h k p) n
  step_case false xs b a more h k p q n m then =
      then (record { changes = b.changes ++ swaps g b.target b.acts; target = a.target; acts = a.act ∷ [] }) (other_at_hand xs b a h k p q) m

  built_leads : (rest xs : List Assignment) (b : Built) → AtHand xs b → all_fit g rest ≡ true → Ascends target_before rest → NoneLess target_before (some_act b.target) rest
      → LeadTo g (built g b rest) (assigned (xs ++ rest) g)
  built_leads [] xs b h k up n = subst (λ (l : List Assignment). LeadTo g (b.changes ++ swaps g b.target b.acts) (assigned l g)) (sym (append-nil xs)) (ended xs b h)
  built_leads (a ∷ more) xs b h k up n =
      let here : fits g a ≡ true = (and_parts (fits g a) (all_fit g more) k).0 in
      let rest : all_fit g more ≡ true = (and_parts (fits g a) (all_fit g more) k).1 in
      let step = step_case (same_elem a.target b.target) xs b a more h here refl n.0 n.1 up.0
      (λ s at m. built_leads more (xs ++ a ∷ []) s at rest up.1 m) in
      subst (λ (l : List Assignment). LeadTo g (built g (built_with g b a) more) (assigned l g)) (append_assoc xs (a ∷ []) more) step

  in_order_leads : (a : Assignment) (more : List Assignment) → all_fit g (a ∷ more) ≡ true → Ascends target_before (a ∷ more)
      → LeadTo g (built g (built_from a.target) (a ∷ more)) (assigned (a ∷ more) g)
  in_order_leads a more k up =
      let start : AtHand [] (built_from a.target) = record {
        leads = nothing_leads g;
        acts = refl;
        there = (and_parts (has_element g a.target) (act_fits a.act) ((and_parts (fits g a) (all_fit g more) k).0)).0;
        fit = refl;
        none_above = tt;
      } in
      built_leads (a ∷ more) [] (built_from a.target) start k up (not_itself a.target, up.0)

  sorted_case : (ys : List Assignment) (f : Assignment) → Some f ≡ slice_get ys 0 → all_fit g ys ≡ true → Ascends target_before ys
      → LeadTo g (built g (built_from f.target) ys) (assigned ys g)
  sorted_case [] f p k up = absurd (cc)
  sorted_case (a ∷ more) f p k up =
      let same : a ≡ f = cc in
      subst (λ (x : Assignment). LeadTo g (built g (built_from x.target) (a ∷ more)) (assigned (a ∷ more) g)) same (in_order_leads a more k up)

  -- what is built of the acts in order leads to the graph behind the acts as they were given
  pub sorted_leads : (xs ys : List Assignment) (f : Assignment) → ys ≡ stably_sorted target_before xs → Some f ≡ slice_get ys 0 → all_fit g xs ≡ true
      → LeadTo g (built g (built_from f.target) ys) (assigned xs g)
  sorted_leads xs ys f e p k =
      let fit : all_fit g ys ≡ true = ap (all_fit g) e ∙ sorted_all target_before (fits g) xs k in
      let up : Ascends target_before ys = subst (Ascends target_before) (sym e) (sorted_ascends target_before targets_ordered xs) in
      let same : assigned ys g ≡ assigned xs g = ap (λ (l : List Assignment). assigned l g) e ∙ assigned-sorted g xs in
      subst (LeadTo g (built g (built_from f.target) ys)) same (sorted_case ys f p fit up)

  nothing_case : (ys : List Assignment) → None ≡ slice_get ys 0 → LeadTo g [] (assigned ys g)
  nothing_case [] p = nothing_leads g
  nothing_case (y ∷ ys) p = absurd (cc)

  pub none_leads : (xs ys : List Assignment) → ys ≡ stably_sorted target_before xs → None ≡ slice_get ys 0 → LeadTo g [] (assigned xs g)
  none_leads xs ys e p = subst (LeadTo g []) (ap (λ (l : List Assignment). assigned l g) e ∙ assigned-sorted g xs) (nothing_case ys p)

-- what one thing has, what was answered has
pub ok_is : {A E : Type 0} (r : Result A E) (v : A) (P : A → Type 0) → IfOk r (λ x. x ≡ v) → P v → IfOk r P
ok_is (Ok x) v P p q = subst P (sym p) q
ok_is (Err e) v P p q = tt
