-- The least and the greatest that a walk over the data finds are so in the total order.
use Rattle.std.proofs.Common.{◌≡◌, Bool, true, false, cond, List, [], ◌∷◌, refl, sym, ap, subst, ◌∙◌, ◌⊎◌, inl, inr}
use Rattle.std.specs.List.{All, Contains}
use Rattle.std.specs.Cmp.{IsStrictWeakOrder}
use Rattle.std.specs.Ordering.{is_lt, is_gt, ordering_reverse}
use Rattle.std.specs.declared.cmp.Ordering.{Ordering}
use Rattle.std.specs.declared.cmp.Ordering.TheVariants.{Less, Equal, Greater}
use Rattle.std.proofs.lemmas.List.Elements.{All-nil, All-cons, Contains-push, Contains-append_left, Contains-append_right, Contains-append_cases}
use Rattle.std.proofs.lemmas.List.MinMax.{ranks_by}
use Rattle.gql_values3.specs.Datum.{Datum}
use Rattle.gql_values3.specs.ValueOrder.{datum_cmp}
use Rattle.gql_values3.proofs.OrderLaws.{datum_cmp_total}
use Rattle.gql_ast.specs.Aggregates.{lesser, greater, least_of, greatest_of}
use Rattle.gql_eval.specs.Extremes.{IsLeast, IsGreatest}

module _ {X : Type 0} (beats : X → X → Bool) where
  -- the first of those that none beats, by one walk
  abbrev pub best_of : X → List X → X
  best_of d [] = d
  best_of d (e ∷ es) = best_of (cond (beats e d) e d) es

  more_in_front : (d e : X) (es : List X) (x : X) → Contains (d ∷ []) x ⊎ Contains es x → Contains (d ∷ e ∷ es) x
  more_in_front d e es x (inl here) = Contains-append_left (d ∷ []) (e ∷ es) x here
  more_in_front d e es x (inr there) = Contains-append_right (d ∷ e ∷ []) es x there

  among_case : (b : Bool) (d e : X) (es : List X) → Contains (e ∷ es) (best_of e es) → Contains (d ∷ es) (best_of d es)
      → Contains (d ∷ e ∷ es) (best_of (cond b e d) es)
  among_case true d e es later earlier = Contains-append_right (d ∷ []) (e ∷ es) (best_of e es) later
  among_case false d e es later earlier = more_in_front d e es (best_of d es) (Contains-append_cases (d ∷ []) es (best_of d es) earlier)

  pub best_among : (d : X) (es : List X) → Contains (d ∷ es) (best_of d es)
  best_among d [] = Contains-push [] d
  best_among d (e ∷ es) = among_case (beats e d) d e es (best_among e es) (best_among d es)

  module _ (o : IsStrictWeakOrder beats) where
    itself_case : (x : X) (b : Bool) → beats x x ≡ b → beats x x ≡ false
    itself_case x true e = o.one_way x x e
    itself_case x false e = e

    first_case : (b : Bool) (d e : X) (es : List X) → beats e d ≡ b → beats e (best_of e es) ≡ false → beats d (best_of d es) ≡ false
        → beats d (best_of (cond b e d) es) ≡ false
    first_case true d e es h later earlier = o.chain d e (best_of e es) (o.one_way e d h) later
    first_case false d e es h later earlier = earlier

    -- the first doesn't beat what is found
    first_beaten : (d : X) (es : List X) → beats d (best_of d es) ≡ false
    first_beaten d [] = itself_case d (beats d d) refl
    first_beaten d (e ∷ es) = first_case (beats e d) d e es refl (first_beaten e es) (first_beaten d es)

    next_case : (b : Bool) (d e : X) (es : List X) → beats e d ≡ b → beats e (best_of e es) ≡ false → beats d (best_of d es) ≡ false
        → beats e (best_of (cond b e d) es) ≡ false
    next_case true d e es h later earlier = later
    next_case false d e es h later earlier = o.chain e d (best_of d es) h earlier

    -- nor does any of the others
    rest_beaten : (d : X) (es : List X) → All (λ e. beats e (best_of d es) ≡ false) es
    rest_beaten d [] = All-nil (λ e. beats e d ≡ false)
    rest_beaten d (e ∷ es) =
        let found = best_of (cond (beats e d) e d) es in
        All-cons (λ w. beats w found ≡ false) e es (next_case (beats e d) d e es refl (first_beaten e es) (first_beaten d es)) (rest_beaten (cond (beats e d) e d) es)

    pub none_beats : (d : X) (es : List X) → All (λ e. beats e (best_of d es) ≡ false) (d ∷ es)
    none_beats d es = All-cons (λ e. beats e (best_of d es) ≡ false) d es (first_beaten d es) (rest_beaten d es)

abbrev pub is_less : Datum → Datum → Bool
is_less a b = is_lt (datum_cmp a b)

abbrev pub is_greater : Datum → Datum → Bool
is_greater a b = is_gt (datum_cmp a b)

less_order : IsStrictWeakOrder is_less
less_order = ranks_by datum_cmp_total (λ (d : Datum). d)

reversed : (o : Ordering) → is_gt (ordering_reverse o) ≡ is_lt o
reversed Less = refl
reversed Equal = refl
reversed Greater = refl

turned : (a b : Datum) → is_greater a b ≡ is_less b a
turned a b = ap is_gt (datum_cmp_total.antisymm a b) ∙ reversed (datum_cmp b a)

greater_order : IsStrictWeakOrder is_greater
greater_order = record {
  one_way = λ x y h. turned y x ∙ less_order.one_way y x (sym (turned x y) ∙ h);
  chain = λ x y z h k. turned x z ∙ less_order.chain z y x (sym (turned y z) ∙ k) (sym (turned x y) ∙ h);
}

least_is : (d : Datum) (es : List Datum) → least_of d es ≡ best_of is_less d es
least_is d [] = refl
least_is d (e ∷ es) = least_is (lesser d e) es

greatest_is : (d : Datum) (es : List Datum) → greatest_of d es ≡ best_of is_greater d es
greatest_is d [] = refl
greatest_is d (e ∷ es) = greatest_is (greater d e) es

pub least_law : (d : Datum) (es : List Datum) → IsLeast (least_of d es) (d ∷ es)
least_law d es = subst (λ (x : Datum). IsLeast x (d ∷ es)) (sym (least_is d es)) (best_among is_less d es, none_beats is_less less_order d es)

pub greatest_law : (d : Datum) (es : List Datum) → IsGreatest (greatest_of d es) (d ∷ es)
greatest_law d es = subst (λ (x : Datum). IsGreatest x (d ∷ es)) (sym (greatest_is d es)) (best_among is_greater d es, none_beats is_greater greater_order d es)
