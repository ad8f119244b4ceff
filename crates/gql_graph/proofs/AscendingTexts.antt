-- Texts that strictly ascend by bytes: what a bound of a list says of its first text and of the others, and how texts of an order differ, and that some of a list ascend too.
use Rattle.std.proofs.Common.{◌≡◌, ℕ, cond, Bool, true, false, List, [], ◌∷◌, refl, ap, ◌∙◌}
use Rattle.std.specs.Prelude.{filter}
use Rattle.std.specs.declared.cmp.Ordering.{Ordering}
use Rattle.std.specs.declared.cmp.Ordering.TheVariants.{Less, Equal, Greater}
use Rattle.std.specs.Ordering.{is_lt, is_eq, nat_cmp, ordering_reverse}
use Rattle.std.specs.Cmp.Lexicographic.{slice_cmp, texts_ties}
use Rattle.std.proofs.lemmas.Bool.{and_from, and_parts}
use Rattle.std.proofs.lemmas.Cmp.{nat_list_cmp_total}
use Rattle.gql_values3.specs.Texts.{same_text, ascend_above, texts_ascend}

-- the order of texts by bytes
abbrev pub text_cmp : List ℕ → List ℕ → Ordering
text_cmp a b = slice_cmp nat_cmp a b

-- an order that tests as less is that
pub less_if : (o : Ordering) → is_lt o ≡ true → o ≡ Less
less_if Less p = refl
less_if Equal p = absurd (cc)
less_if Greater p = absurd (cc)

-- the first text is above the bound
pub first_above : (low k : List ℕ) (ks : List (List ℕ)) → ascend_above low (k ∷ ks) ≡ true → text_cmp low k ≡ Less
first_above low k ks h = less_if (text_cmp low k) ((and_parts (is_lt (text_cmp low k)) (ascend_above k ks) h).0)

-- the others are above the first
pub rest_above : (low k : List ℕ) (ks : List (List ℕ)) → ascend_above low (k ∷ ks) ≡ true → ascend_above k ks ≡ true
rest_above low k ks h = (and_parts (is_lt (text_cmp low k)) (ascend_above k ks) h).1

-- a lower bound serves too
pub lower : (low k : List ℕ) (ks : List (List ℕ)) → text_cmp low k ≡ Less → ascend_above k ks ≡ true → ascend_above low ks ≡ true
lower low k [] p h = refl
lower low k (j ∷ js) p h =
    and_from (is_lt (text_cmp low j)) (ascend_above j js) (ap is_lt (nat_list_cmp_total.trans low k j p (first_above k j js h)))
    ((and_parts (is_lt (text_cmp k j)) (ascend_above j js) h).1)

-- so the bound of a list bounds its rest
pub above_rest : (low k : List ℕ) (ks : List (List ℕ)) → ascend_above low (k ∷ ks) ≡ true → ascend_above low ks ≡ true
above_rest low k ks h = lower low k ks (first_above low k ks h) (rest_above low k ks h)

pub above_ascends : (low : List ℕ) (ks : List (List ℕ)) → ascend_above low ks ≡ true → texts_ascend ks ≡ true
above_ascends low [] h = refl
above_ascends low (k ∷ ks) h = rest_above low k ks h

-- a text below another, one that is not below, and the same text
pub turned : (a b : List ℕ) → text_cmp a b ≡ Greater → text_cmp b a ≡ Less
turned a b p = nat_list_cmp_total.antisymm b a ∙ ap ordering_reverse p

pub apart : (a b : List ℕ) → text_cmp a b ≡ Less → same_text a b ≡ false
apart a b p = texts_ties a b ∙ ap is_eq p

pub apart_turned : (a b : List ℕ) → text_cmp a b ≡ Less → same_text b a ≡ false
apart_turned a b p = texts_ties b a ∙ ap is_eq (nat_list_cmp_total.antisymm b a ∙ ap ordering_reverse p)

pub tied : (a b : List ℕ) → text_cmp a b ≡ Equal → same_text a b ≡ true
tied a b p = texts_ties a b ∙ ap is_eq p

-- those of a list that pass a test
kept_above_case : (b : Bool) (low k : List ℕ) (ks rest : List (List ℕ)) → ascend_above low (k ∷ ks) ≡ true
    → ((bound : List ℕ) → ascend_above bound ks ≡ true → ascend_above bound rest ≡ true)
    → ascend_above low (cond b (k ∷ rest) rest) ≡ true
kept_above_case true low k ks rest h more =
    and_from (is_lt (text_cmp low k)) (ascend_above k rest) ((and_parts (is_lt (text_cmp low k)) (ascend_above k ks) h).0)
    (more k (rest_above low k ks h))
kept_above_case false low k ks rest h more = more low (above_rest low k ks h)

kept_above : (p : List ℕ → Bool) (low : List ℕ) (ks : List (List ℕ)) → ascend_above low ks ≡ true → ascend_above low (filter p ks) ≡ true
kept_above p low [] h = refl
kept_above p low (k ∷ ks) h = kept_above_case (p k) low k ks (filter p ks) h (λ bound m. kept_above p bound ks m)

kept_case : (b : Bool) (p : List ℕ → Bool) (k : List ℕ) (ks : List (List ℕ)) → ascend_above k ks ≡ true → texts_ascend (cond b (k ∷ filter p ks) (filter p ks)) ≡ true
kept_case true p k ks h = kept_above p k ks h
kept_case false p k ks h = above_ascends k (filter p ks) (kept_above p k ks h)

pub texts_ascend-filter : (p : List ℕ → Bool) (ks : List (List ℕ)) → texts_ascend ks ≡ true → texts_ascend (filter p ks) ≡ true
texts_ascend-filter p [] h = refl
texts_ascend-filter p (k ∷ ks) h = kept_case (p k) p k ks h
