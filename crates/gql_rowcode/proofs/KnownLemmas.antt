-- What is known of records of which each is good behind those before it: their forms, and the catalog that these describe.
use Rattle.std.proofs.Common.{◌≡◌, ℕ, zero, suc, ◌+◌, ◌∙◌, ◌<◌, Bool, true, false, List, [], ◌∷◌, ◌++◌, map, length, take, Option, Some, None, refl, sym, ap, subst, append_assoc, arith, inl, inr, ◌⊎◌}
use Rattle.std.specs.Prelude.{slice_get, Contains}
use Rattle.std.specs.List.{AllByRecursion}
use Rattle.std.proofs.lemmas.List.{append-nil, map_push}
use Rattle.gql_ports.specs.Held.{keys_ascend}
use Rattle.gql_ports.specs.declared.stored.Record.{Record}
use Rattle.gql_graph.specs.Catalog.{CatalogData}
use Rattle.gql_rowcode.specs.Records.{Form, version, record_of, IsForm}
use Rattle.gql_rowcode.specs.StandFor.{catalog_forms, AreRecordsOf, StandFor}
use Rattle.gql_rowcode.specs.FirstBad.{described, Follows, IsGood}
use Rattle.gql_rowcode.proofs.MemberLemmas.{Has, has_from, contains_from, has_left, has_right, has_either, has_map, has_map_back, has_push, each_has, each_from, order_parts}
use Rattle.gql_rowcode.proofs.NameLemmas.{below_itself, below_chain}
use Rattle.gql_rowcode.proofs.KeyLemmas.{ComesBefore, forms_in_order, all_before, keys_front}
use Rattle.gql_rowcode.proofs.SoundLemmas.{Sound, sound_facts, sound_from}
use Rattle.gql_rowcode.proofs.SaidLemmas.{Says, says_form, form_says}
use Rattle.gql_rowcode.proofs.DescribedLemmas.{Describes, describes_more, describes_nothing}
use Rattle.gql_rowcode.proofs.ToldLemmas.{follows_told}
use Rattle.gql_rowcode.proofs.OneCatalog.{one_catalog}
use Rattle.gql_rowcode.proofs.FormLemmas.{form_same}
use Rattle.gql_rowcode.specs.Records as records

pub record Known (before : List Record) : Type 0 where
  pub forms : List Form
  pub are : before ≡ map record_of forms
  pub fit : AllByRecursion IsForm forms
  pub ordered : keys_ascend before ≡ true
  pub describes : Describes forms (described forms)

-- each record is good behind those before it
abbrev pub AllGood : List Record → List Record → Type 0
AllGood before rs = (i : ℕ) (r : Record) → slice_get rs i ≡ Some r → IsGood (before ++ take i rs) r

-- ---- records that are spelled alike

forms_same : (fs gs : List Form) → AllByRecursion IsForm fs → AllByRecursion IsForm gs → map record_of fs ≡ map record_of gs → fs ≡ gs
forms_same [] [] hf hg e = refl
forms_same [] (g ∷ gs) hf hg e = absurd (cc)
forms_same (f ∷ fs) [] hf hg e = absurd (cc)
forms_same (f ∷ fs) (g ∷ gs) hf hg e =
    let parts = heads (record_of f) (record_of g) (map record_of fs) (map record_of gs) e in
    let one : f ≡ g = form_same f g hf.0 hg.0 parts.0 in
    let rest : fs ≡ gs = forms_same fs gs hf.1 hg.1 parts.1 in
    ap (λ (h : Form). h ∷ fs) one ∙ ap (λ (t : List Form). g ∷ t) rest
  where
    heads : (a b : Record) (xs ys : List Record) → a ∷ xs ≡ b ∷ ys → (a ≡ b) × (xs ≡ ys)
    heads a b xs ys e = (cc, cc)

-- ---- one record more

pub fit_push : (fs : List Form) (f : Form) → AllByRecursion IsForm fs → IsForm f → AllByRecursion IsForm (fs ++ f ∷ [])
fit_push fs f all one = each_from IsForm (fs ++ f ∷ []) each
  where
    each : (g : Form) → Has (fs ++ f ∷ []) g → IsForm g
    each g h = elim (has_push fs f g h) [ inl a ↦ each_has IsForm fs g all a | inr a ↦ subst IsForm (sym a) one ]

-- a record that may stand there is good, and known behind it
module _ (before : List Record) (k : Known before) (r : Record) (f : Form) (fits : IsForm f) (is : r ≡ record_of f) (ordered : keys_ascend (before ++ r ∷ []) ≡ true) (follows : Follows k.forms f) where
  pub is_good : IsGood before r
  is_good = record { forms = k.forms; earlier = k.are; earlier_fit = k.fit; form = f; fits = fits; spelled = is; ordered = ordered; follows = follows }

  abbrev pub known_more : Known (before ++ r ∷ [])
  known_more =
      let all : before ++ r ∷ [] ≡ map record_of k.forms ++ record_of f ∷ [] = ap (λ (b : List Record). b ++ r ∷ []) k.are ∙ ap (λ (x : Record). map record_of k.forms ++ x ∷ []) is in
      let up : keys_ascend (map record_of k.forms ++ record_of f ∷ []) ≡ true = ap keys_ascend (sym all) ∙ ordered in
      record {
        forms = k.forms ++ f ∷ [];
        are = all ∙ sym (map_push record_of k.forms f);
        fit = fit_push k.forms f k.fit fits;
        ordered = ordered;
        describes = describes_more k.forms k.describes (λ g h. each_has IsForm k.forms g k.fit h) f (λ g h. all_before k.forms f up g h) fits follows;
      }

-- a good record's form may follow those that are known
pub good_form : (before : List Record) (k : Known before) (r : Record) → IsGood before r → (f : Form) × IsForm f × (r ≡ record_of f) × (keys_ascend (before ++ r ∷ []) ≡ true) × Follows k.forms f
good_form before k r good =
    let same : good.forms ≡ k.forms = forms_same good.forms k.forms good.earlier_fit k.fit (sym good.earlier ∙ k.are) in
    (good.form, good.fits, good.spelled, good.ordered, subst (λ (fs : List Form). Follows fs good.form) same good.follows)

-- none is known of no records
abbrev pub known_nothing : Known []
known_nothing = record { forms = []; are = refl; fit = tt; ordered = refl; describes = describes_nothing }

-- ---- one after the other

good_more : (before : List Record) (r : Record) (rs : List Record) (i : ℕ) (s : Record) → (slice_get rs i ≡ Some s → IsGood ((before ++ r ∷ []) ++ take i rs) s) → slice_get rs i ≡ Some s → IsGood (before ++ take (suc i) (r ∷ rs)) s
good_more before r rs i s rest e = subst (λ (b : List Record). IsGood b s) (append_assoc before (r ∷ []) (take i rs)) (rest e)

record_is : (a b : Record) → slice_get (a ∷ []) 0 ≡ Some b → a ≡ b
record_is a b e = cc

good_first : (before : List Record) (r s : Record) (rs : List Record) → IsGood before r → slice_get (r ∷ rs) 0 ≡ Some s → IsGood (before ++ []) s
good_first before r s rs good e =
    let here : IsGood before s = subst (IsGood before) (record_is r s e) good in
    subst (λ (b : List Record). IsGood b s) (sym (append-nil before)) here

pub all_good : (before : List Record) (r : Record) (rs : List Record) → IsGood before r → AllGood (before ++ r ∷ []) rs → AllGood before (r ∷ rs)
all_good before r rs good rest zero s e = good_first before r s rs good e
all_good before r rs good rest (suc i) s e = good_more before r rs i s (rest i s) e

-- ---- known records stand for what they describe

module _ (r : Record) (rs : List Record) (k : Known (r ∷ rs)) where
  abbrev c : CatalogData
  c = described k.forms

  version_there : Has k.forms version
  version_there = elim k.describes.begins [ inr h ↦ h | inl e ↦ none (k.are ∙ ap (map record_of) e) ]
    where
      none : r ∷ rs ≡ [] → Has k.forms version
      none e = absurd (cc)

  form_there : (f : Form) → Has (catalog_forms c) f → Has k.forms f
  form_there f h = elim (k.describes.says f (says_form c f h)) [ inl e ↦ subst (Has k.forms) (sym e) version_there | inr there ↦ there ]

  pub known_stand : StandFor (r ∷ rs) c
  known_stand = (
    sound_from c k.describes.sound,
    each_from IsForm (catalog_forms c) (λ f h. each_has IsForm k.forms f k.fit (form_there f h)),
    record {
      ascend = k.ordered;
      said = λ s h.
          let b = has_map_back record_of k.forms s (subst (λ (xs : List Record). Has xs s) k.are (has_from (r ∷ rs) s h)) in
          (b.0, contains_from (catalog_forms c) b.0 (form_says c b.0 (k.describes.said b.0 b.1)), b.2);
      kept = λ f h. contains_from (r ∷ rs) (record_of f) (subst (λ (xs : List Record). Has xs (record_of f)) (sym k.are) (has_map record_of k.forms f (form_there f (has_from (catalog_forms c) f h))));
    },
  )

-- ---- records that stand for a catalog are known, and describe it

-- these forms are what is said of the catalog
pub record Tells (c : CatalogData) (forms : List Form) : Type 0 where
  pub up : keys_ascend (map record_of forms) ≡ true
  pub fits : (g : Form) → Has forms g → IsForm g
  pub there : (g : Form) → Has forms g → Says c g
  pub back : (g : Form) → Says c g → Has forms g

module _ (c : CatalogData) (sound : Sound c) where
  map_both : (fs gs : List Form) → map record_of (fs ++ gs) ≡ map record_of fs ++ map record_of gs
  map_both [] gs = refl
  map_both (f ∷ fs) gs = ap (λ (rs : List Record). record_of f ∷ rs) (map_both fs gs)

  module _ (before : List Form) (f : Form) (more : List Form) (tells : Tells c (before ++ f ∷ more)) where
    order : ((g : Form) → Has before g → ComesBefore g f) × ((g : Form) → Has more g → ComesBefore f g)
    order = order_parts ComesBefore before f more (forms_in_order (before ++ f ∷ more) tells.up)

    earlier : (g : Form) → Says c g → ComesBefore g f → Has before g
    earlier g s lt = elim (has_either before (f ∷ more) g (tells.back g s)) [
      | inl h ↦ h
      | inr h ↦ behind h
    ]
      where
        behind : Has (f ∷ more) g → Has before g
        behind (inl e) = absurd (below_itself (records.key_of f) (subst (λ (x : Form). ComesBefore x f) e lt))
        behind (inr h) = absurd (below_itself (records.key_of f) (below_chain (records.key_of f) (records.key_of g) (records.key_of f) (order.1 g h) lt))

    follows : Describes before (described before) → Follows before f
    follows so_far = follows_told c sound before so_far (λ g h. tells.there g (has_left before (f ∷ more) g h)) f order.0 earlier (tells.there f (has_right before (f ∷ more) f (inl refl)))

    abbrev ordered : keys_ascend (map record_of before ++ record_of f ∷ []) ≡ true
    ordered =
        let all : map record_of (before ++ f ∷ more) ≡ (map record_of before ++ record_of f ∷ []) ++ map record_of more = map_both before (f ∷ more) ∙ sym (append_assoc (map record_of before) (record_of f ∷ []) (map record_of more)) in
        keys_front (map record_of before ++ record_of f ∷ []) (map record_of more) (ap keys_ascend (sym all) ∙ tells.up)

    abbrev known_before : Describes before (described before) → Known (map record_of before)
    known_before so_far = record {
      forms = before;
      are = refl;
      fit = each_from IsForm before (λ g h. tells.fits g (has_left before (f ∷ more) g h));
      ordered = keys_front (map record_of before) (record_of f ∷ []) ordered;
      describes = so_far;
    }

    step_good : Describes before (described before) → IsGood (map record_of before) (record_of f)
    step_good so_far = is_good (map record_of before) (known_before so_far) (record_of f) f (tells.fits f (has_right before (f ∷ more) f (inl refl))) refl ordered (follows so_far)

    step_describes : Describes before (described before) → Describes (before ++ f ∷ []) (described (before ++ f ∷ []))
    step_describes so_far = (known_more (map record_of before) (known_before so_far) (record_of f) f (tells.fits f (has_right before (f ∷ more) f (inl refl))) refl ordered (follows so_far)).describes

  goes : (rest before : List Form) → Tells c (before ++ rest) → Describes before (described before) → AllGood (map record_of before) (map record_of rest) × Describes (before ++ rest) (described (before ++ rest))
  goes [] before tells so_far = (λ i r e. absurd (cc), subst (λ (fs : List Form). Describes fs (described fs)) (sym (append-nil before)) so_far)
  goes (f ∷ more) before tells so_far =
      let assoc : (before ++ f ∷ []) ++ more ≡ before ++ f ∷ more = append_assoc before (f ∷ []) more in
      let rest = goes more (before ++ f ∷ []) (subst (Tells c) (sym assoc) tells) (step_describes before f more tells so_far) in
      let good : AllGood (map record_of before ++ record_of f ∷ []) (map record_of more) = subst (λ (b : List Record). AllGood b (map record_of more)) (map_push record_of before f) rest.0 in
      (all_good (map record_of before) (record_of f) (map record_of more) (step_good before f more tells so_far) good, subst (λ (fs : List Form). Describes fs (described fs)) assoc rest.1)

  -- what is described by all of it is the catalog
  tells_one : (forms : List Form) → Tells c forms → Describes forms (described forms) → described forms ≡ c
  tells_one forms tells so_far = one_catalog (described forms) c so_far.sound sound (λ g s. elim (so_far.says g s) [ inl e ↦ subst (Says c) (sym e) tt | inr h ↦ tells.there g h ]) (λ g s. so_far.said g (tells.back g s))

choose : (c : CatalogData) (rs : List Record) → ((r : Record) → Has rs r → (f : Form) × Has (catalog_forms c) f × (r ≡ record_of f)) → (forms : List Form) × (rs ≡ map record_of forms) × ((g : Form) → Has forms g → Has (catalog_forms c) g)
choose c [] said = ([], refl, λ g h. absurd h)
choose c (r ∷ rs) said =
    let one = said r (inl refl) in
    let rest = choose c rs (λ s h. said s (inr h)) in
    (one.0 ∷ rest.0, ap (λ (x : Record). x ∷ rs) one.2 ∙ ap (λ (xs : List Record). record_of one.0 ∷ xs) rest.1, each one.0 rest.0 one.1 rest.2)
  where
    each : (f : Form) (fs : List Form) → Has (catalog_forms c) f → ((g : Form) → Has fs g → Has (catalog_forms c) g) → (g : Form) → Has (f ∷ fs) g → Has (catalog_forms c) g
    each f fs here there g (inl e) = subst (Has (catalog_forms c)) (sym e) here
    each f fs here there g (inr h) = there g h

module _ (rs : List Record) (c : CatalogData) (fit : AllByRecursion IsForm (catalog_forms c)) (are : AreRecordsOf rs c) where
  pub chosen : (forms : List Form) × (rs ≡ map record_of forms) × ((g : Form) → Has forms g → Has (catalog_forms c) g)
  chosen = choose c rs (λ r h. let s = are.said r (contains_from rs r h) in (s.0, has_from (catalog_forms c) s.0 s.1, s.2))

  fits_form : (g : Form) → Has (catalog_forms c) g → IsForm g
  fits_form g h = each_has IsForm (catalog_forms c) g fit h

  told_back : (g : Form) → Says c g → Has chosen.0 g
  told_back g s =
      let there : Has (catalog_forms c) g = form_says c g s in
      let in_records : Has (map record_of chosen.0) (record_of g) = subst (λ (xs : List Record). Has xs (record_of g)) chosen.1 (has_from rs (record_of g) (are.kept g (contains_from (catalog_forms c) g there))) in
      let b = has_map_back record_of chosen.0 (record_of g) in_records in
      subst (Has chosen.0) (sym (form_same g b.0 (fits_form g there) (fits_form b.0 (chosen.2 b.0 b.1)) b.2)) b.1

  pub told : Tells c chosen.0
  told = record {
    up = ap keys_ascend (sym chosen.1) ∙ are.ascend;
    fits = λ g h. fits_form g (chosen.2 g h);
    there = λ g h. says_form c g (chosen.2 g h);
    back = told_back;
  }

-- each record is good, and what is known of them all describes the catalog
pub record Stands (rs : List Record) (c : CatalogData) : Type 0 where
  pub good : AllGood [] rs
  pub known : Known rs
  pub one : (k : Known rs) → described k.forms ≡ c

pub stand_known : (r : Record) (rs : List Record) (c : CatalogData) → StandFor (r ∷ rs) c → Stands (r ∷ rs) c
stand_known r rs c stands =
    let sound = sound_facts c stands.0 in
    let some = chosen (r ∷ rs) c stands.1 stands.2 in
    let tells = told (r ∷ rs) c stands.1 stands.2 in
    let all = goes c sound some.0 [] tells describes_nothing in
    record {
      good = subst (AllGood []) (sym some.1) all.0;
      known = record { forms = some.0; are = some.1; fit = each_from IsForm some.0 tells.fits; ordered = stands.2.ascend; describes = all.1 };
      one = λ k.
          let same : k.forms ≡ some.0 = forms_same k.forms some.0 k.fit (each_from IsForm some.0 tells.fits) (sym k.are ∙ some.1) in
          ap described same ∙ tells_one c sound some.0 tells all.1;
    }
