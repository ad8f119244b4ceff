-- A store that was told what leads from the records of one catalog to those of another keeps the other.
use Rattle.std.proofs.Common.{◌≡◌, ◌⊎◌, ℕ, ◌<◌, true, List, [], ◌∷◌, length, Option, Some, None, inl, inr, refl, sym, ap, subst, ◌∙◌, arith}
use Rattle.std.specs.Prelude.{Contains, IfSome, Result, OnOk}
use Rattle.std.proofs.lemmas.List.{nil_from_length}
use Rattle.gql_graph.specs.Catalog.{CatalogData}
use Rattle.gql_ports.specs.Held.{Holding, keys_ascend, value_at, value_after}
use Rattle.gql_ports.specs.Told.{MatchTold}
use Rattle.gql_ports.specs.declared.stored.Record.{Record}
use Rattle.gql_rowcode.specs.StandFor.{AreRecordsOf, StandFor}
use Rattle.gql_rowcode.proofs.ReadLemmas.{stand_for_one}
use Rattle.gql_txn.specs.Keeps.{Keeps}
use Rattle.gql_txn.specs.Machinery.Changes.{puts_of, drops_of}
use Rattle.gql_txn.specs.Machinery.Storing.{AppliesInOrder, Leads}
use Rattle.gql_txn.proofs.ValueLemmas.{same_records, one_list}
use Rattle.gql_txn.proofs.ChangeLemmas.{changes_lead, all_put}

-- ---- one list of records for each catalog

is_among : (xs ys : List Record) (c : CatalogData) → AreRecordsOf xs c → AreRecordsOf ys c → (r : Record) → Contains xs r → Contains ys r
is_among xs ys c a b r there =
    let found = a.said r there in
    subst (Contains ys) (sym found.2) (b.kept found.0 found.1)

are_one : (xs ys : List Record) (c : CatalogData) → AreRecordsOf xs c → AreRecordsOf ys c → xs ≡ ys
are_one xs ys c a b = one_list xs ys a.ascend b.ascend (is_among xs ys c a b) (is_among ys xs c b a)

-- records that stand for a catalog, where there are some
stand_as : (r : Record) (rs : List Record) (c : CatalogData) → StandFor (r ∷ rs) c → AreRecordsOf (r ∷ rs) c
stand_as r rs c h = h.2

some_stand : (rs : List Record) (c : CatalogData) → 0 < length rs → StandFor rs c → AreRecordsOf rs c
some_stand [] c some h = absurd (omega arith)
some_stand (r ∷ rs) c some h = stand_as r rs c h

-- ---- from one list to another

-- records in order, told what leads from those before to those after
told_records : (before after told : List Record) → keys_ascend before ≡ true → keys_ascend after ≡ true → keys_ascend told ≡ true
    → ((key : List ℕ) → value_at told key ≡ value_after (puts_of before after) (drops_of before after) key (value_at before key)) → told ≡ after
told_records before after told up up' up'' values = same_records told after up'' up' (λ key. values key ∙ changes_lead before after up up' key)

applied : (before after : List Record) (h k : Holding) → keys_ascend before ≡ true → keys_ascend after ≡ true → h.records ≡ before → AppliesInOrder (puts_of before after) (drops_of before after) h k → k.records ≡ after
applied before after h k up up' held told =
    told_records before after k.records up up' told.1
    (λ key. told.0.values key ∙ ap (λ (rs : List Record). value_after (puts_of before after) (drops_of before after) key (value_at rs key)) held)

-- a store that holds those before leads to those after
pub leads_held : (before after : List Record) (h k : Holding) → keys_ascend before ≡ true → keys_ascend after ≡ true → (h.records ≡ [] → ⊥) → AppliesInOrder (puts_of before after) (drops_of before after) h k → Leads before after h k
leads_held before after h k up up' some told = record {
  name = told.0.name;
  held = λ e. applied before after h k up up' e told;
  empty = λ e. absurd (some e);
}

-- and so does one without records that is told all of them
pub leads_empty : (before after : List Record) (h k : Holding) → keys_ascend after ≡ true → h.records ≡ [] → AppliesInOrder after [] h k → Leads before after h k
leads_empty before after h k up none told =
    let put : AppliesInOrder (puts_of [] after) [] h k = subst (λ (rs : List Record). AppliesInOrder rs [] h k) (sym (all_put after)) told in
    let all : k.records ≡ after = applied [] after h k refl up none put in
    record { name = told.0.name; held = λ e. all; empty = λ e. inl all }

-- the same records lead to themselves
pub leads_same : (before after : List Record) (h : Holding) → after ≡ before → Leads before after h h
leads_same before after h same = record {
  name = refl;
  held = λ e. e ∙ sym same;
  empty = λ e. inr (e, same);
}

-- ---- what a store tells before and after

pub told_weaker : {A : Type 0} (P R : A → A → Type 0) (a b : Option A) → ((x y : A) → a ≡ Some x → P x y → R x y) → MatchTold a b P → MatchTold a b R
told_weaker P R None None weaker p = tt
told_weaker P R None (Some y) weaker p = p
told_weaker P R (Some x) None weaker p = p
told_weaker P R (Some x) (Some y) weaker p = weaker x y refl p

pub told_itself : {A : Type 0} (R : A → A → Type 0) (a : Option A) → ((x : A) → R x x) → MatchTold a a R
told_itself R None all = tt
told_itself R (Some x) all = all x

-- what was told by other names
pub told_as : {E : Type 0} (r : Result (Unit {0}) E) (a b : Option Holding) (ps qs : List Record) (ks ls : List (List ℕ)) → ps ≡ qs → ks ≡ ls → OnOk r (MatchTold a b (AppliesInOrder ps ks)) → OnOk r (MatchTold a b (AppliesInOrder qs ls))
told_as r a b ps qs ks ls p q told =
    subst (λ (xs : List Record). OnOk r (MatchTold a b (AppliesInOrder xs ls))) p (subst (λ (ys : List (List ℕ)). OnOk r (MatchTold a b (AppliesInOrder ps ys))) q told)

-- a store that tells that it has no records
pub told_empty : (a : Option Holding) (n : ℕ) (h : Holding) → IfSome a (λ (k : Holding). n ≡ length k.records) → n ≡ 0 → a ≡ Some h → h.records ≡ []
told_empty None n h count none e = absurd cc
told_empty (Some k) n h count none e =
    let same : k ≡ h = cc in
    ap (λ (x : Holding). x.records) (sym same) ∙ nil_from_length k.records (sym count ∙ none)

-- and one that tells that it has some
pub told_some : (a : Option Holding) (n : ℕ) (h : Holding) → IfSome a (λ (k : Holding). n ≡ length k.records) → (n ≡ 0 → ⊥) → a ≡ Some h → h.records ≡ [] → ⊥
told_some None n h count some e none = absurd cc
told_some (Some k) n h count some e none =
    let same : k ≡ h = cc in
    some (count ∙ ap (λ (x : Holding). length x.records) same ∙ ap (λ (rs : List Record). length rs) none)

-- ---- the store keeps the other catalog

kept_case : (rs : List Record) (before after : List Record) (h k : Holding) (kept catalog : CatalogData) → h.records ≡ rs → AreRecordsOf before kept → StandFor before kept → StandFor after catalog
    → StandFor rs kept → Leads before after h k → StandFor k.records catalog
kept_case [] before after h k kept catalog e are was is stands leads = by_case (leads.empty e)
  where
    by_case : (k.records ≡ after) ⊎ ((k.records ≡ []) × (after ≡ before)) → StandFor k.records catalog
    by_case (inl all) = subst (λ (rs : List Record). StandFor rs catalog) (sym all) is
    by_case (inr same) =
        let one : catalog ≡ kept = stand_for_one before catalog kept (subst (λ (rs : List Record). StandFor rs catalog) same.1 is) was in
        subst (λ (rs : List Record). StandFor rs catalog) (sym same.0) (one ∙ stands)
kept_case (r ∷ rs) before after h k kept catalog e are was is stands leads =
    let held : h.records ≡ before = e ∙ are_one (r ∷ rs) before kept (stand_as r rs kept stands) are in
    subst (λ (rs : List Record). StandFor rs catalog) (sym (leads.held held)) is

pub keeps_other : (a b : Option Holding) (before after : List Record) (kept catalog : CatalogData) → 0 < length before → StandFor before kept → StandFor after catalog → Keeps a kept → MatchTold a b (Leads before after) → Keeps b catalog
keeps_other None None before after kept catalog some was is keeps told = tt
keeps_other None (Some k) before after kept catalog some was is keeps told = absurd told
keeps_other (Some h) None before after kept catalog some was is keeps told = absurd told
keeps_other (Some h) (Some k) before after kept catalog some was is keeps told =
    kept_case h.records before after h k kept catalog refl (some_stand before kept some was) was is keeps told

-- records of one catalog are one list
pub same_catalog : (before after : List Record) (kept catalog : CatalogData) → 0 < length before → 0 < length after → StandFor before kept → StandFor after catalog → catalog ≡ kept → after ≡ before
same_catalog before after kept catalog some some' was is same =
    are_one after before kept (some_stand after kept some' (subst (StandFor after) same is)) (some_stand before kept some was)
