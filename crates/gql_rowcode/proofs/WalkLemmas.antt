-- Going over records from the first on: behind a record that may stand there all is known that was known before, and it; a record that may
-- not is at fault.
use Rattle.std.proofs.Common.{◌≡◌, ◌≢◌, ◌∙◌, ℕ, zero, suc, ◌+◌, ◌<◌, ◌≤◌, eqb, Bool, true, false, List, [], ◌∷◌, ◌++◌, map, length, get_or, take, Option, Some, None, Result, Err, refl, sym, ap, subst, arith, inl, inr}
use Rattle.std.specs.Prelude.{slice_get}
use Rattle.std.specs.List.{list_all}
use Rattle.std.proofs.lemmas.Bool.{cases_lt, and_parts, and_from, eqb-true}
use Rattle.std.proofs.lemmas.List.{take_more, take_all}
use Rattle.std.proofs.lemmas.Option.{get_or_from_slice_get}
use Rattle.gql_values3.specs.PropertyGraph.{are_numbers, are_nodes, is_node_record, numbers_ascend}
use Rattle.gql_values3.specs.Texts.{ascend_above}
use Rattle.gql_fields.specs.Machinery.Reading.{◌>>=◌}
use Rattle.gql_graph.specs.Catalog.{CatalogGraph, CatalogData, is_before}
use Rattle.gql_graph.specs.declared.graph_type.GraphType.{GraphType}
use Rattle.gql_type.specs.GraphTypes.{is_graph_type}
use Rattle.gql_ports.specs.Held.{keys_ascend}
use Rattle.gql_ports.specs.declared.stored.Record.{Record}
use Rattle.gql_rowcode.specs.Records.{Form, version, graph_type, graph, node, edge, key_of, value_of, record_of, IsForm}
use Rattle.gql_rowcode.specs.StandFor.{StandFor}
use Rattle.gql_rowcode.specs.FirstBad.{Follows, IsGood, FirstBad}
use Rattle.gql_rowcode.specs.declared.fault.ReadFault.{ReadFault}
use Rattle.gql_rowcode.specs.declared.fault.ReadFault.TheVariants.{BadRecord}
use Rattle.gql_rowcode.specs.Machinery.FormReading.{form_at}
use Rattle.gql_rowcode.specs.Machinery.KeyOrder.{AreListed}
use Rattle.gql_rowcode.specs.Machinery.Noted.{note, may_join, noted_after, record_after, in_order, IsNoted, WasRead}
use Rattle.gql_rowcode.proofs.MemberLemmas.{Has, all_from, each_has}
use Rattle.gql_rowcode.proofs.SortedLemmas.{when, has_sorted}
use Rattle.gql_rowcode.proofs.SoundLemmas.{IsGraph, Sound, node_number}
use Rattle.gql_rowcode.proofs.KeyLemmas.{record_key, forms_in_order}
use Rattle.gql_rowcode.proofs.FormLemmas.{when_then, form_again}
use Rattle.gql_rowcode.proofs.NotedLemmas.{noted, noted-push, described-noted, follows_joins, joins_follow}
use Rattle.gql_rowcode.proofs.KeyOrderLemmas.{types_are_listed, graphs_are_listed}
use Rattle.gql_rowcode.proofs.KnownLemmas.{Known, known_nothing, known_more, known_stand, is_good, good_form}

-- ---- keys in order

-- the key of the last record, or low
abbrev last_text : List ℕ → List Record → List ℕ
last_text low [] = low
last_text low (r ∷ rs) = last_text r.key rs

-- no key is below no bytes
abbrev pub last_key : List Record → List ℕ
last_key rs = last_text [] rs

last_push : (low : List ℕ) (rs : List Record) (r : Record) → last_text low (rs ++ r ∷ []) ≡ r.key
last_push low [] r = refl
last_push low (s ∷ rs) r = last_push s.key rs r

push_to : (low : List ℕ) (rs : List Record) (r : Record) → ascend_above low (map record_key rs) ≡ true → is_before (last_text low rs) r.key ≡ true → ascend_above low (map record_key (rs ++ r ∷ [])) ≡ true
push_to low [] r up lt = and_from (is_before low r.key) true lt refl
push_to low (s ∷ rs) r up lt =
    let p = and_parts (is_before low s.key) (ascend_above s.key (map record_key rs)) up in
    and_from (is_before low s.key) (ascend_above s.key (map record_key (rs ++ r ∷ []))) p.0 (push_to s.key rs r p.1 lt)

push_from : (low : List ℕ) (rs : List Record) (r : Record) → ascend_above low (map record_key (rs ++ r ∷ [])) ≡ true → is_before (last_text low rs) r.key ≡ true
push_from low [] r up = (and_parts (is_before low r.key) true up).0
push_from low (s ∷ rs) r up = push_from s.key rs r (and_parts (is_before low s.key) (ascend_above s.key (map record_key (rs ++ r ∷ []))) up).1

keys_to : (rs : List Record) (r : Record) → keys_ascend rs ≡ true → is_before (last_key rs) r.key ≡ true → keys_ascend (rs ++ r ∷ []) ≡ true
keys_to [] r up lt = refl
keys_to (s ∷ rs) r up lt = push_to s.key rs r up lt

some_key : (f : Form) → is_before [] (key_of f) ≡ true
some_key version = refl
some_key (graph_type name t) = refl
some_key (graph name k n e) = refl
some_key (node name r) = refl
some_key (edge name r) = refl

keys_from : (rs : List Record) (r : Record) (f : Form) → r ≡ record_of f → keys_ascend (rs ++ r ∷ []) ≡ true → is_before (last_key rs) r.key ≡ true
keys_from [] r f is up = ap (λ (s : Record). is_before [] s.key) is ∙ some_key f
keys_from (s ∷ rs) r f is up = push_from s.key rs r up

-- ---- one record

some_same : (a b : CatalogData) → Some a ≡ Some b → a ≡ b
some_same a b e = cc

-- what a record that is spelled comes to
after_spelled : (last : List ℕ) (first : Bool) (c : CatalogData) (r : Record) (f : Form) → IsForm f → r ≡ record_of f → is_before last r.key ≡ true → record_after last first c r.key r.value ≡ noted_after first c f
unfolding record_after
after_spelled last first c r f fits is lt =
    let read : form_at r.key r.value ≡ Some f = ap (λ (s : Record). form_at s.key s.value) is ∙ form_again f fits in
    when (is_before last r.key) (form_at r.key r.value >>= noted_after first c) None lt ∙ ap (λ (o : Option Form). o >>= noted_after first c) read

after_is_before : (last : List ℕ) (first : Bool) (c next : CatalogData) (r : Record) → record_after last first c r.key r.value ≡ Some next → is_before last r.key ≡ true
unfolding record_after
after_is_before last first c next r e = (when_then (is_before last r.key) (form_at r.key r.value >>= noted_after first c) next e).0

-- ---- what is known of the records before a place

pub record AreRead (records : List Record) (place : ℕ) (last : List ℕ) (c : CatalogData) : Type 0 where
  pub known : Known (take place records)
  pub noted_is : c ≡ noted known.forms
  pub last_is : last ≡ last_key (take place records)
  pub good : (i : ℕ) (r : Record) → i < place → slice_get records i ≡ Some r → IsGood (take i records) r

-- the same of all records of a list
record AreReadAs (records : List Record) (last : List ℕ) (c : CatalogData) : Type 0 where
  pub known : Known records
  pub noted_is : c ≡ noted known.forms
  pub last_is : last ≡ last_key records

stands : (records : List Record) (last : List ℕ) (c : CatalogData) → AreReadAs records last c → records ≢ [] → StandFor records (in_order c)
stands [] last c read some = absurd (some refl)
stands (r ∷ rs) last c read some = subst (StandFor (r ∷ rs)) (described-noted read.known.forms ∙ ap in_order (sym read.noted_is)) (known_stand r rs read.known)

pub there_is : (rs : List Record) (i : ℕ) → i < length rs → (r : Record) × (slice_get rs i ≡ Some r)
there_is [] i lt = absurd (omega arith)
there_is (r ∷ rs) zero lt = (r, refl)
there_is (r ∷ rs) (suc i) lt = there_is rs i (omega arith)

pub none_read : (records : List Record) → AreRead records 0 [] (record { graphs = []; types = [] })
none_read records = record { known = known_nothing; noted_is = refl; last_is = refl; good = λ i r lt e. absurd (omega arith) }

-- it is as the code needs it
module _ (records : List Record) (place : ℕ) (last : List ℕ) (c : CatalogData) (read : AreRead records place last c) where
  sound : Sound (in_order c)
  sound = subst Sound (described-noted read.known.forms ∙ ap in_order (sym read.noted_is)) read.known.describes.sound

  nodes_are : (g : List ℕ × CatalogGraph) → Has c.graphs g → are_nodes g.1.graph.nodes g.1.graph.next_node ≡ true
  nodes_are g h =
      let is : IsGraph g.1.graph = sound.graphs_fit g (has_sorted c.graphs g h) in
      and_from (are_numbers (map node_number g.1.graph.nodes) g.1.graph.next_node) (list_all is_node_record g.1.graph.nodes)
      (and_from (numbers_ascend 0 (map node_number g.1.graph.nodes) g.1.graph.next_node) _ is.node_order is.node_limit) (all_from is_node_record g.1.graph.nodes is.nodes_fit)

  pub read_noted : IsNoted c
  read_noted =
      let fits = λ (g : Form) (h : Has read.known.forms g). each_has IsForm read.known.forms g read.known.fit h in
      let up = forms_in_order read.known.forms (ap keys_ascend (sym read.known.are) ∙ read.known.ordered) in
      record {
        types_listed = subst (λ (x : CatalogData). AreListed x.types) (sym read.noted_is) (types_are_listed read.known.forms fits up);
        graphs_listed = subst (λ (x : CatalogData). AreListed x.graphs) (sym read.noted_is) (graphs_are_listed read.known.forms fits up);
        types_fit = all_from (λ (t : List ℕ × GraphType). is_graph_type t.1) c.types (λ t h. sound.types_fit t (has_sorted c.types t h));
        nodes_fit = all_from (λ (g : List ℕ × CatalogGraph). are_nodes g.1.graph.nodes g.1.graph.next_node) c.graphs nodes_are;
      }

  -- whether the record is the first of all
  none_before : eqb place 0 ≡ true → read.known.forms ≡ []
  none_before e = no_forms read.known.forms (sym read.known.are ∙ ap (λ (n : ℕ). take n records) (eqb-true place 0 e))
    where
      no_forms : (fs : List Form) → map record_of fs ≡ [] → fs ≡ []
      no_forms [] e = refl
      no_forms (f ∷ fs) e = absurd (cc)

  module _ (r : Record) (lt : place < length records) (at : r ≡ get_or records place r) where
    next_take : take (place + 1) records ≡ take place records ++ r ∷ []
    next_take = take_more records place r lt ∙ ap (λ (x : Record). take place records ++ x ∷ []) (sym at)

    some_before : eqb place 0 ≡ false → read.known.forms ≢ []
    some_before e none = no_records place records (ap (λ (fs : List Form). map record_of fs) (sym none) ∙ sym read.known.are) e lt
      where
        no_records : (n : ℕ) (rs : List Record) → [] ≡ take n rs → eqb n 0 ≡ false → n < length rs → ⊥
        no_records zero rs e some lt = cc
        no_records (suc n) [] e some lt = omega arith
        no_records (suc n) (s ∷ rs) e some lt = cc

    -- a record that may stand there
    module _ (next : CatalogData) (after : record_after last (eqb place 0) c r.key r.value ≡ Some next) (f : Form) (fits : IsForm f) (is : r ≡ record_of f) where
      before : is_before last r.key ≡ true
      before = after_is_before last (eqb place 0) c next r after

      told : noted_after (eqb place 0) c f ≡ Some next
      told = sym (after_spelled last (eqb place 0) c r f fits is before) ∙ after

      joins : may_join (eqb place 0) c f ≡ true
      joins = (when_then (may_join (eqb place 0) c f) (Some (note c f)) next told).0

      noted_next : note c f ≡ next
      noted_next = some_same (note c f) next (when_then (may_join (eqb place 0) c f) (Some (note c f)) next told).1

      ordered : keys_ascend (take place records ++ r ∷ []) ≡ true
      ordered = keys_to (take place records) r read.known.ordered (ap (λ (k : List ℕ). is_before k r.key) (sym read.last_is) ∙ before)

      follows : Follows read.known.forms f
      follows = joins_follow read.known.forms (eqb place 0) none_before some_before f (ap (λ (x : CatalogData). may_join (eqb place 0) x f) (sym read.noted_is) ∙ joins)

      abbrev known_here : Known (take place records ++ r ∷ [])
      known_here = known_more (take place records) read.known r f fits is ordered follows

      good_here : (i : ℕ) (s : Record) → i < place + 1 → slice_get records i ≡ Some s → IsGood (take i records) s
      good_here i s below e = elim (cases_lt i place) [
        | inl earlier ↦ read.good i s earlier e
        | inr here ↦
            let same_place : i ≡ place = omega arith in
            let found : get_or records i r ≡ s = get_or_from_slice_get records i s r e in
            let same : r ≡ s = at ∙ ap (λ (n : ℕ). get_or records n r) (sym same_place) ∙ found in
            subst (λ (x : Record). IsGood (take i records) x) same (subst (λ (n : ℕ). IsGood (take n records) r) (sym same_place) (is_good (take place records) read.known r f fits is ordered follows))
      ]

      pub read_more : AreRead records (place + 1) r.key next
      read_more =
          let moved : (rs : List Record) → take place records ++ r ∷ [] ≡ rs → AreReadAs rs r.key next = λ rs e. subst (λ (rs : List Record). AreReadAs rs r.key next) e (record {
            known = known_here;
            noted_is = sym noted_next ∙ ap (λ (x : CatalogData). note x f) read.noted_is ∙ sym (noted-push (record { graphs = []; types = [] }) read.known.forms f);
            last_is = sym (last_push [] (take place records) r);
          }) in
          let all = moved (take (place + 1) records) (sym next_take) in
          record { known = all.known; noted_is = all.noted_is; last_is = all.last_is; good = good_here }

    -- one that may not
    refused : record_after last (eqb place 0) c r.key r.value ≡ None → IsGood (take place records) r → ⊥
    refused none good =
        let g = good_form (take place records) read.known r good in
        let before : is_before last r.key ≡ true = ap (λ (k : List ℕ). is_before k r.key) read.last_is ∙ keys_from (take place records) r g.0 g.2 g.3 in
        let joins : may_join (eqb place 0) c g.0 ≡ true = ap (λ (x : CatalogData). may_join (eqb place 0) x g.0) read.noted_is ∙ follows_joins read.known.forms (eqb place 0) none_before some_before g.0 g.4 in
        let some : record_after last (eqb place 0) c r.key r.value ≡ Some (note c g.0) = after_spelled last (eqb place 0) c r g.0 g.1 g.2 before ∙ when (may_join (eqb place 0) c g.0) (Some (note c g.0)) None joins in
        apart (note c g.0) (sym none ∙ some)
      where
        apart : (x : CatalogData) → None ≡ Some x → ⊥
        apart x e = cc

    pub read_fault : record_after last (eqb place 0) c r.key r.value ≡ None → FirstBad records place
    read_fault none = record {
      there = lt;
      earlier = λ i s below e. read.good i s below e;
      fault = λ s e good. refused none (subst (IsGood (take place records)) (sym (at ∙ get_or_from_slice_get records place s r e)) good);
    }

  -- all of them
  pub read_all : length records ≤ place → WasRead records c
  read_all le = record {
    stand = λ some. stands records last c (subst (λ (rs : List Record). AreReadAs rs last c) (take_all place records le) (record { known = read.known; noted_is = read.noted_is; last_is = read.last_is })) some;
    no_fault = λ i bad. none_bad i bad;
  }
    where
      none_bad : (i : ℕ) → FirstBad records i → ⊥
      none_bad i bad =
          let r = there_is records i bad.there in
          bad.fault r.0 r.1 (read.good i r.0 (let lt = bad.there in omega arith) r.1)

-- ---- what the code tells of a place

abbrev pub told_at : {A : Type 0} → ℕ → Result A ReadFault
told_at n = Err (BadRecord n)

pub place_same : {A : Type 0} (a b : ℕ) → told_at {A = A} a ≡ told_at b → a ≡ b
place_same a b e = cc

pub record_is : (r : Record) (f : Form) → r.key ≡ key_of f → r.value ≡ value_of f → r ≡ record_of f
record_is r f key_is value_is = λ i. record { key = key_is i; value = value_is i }
