-- What a record says was spelled so, and each form that is spelled is said again.
use Rattle.std.proofs.Common.{◌≡◌, ℕ, suc, ◌^◌, ◌<◌, Bool, true, false, cond, eqb, List, [], ◌∷◌, ◌++◌, length, Option, Some, None, Result, Ok, Err, refl, sym, ap, subst, ◌∙◌, append_assoc, inl, inr}
use Rattle.std.specs.Prelude.{IfOk}
use Rattle.std.specs.Int.{w32, to_be_bytes}
use Rattle.std.proofs.lemmas.Bool.{eqb-true}
use Rattle.std.proofs.lemmas.List.{append-nil, nil_from_length}
use Rattle.std.proofs.lemmas.Slice.Eq.{bytes_eq-Decides}
use Rattle.gql_values3.specs.Datum.{Datum}
use Rattle.gql_values3.specs.Texts.{same_text}
use Rattle.gql_values3.specs.declared.element.Ends.{Ends}
use Rattle.gql_values3.specs.declared.element.Ends.TheVariants.{Directed, Undirected}
use Rattle.gql_fields.specs.Spelling.{spelled, labels_spelled, properties_spelled, content_spelled, flag_spelled}
use Rattle.gql_fields.specs.Kept.{IsText, AreKeptLabels, AreKeptProperties, IsKeptContent}
use Rattle.gql_fields.specs.declared.misread.Misread.{Misread}
use Rattle.gql_fields.specs.Machinery.Reading.{◌>>=◌, Gives, number_at, text_at, flag_at, labels_at, properties_at}
use Rattle.gql_fields.proofs.FieldLemmas.{IsBytes, Takes, Takes-then, bind_some, when_some, some_is, wide32, number_takes, number_again, text_takes, text_again}
use Rattle.gql_fields.proofs.ItemLemmas.{IsSpelled, IsReadAgain}
use Rattle.gql_fields.proofs.LabelLemmas.{labels_take, labels_again}
use Rattle.gql_fields.proofs.ValueLemmas.{chosen, flag_takes}
use Rattle.gql_fields.proofs.PropertyLemmas.{properties_take, properties_again}
use Rattle.gql_typecode.specs.Machinery.TypeReading.{whole_type_at}
use Rattle.gql_typecode.proofs.TypeLemmas.{whole_type_takes, whole_type_again}
use Rattle.gql_ports.specs.declared.stored.Record.{Record}
use Rattle.gql_rowcode.specs.Records.{Form, version, graph_type, graph, node, edge, type_name_spelled, ends_spelled, key_of, value_of, record_of, IsKeptName, AreKeptEnds, IsForm}
use Rattle.gql_rowcode.specs.declared.form.Form as code
use Rattle.gql_rowcode.specs.Machinery.Said.{form_of}
use Rattle.gql_rowcode.specs.Machinery.FormReading.{both_at, without_rest, whole_at, type_name_behind, type_name_at, ends_between, ends_at, content_at, name_key_at, element_key_at, graph_value_at, node_value_at, edge_value_at, version_value_at, version_form_at, type_form_at, graph_form_at, node_record, node_form_at, edge_record, edge_form_at, form_at}

-- ---- parts in a row, and to the end

abbrev both_spelled : {A B : Type 0} → (A → List ℕ) → (B → List ℕ) → A × B → List ℕ
both_spelled s t x = s x.0 ++ t x.1

abbrev BothKept : {A B : Type 0} → (A → Type 0) → (B → Type 0) → A × B → Type 0
BothKept K L x = K x.0 × L x.1

module _ {A B : Type 0} (s : A → List ℕ) (K : A → Type 0) (r : List ℕ → Option (A × List ℕ)) (t : B → List ℕ) (L : B → Type 0) (q : List ℕ → Option (B × List ℕ)) where
  both_take : IsSpelled s K r → IsSpelled t L q → IsSpelled (both_spelled s t) (BothKept K L) (both_at r q)
  both_take law other bytes x fits e =
      let a = bind_some (r bytes) (λ a. q a.1 >>= λ b. Some ((a.0, b.0), b.1)) x e in
      let b = bind_some (q a.0.1) (λ b. Some ((a.0.0, b.0), b.1)) x a.2 in
      let first = law bytes a.0 fits a.1 in
      let second = other a.0.1 b.0 first.0.rest_fits b.1 in
      let whole = Takes-then bytes (s a.0.0) a.0.1 (t b.0.0) b.0.1 first.0 second.0 in
      let made : (A × B) × List ℕ = ((a.0.0, b.0.0), b.0.1) in
      subst (λ (y : (A × B) × List ℕ). Takes bytes (both_spelled s t y.0) y.1 × BothKept K L y.0) (some_is made x b.2) (whole, (first.1, second.1))

  both_again : IsReadAgain s K r → IsReadAgain t L q → IsReadAgain (both_spelled s t) (BothKept K L) (both_at r q)
  both_again law other a rest kept =
      ap (both_at r q) (append_assoc (s a.0) (t a.1) rest) ∙ rw (law a.0 (t a.1 ++ rest) kept.0, other a.1 rest kept.1) refl

module _ {A : Type 0} (s : A → List ℕ) (K : A → Type 0) (r : List ℕ → Option (A × List ℕ)) where
  whole_takes : IsSpelled s K r → (bytes : List ℕ) (x : A) → IsBytes bytes → whole_at r bytes ≡ Some x → (bytes ≡ s x) × K x
  whole_takes law bytes x fits e =
      let b = bind_some (r bytes) without_rest x e in
      let w = when_some (eqb (length b.0.1) 0) b.0.0 x b.2 in
      let t = law bytes b.0 fits b.1 in
      let nothing : b.0.1 ≡ [] = nil_from_length b.0.1 (eqb-true _ _ w.0) in
      let all : bytes ≡ s b.0.0 = t.0.parts ∙ ap (λ (rest : List ℕ). s b.0.0 ++ rest) nothing ∙ append-nil (s b.0.0) in
      subst (λ (y : A). (bytes ≡ s y) × K y) w.1 (all, t.1)

  whole_again : IsReadAgain s K r → (x : A) → K x → whole_at r (s x) ≡ Some x
  whole_again law x kept = ap (whole_at r) (sym (append-nil (s x))) ∙ rw (law x [] kept) refl

-- ---- the parts

abbrev number_spelled : ℕ → List ℕ
number_spelled n = to_be_bytes w32 n

abbrev IsNumber : ℕ → Type 0
IsNumber n = n < 2 ^ 32

four_take : IsSpelled number_spelled IsNumber (number_at w32)
four_take bytes x fits e = number_takes w32 (2 ^ 32) wide32 bytes x.0 x.1 fits e

four_again : IsReadAgain number_spelled IsNumber (number_at w32)
four_again n rest kept = number_again w32 (2 ^ 32) wide32 n rest kept

abbrev IsTypeName : List ℕ → Option (List ℕ) × List ℕ → Type 0
IsTypeName bytes x = Takes bytes (type_name_spelled x.0) x.1 × IsKeptName x.0

name_behind : (bytes : List ℕ) (b : Bool) (rest : List ℕ) (x : Option (List ℕ) × List ℕ) → Takes bytes (flag_spelled b ∷ []) rest → type_name_behind (b, rest) ≡ Some x → IsTypeName bytes x
name_behind bytes false rest x t e = subst (IsTypeName bytes) (some_is (None, rest) x e) (t, tt)
name_behind bytes true rest x t e =
    let a = bind_some (text_at rest) (λ name. Some (Some name.0, name.1)) x e in
    let u = text_takes rest a.0 t.rest_fits a.1 in
    subst (IsTypeName bytes) (some_is (Some a.0.0, a.0.1) x a.2) (Takes-then bytes (1 ∷ []) rest (spelled a.0.0) a.0.1 t u.0, u.1)

type_name_takes : IsSpelled type_name_spelled IsKeptName type_name_at
unfolding type_name_at
type_name_takes bytes x fits e =
    let a = bind_some (flag_at bytes) type_name_behind x e in
    name_behind bytes a.0.0 a.0.1 x (flag_takes bytes a.0 fits a.1) a.2

type_name_again : IsReadAgain type_name_spelled IsKeptName type_name_at
unfolding type_name_at
type_name_again None rest kept = refl
type_name_again (Some name) rest kept = ap (λ (o : Option (List ℕ × List ℕ)). o >>= λ n. Some (Some n.0, n.1)) (text_again name rest kept)

ends_take : IsSpelled ends_spelled AreKeptEnds ends_at
unfolding ends_at
ends_take bytes x fits e =
    let a = bind_some (flag_at bytes) (λ f. both_at (number_at w32) (number_at w32) f.1 >>= λ n. Some (ends_between f.0 n.0.0 n.0.1, n.1)) x e in
    let b = bind_some (both_at (number_at w32) (number_at w32) a.0.1) (λ n. Some (ends_between a.0.0 n.0.0 n.0.1, n.1)) x a.2 in
    let first = flag_takes bytes a.0 fits a.1 in
    let second = both_take number_spelled IsNumber (number_at w32) number_spelled IsNumber (number_at w32) four_take four_take a.0.1 b.0 first.rest_fits b.1 in
    let both = Takes-then bytes (flag_spelled a.0.0 ∷ []) a.0.1 (both_spelled number_spelled number_spelled b.0.0) b.0.1 first second.0 in
    subst (λ (y : Ends × List ℕ). Takes bytes (ends_spelled y.0) y.1 × AreKeptEnds y.0) (some_is (ends_between a.0.0 b.0.0.0 b.0.0.1, b.0.1) x b.2) (told a.0.0 b.0.0.0 b.0.0.1 b.0.1 both second.1)
  where
    told : (f : Bool) (m n : ℕ) (rest : List ℕ) → Takes bytes (flag_spelled f ∷ (to_be_bytes w32 m ++ to_be_bytes w32 n)) rest → (m < 2 ^ 32) × (n < 2 ^ 32) → Takes bytes (ends_spelled (ends_between f m n)) rest × AreKeptEnds (ends_between f m n)
    told false m n rest t kept = (t, kept)
    told true m n rest t kept = (t, kept)

ends_again : IsReadAgain ends_spelled AreKeptEnds ends_at
unfolding ends_at
ends_again (Directed s t) rest kept =
    ap (λ (o : Option ((ℕ × ℕ) × List ℕ)). o >>= λ n. Some (ends_between false n.0.0 n.0.1, n.1)) (both_again number_spelled IsNumber (number_at w32) number_spelled IsNumber (number_at w32) four_again four_again (s.0, t.0) rest kept)
ends_again (Undirected l h) rest kept =
    ap (λ (o : Option ((ℕ × ℕ) × List ℕ)). o >>= λ n. Some (ends_between true n.0.0 n.0.1, n.1)) (both_again number_spelled IsNumber (number_at w32) number_spelled IsNumber (number_at w32) four_again four_again (l.0, h.0) rest kept)

abbrev pair_spelled : List (List ℕ) × List (List ℕ × Datum) → List ℕ
pair_spelled x = content_spelled x.0 x.1

abbrev IsKeptPair : List (List ℕ) × List (List ℕ × Datum) → Type 0
IsKeptPair x = IsKeptContent x.0 x.1

content_takes : IsSpelled pair_spelled IsKeptPair content_at
unfolding content_at
content_takes = both_take labels_spelled AreKeptLabels labels_at properties_spelled AreKeptProperties properties_at labels_take properties_take

content_again : IsReadAgain pair_spelled IsKeptPair content_at
unfolding content_at
content_again = both_again labels_spelled AreKeptLabels labels_at properties_spelled AreKeptProperties properties_at labels_again properties_again

-- ---- keys and values

name_key_takes : (key name : List ℕ) → IsBytes key → name_key_at key ≡ Some name → (key ≡ spelled name) × IsText name
unfolding name_key_at
name_key_takes key name fits e = whole_takes spelled IsText text_at text_takes key name fits e

name_key_again : (name : List ℕ) → IsText name → name_key_at (spelled name) ≡ Some name
unfolding name_key_at
name_key_again name kept = whole_again spelled IsText text_at text_again name kept

element_key_takes : (key : List ℕ) (x : List ℕ × ℕ) → IsBytes key → element_key_at key ≡ Some x → (key ≡ spelled x.0 ++ to_be_bytes w32 x.1) × (IsText x.0 × (x.1 < 2 ^ 32))
unfolding element_key_at
element_key_takes key x fits e =
    whole_takes (both_spelled spelled number_spelled) (BothKept IsText IsNumber) (both_at text_at (number_at w32)) (both_take spelled IsText text_at number_spelled IsNumber (number_at w32) text_takes four_take) key x fits e

element_key_again : (name : List ℕ) (n : ℕ) → IsText name → n < 2 ^ 32 → element_key_at (spelled name ++ to_be_bytes w32 n) ≡ Some (name, n)
unfolding element_key_at
element_key_again name n kept small =
    whole_again (both_spelled spelled number_spelled) (BothKept IsText IsNumber) (both_at text_at (number_at w32)) (both_again spelled IsText text_at number_spelled IsNumber (number_at w32) text_again four_again) (name, n) (kept, small)

abbrev graph_spelled : (Option (List ℕ) × ℕ) × ℕ → List ℕ
graph_spelled = both_spelled (both_spelled type_name_spelled number_spelled) number_spelled

abbrev IsKeptGraph : (Option (List ℕ) × ℕ) × ℕ → Type 0
IsKeptGraph = BothKept (BothKept IsKeptName IsNumber) IsNumber

graph_value_takes : (value : List ℕ) (x : (Option (List ℕ) × ℕ) × ℕ) → IsBytes value → graph_value_at value ≡ Some x → (value ≡ graph_spelled x) × IsKeptGraph x
unfolding graph_value_at
graph_value_takes value x fits e =
    whole_takes graph_spelled IsKeptGraph (both_at (both_at type_name_at (number_at w32)) (number_at w32))
    (both_take (both_spelled type_name_spelled number_spelled) (BothKept IsKeptName IsNumber) (both_at type_name_at (number_at w32)) number_spelled IsNumber (number_at w32)
    (both_take type_name_spelled IsKeptName type_name_at number_spelled IsNumber (number_at w32) type_name_takes four_take) four_take) value x fits e

graph_value_again : (x : (Option (List ℕ) × ℕ) × ℕ) → IsKeptGraph x → graph_value_at (graph_spelled x) ≡ Some x
unfolding graph_value_at
graph_value_again x kept =
    whole_again graph_spelled IsKeptGraph (both_at (both_at type_name_at (number_at w32)) (number_at w32))
    (both_again (both_spelled type_name_spelled number_spelled) (BothKept IsKeptName IsNumber) (both_at type_name_at (number_at w32)) number_spelled IsNumber (number_at w32)
    (both_again type_name_spelled IsKeptName type_name_at number_spelled IsNumber (number_at w32) type_name_again four_again) four_again) x kept

node_value_takes : (value : List ℕ) (x : List (List ℕ) × List (List ℕ × Datum)) → IsBytes value → node_value_at value ≡ Some x → (value ≡ pair_spelled x) × IsKeptPair x
unfolding node_value_at
node_value_takes value x fits e = whole_takes pair_spelled IsKeptPair content_at content_takes value x fits e

node_value_again : (x : List (List ℕ) × List (List ℕ × Datum)) → IsKeptPair x → node_value_at (pair_spelled x) ≡ Some x
unfolding node_value_at
node_value_again x kept = whole_again pair_spelled IsKeptPair content_at content_again x kept

abbrev EdgeValue : Type 0
EdgeValue = Ends × (List (List ℕ) × List (List ℕ × Datum))

abbrev edge_spelled : EdgeValue → List ℕ
edge_spelled = both_spelled ends_spelled pair_spelled

abbrev IsKeptEdge : EdgeValue → Type 0
IsKeptEdge = BothKept AreKeptEnds IsKeptPair

edge_value_takes : (value : List ℕ) (x : EdgeValue) → IsBytes value → edge_value_at value ≡ Some x → (value ≡ edge_spelled x) × IsKeptEdge x
unfolding edge_value_at
edge_value_takes value x fits e = whole_takes edge_spelled IsKeptEdge (both_at ends_at content_at) (both_take ends_spelled AreKeptEnds ends_at pair_spelled IsKeptPair content_at ends_take content_takes) value x fits e

edge_value_again : (x : EdgeValue) → IsKeptEdge x → edge_value_at (edge_spelled x) ≡ Some x
unfolding edge_value_at
edge_value_again x kept = whole_again edge_spelled IsKeptEdge (both_at ends_at content_at) (both_again ends_spelled AreKeptEnds ends_at pair_spelled IsKeptPair content_at ends_again content_again) x kept

-- ---- forms

-- the form is what this key, behind its first byte, and this value spell
abbrev IsSaid : ℕ → List ℕ → List ℕ → Form → Type 0
IsSaid kind key value f = IsForm f × (kind ∷ key ≡ key_of f) × (value ≡ value_of f)

pub when_then : {A : Type 0} (b : Bool) (x : Option A) (y : A) → cond b x None ≡ Some y → (b ≡ true) × (x ≡ Some y)
when_then true x y e = (refl, e)
when_then false x y e = absurd (cc)

version_takes : (key value : List ℕ) (f : Form) → version_form_at key value ≡ Some f → IsSaid 0 key value f
unfolding version_form_at
version_takes key value f e =
    let g = when_then (eqb (length key) 0) (version_value_at value) f e in
    let w = when_some (same_text value (1 ∷ [])) version f g.1 in
    subst (IsSaid 0 key value) w.1 (tt, ap (λ (k : List ℕ). 0 ∷ k) (nil_from_length key (eqb-true _ _ g.0)), (bytes_eq-Decides value (1 ∷ [])).0 w.0)

type_takes : (key value : List ℕ) (f : Form) → IsBytes key → IsBytes value → type_form_at key value ≡ Some f → IsSaid 1 key value f
unfolding type_form_at
type_takes key value f key_fits value_fits e =
    let a = bind_some (name_key_at key) (λ name. whole_type_at value >>= λ kind. Some (graph_type name kind)) f e in
    let b = bind_some (whole_type_at value) (λ kind. Some (graph_type a.0 kind)) f a.2 in
    let k = name_key_takes key a.0 key_fits a.1 in
    let v = whole_type_takes value b.0 value_fits b.1 in
    subst (IsSaid 1 key value) (some_is (graph_type a.0 b.0) f b.2) ((k.1, v.0), ap (λ (k : List ℕ). 1 ∷ k) k.0, v.1)

graph_takes : (key value : List ℕ) (f : Form) → IsBytes key → IsBytes value → graph_form_at key value ≡ Some f → IsSaid 2 key value f
unfolding graph_form_at
graph_takes key value f key_fits value_fits e =
    let a = bind_some (name_key_at key) (λ name. graph_value_at value >>= λ rest. Some (graph name rest.0.0 rest.0.1 rest.1)) f e in
    let b = bind_some (graph_value_at value) (λ rest. Some (graph a.0 rest.0.0 rest.0.1 rest.1)) f a.2 in
    let k = name_key_takes key a.0 key_fits a.1 in
    let v = graph_value_takes value b.0 value_fits b.1 in
    subst (IsSaid 2 key value) (some_is (graph a.0 b.0.0.0 b.0.0.1 b.0.1) f b.2) ((k.1, v.1.0.0, v.1.0.1, v.1.1), ap (λ (k : List ℕ). 2 ∷ k) k.0, v.0)

node_takes : (key value : List ℕ) (f : Form) → IsBytes key → IsBytes value → node_form_at key value ≡ Some f → IsSaid 3 key value f
unfolding node_form_at
node_takes key value f key_fits value_fits e =
    let a = bind_some (element_key_at key) (λ place. node_value_at value >>= λ content. Some (node place.0 (node_record place.1 content.0 content.1))) f e in
    let b = bind_some (node_value_at value) (λ content. Some (node a.0.0 (node_record a.0.1 content.0 content.1))) f a.2 in
    let k = element_key_takes key a.0 key_fits a.1 in
    let v = node_value_takes value b.0 value_fits b.1 in
    subst (IsSaid 3 key value) (some_is (node a.0.0 (node_record a.0.1 b.0.0 b.0.1)) f b.2) ((k.1.0, k.1.1, v.1), ap (λ (k : List ℕ). 3 ∷ k) k.0, v.0)

edge_takes : (key value : List ℕ) (f : Form) → IsBytes key → IsBytes value → edge_form_at key value ≡ Some f → IsSaid 4 key value f
unfolding edge_form_at
edge_takes key value f key_fits value_fits e =
    let a = bind_some (element_key_at key) (λ place. edge_value_at value >>= λ content. Some (edge place.0 (edge_record place.1 content.0 content.1.0 content.1.1))) f e in
    let b = bind_some (edge_value_at value) (λ content. Some (edge a.0.0 (edge_record a.0.1 content.0 content.1.0 content.1.1))) f a.2 in
    let k = element_key_takes key a.0 key_fits a.1 in
    let v = edge_value_takes value b.0 value_fits b.1 in
    subst (IsSaid 4 key value) (some_is (edge a.0.0 (edge_record a.0.1 b.0.0 b.0.1.0 b.0.1.1)) f b.2) ((k.1.0, k.1.1, v.1.0, v.1.1), ap (λ (k : List ℕ). 4 ∷ k) k.0, v.0)

-- a first byte that is known
first_byte : (kind k : ℕ) (key value : List ℕ) (f : Form) → eqb kind k ≡ true → IsSaid k key value f → IsSaid kind key value f
first_byte kind k key value f e said = subst (λ (n : ℕ). IsSaid n key value f) (sym (eqb-true kind k e)) said

abbrev found : Form → Option Form
found f = Some f

abbrev none : Option Form
none = None

-- a form that is read was spelled
pub form_takes : (key value : List ℕ) (f : Form) → IsBytes key → IsBytes value → form_at key value ≡ Some f → IsForm f × (key ≡ key_of f) × (value ≡ value_of f)
unfolding form_at
form_takes [] value f key_fits value_fits e = absurd (cc)
form_takes (kind ∷ key) value f key_fits value_fits e =
    let rest_fits : IsBytes key = λ i. key_fits (suc i) in
    elim (chosen (eqb kind 0) (version_form_at key value) _ (found f) e) [
      | inl h ↦ first_byte kind 0 key value f h.0 (version_takes key value f h.1)
      | inr h ↦
          elim (chosen (eqb kind 1) (type_form_at key value) _ (found f) h.1) [
            | inl i ↦ first_byte kind 1 key value f i.0 (type_takes key value f rest_fits value_fits i.1)
            | inr i ↦
                elim (chosen (eqb kind 2) (graph_form_at key value) _ (found f) i.1) [
                  | inl j ↦ first_byte kind 2 key value f j.0 (graph_takes key value f rest_fits value_fits j.1)
                  | inr j ↦
                      elim (chosen (eqb kind 3) (node_form_at key value) _ (found f) j.1) [
                        | inl k ↦ first_byte kind 3 key value f k.0 (node_takes key value f rest_fits value_fits k.1)
                        | inr k ↦
                            elim (chosen (eqb kind 4) (edge_form_at key value) none (found f) k.1) [
                              | inl l ↦ first_byte kind 4 key value f l.0 (edge_takes key value f rest_fits value_fits l.1)
                              | inr l ↦ absurd (nothing f l.1)
                            ]
                      ]
                ]
          ]
    ]
  where
    nothing : (f : Form) → none ≡ found f → ⊥
    nothing f e = cc

-- a form that was spelled is read
pub form_again : (f : Form) → IsForm f → form_at (key_of f) (value_of f) ≡ Some f
unfolding form_at version_form_at type_form_at graph_form_at node_form_at edge_form_at
form_again version h = refl
form_again (graph_type name t) h = rw (name_key_again name h.0, whole_type_again t h.1) refl
form_again (graph name kind n e) h = rw (name_key_again name h.0, graph_value_again ((kind, n), e) ((h.1, h.2), h.3)) refl
form_again (node name r) h = rw (element_key_again name r.number.0 h.0 h.1, node_value_again (r.labels, r.properties) h.2) refl
form_again (edge name r) h = rw (element_key_again name r.number.0 h.0 h.1, edge_value_again (r.ends, (r.labels, r.properties)) (h.2, h.3)) refl

-- two forms that are spelled alike are one
pub form_same : (f g : Form) → IsForm f → IsForm g → record_of f ≡ record_of g → f ≡ g
form_same f g hf hg e = some_is f g (sym (form_again f hf) ∙ ap (λ (r : Record). form_at r.key r.value) e ∙ form_again g hg)

-- what the code reads was spelled
pub read_is_spelled : (key value : List ℕ) (result : Result code.Form Misread) → IsBytes key → IsBytes value → Gives form_of result (form_at key value)
    → IfOk result (λ f. IsForm (form_of f) × (key ≡ key_of (form_of f)) × (value ≡ value_of (form_of f)))
read_is_spelled key value (Ok f) key_fits value_fits given = form_takes key value (form_of f) key_fits value_fits given
read_is_spelled key value (Err e) key_fits value_fits given = tt
