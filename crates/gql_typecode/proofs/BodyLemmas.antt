-- The properties of a type: what is read was spelled, and what was spelled is read.
use Rattle.std.proofs.Common.{◌≡◌, ℕ, Bool, true, false, cond, List, [], ◌∷◌, ◌++◌, map, Some, None, refl, ap, subst, ◌∙◌, append_assoc}
use Rattle.gql_values3.specs.Texts.{texts_ascend}
use Rattle.gql_values3.specs.declared.prop_kind.PropKind.{PropKind}
use Rattle.gql_graph.specs.declared.graph_type.PropType.{PropType}
use Rattle.gql_fields.specs.Spelling.{spelled, flag_spelled}
use Rattle.gql_fields.specs.Machinery.Reading.{◌>>=◌, text_at, flag_at, counted_at}
use Rattle.gql_fields.proofs.FieldLemmas.{Takes, Takes-then, bind_some, when_some, text_takes, text_again}
use Rattle.gql_fields.proofs.ItemLemmas.{IsSpelled, IsReadAgain, counted_takes, counted_again}
use Rattle.gql_fields.proofs.ValueLemmas.{flag_takes, flag_again}
use Rattle.gql_typecode.specs.TypeSpelling.{kind_spelled, property_type_spelled, body_spelled}
use Rattle.gql_typecode.specs.KeptTypes.{IsKeptPropType, IsKeptBody}
use Rattle.gql_typecode.specs.Machinery.TypeReading.{kind_at, property_type_at, body_at}
use Rattle.gql_typecode.proofs.KindLemmas.{found_is, kind_takes, kind_again}

abbrev property : List ℕ → PropKind → Bool → PropType
property name kind required = record { name = name; kind = kind; required = required }

-- a property of a type that is read was spelled
pub property_type_takes : IsSpelled property_type_spelled IsKeptPropType property_type_at
unfolding property_type_at
property_type_takes bytes x fits e =
    let a = bind_some (text_at bytes) (λ name. kind_at name.1 >>= λ kind. flag_at kind.1 >>= λ required. Some (property name.0 kind.0 required.0, required.1)) x e in
    let b = bind_some (kind_at a.0.1) (λ kind. flag_at kind.1 >>= λ required. Some (property a.0.0 kind.0 required.0, required.1)) x a.2 in
    let d = bind_some (flag_at b.0.1) (λ required. Some (property a.0.0 b.0.0 required.0, required.1)) x b.2 in
    let name = text_takes bytes a.0 fits a.1 in
    let kind = kind_takes a.0.1 b.0 name.0.rest_fits b.1 in
    let required = flag_takes b.0.1 d.0 kind.rest_fits d.1 in
    let two = Takes-then bytes (spelled a.0.0) a.0.1 (kind_spelled b.0.0) b.0.1 name.0 kind in
    let whole = Takes-then bytes (spelled a.0.0 ++ kind_spelled b.0.0) b.0.1 (flag_spelled d.0.0 ∷ []) d.0.1 two required in
    found_is (λ (y : PropType × List ℕ). Takes bytes (property_type_spelled y.0) y.1 × IsKeptPropType y.0) (property a.0.0 b.0.0 d.0.0) d.0.1 x d.2 (whole, name.1)

-- one that was spelled is read
pub property_type_again : IsReadAgain property_type_spelled IsKeptPropType property_type_at
unfolding property_type_at
property_type_again t rest kept =
    let behind_kind : List ℕ = flag_spelled t.required ∷ rest in
    let regrouped : property_type_spelled t ++ rest ≡ spelled t.name ++ (kind_spelled t.kind ++ behind_kind) =
    append_assoc (spelled t.name ++ kind_spelled t.kind) (flag_spelled t.required ∷ []) rest ∙ append_assoc (spelled t.name) (kind_spelled t.kind) behind_kind in
    ap property_type_at regrouped ∙ rw (text_again t.name (kind_spelled t.kind ++ behind_kind) kept, kind_again t.kind behind_kind, flag_again t.required rest) refl

-- their names
abbrev pub names : List PropType → List (List ℕ)
names ts = map (λ (t : PropType). t.name) ts

-- the properties that are read were spelled
pub body_takes : IsSpelled body_spelled IsKeptBody body_at
unfolding body_at
body_takes bytes x fits e =
    let b = bind_some (counted_at property_type_at bytes) (λ body. cond (texts_ascend (names body.0)) (Some body) None) x e in
    let g = when_some (texts_ascend (names b.0.0)) b.0 x b.2 in
    let t = counted_takes property_type_spelled IsKeptPropType property_type_at property_type_takes bytes b.0 fits b.1 in
    subst (λ (y : List PropType × List ℕ). Takes bytes (body_spelled y.0) y.1 × IsKeptBody y.0) g.1 (t.0, record { few = t.1.0; ascend = g.0; texts = t.1.1 })

-- those that were spelled are read
pub body_again : IsReadAgain body_spelled IsKeptBody body_at
unfolding body_at
body_again ts rest kept = rw (counted_again property_type_spelled IsKeptPropType property_type_at property_type_again ts rest (kept.few, kept.texts), kept.ascend) refl

-- the properties behind their count, by the test of their names
pub body_at-in_order : (bytes : List ℕ) (ts : List PropType) (after : List ℕ) → counted_at property_type_at bytes ≡ Some (ts, after) → texts_ascend (names ts) ≡ true → body_at bytes ≡ Some (ts, after)
unfolding body_at
body_at-in_order bytes ts after counted ascend = rw (counted, ascend) refl

pub body_at-disorder : (bytes : List ℕ) (ts : List PropType) (after : List ℕ) → counted_at property_type_at bytes ≡ Some (ts, after) → texts_ascend (names ts) ≡ false → body_at bytes ≡ None
unfolding body_at
body_at-disorder bytes ts after counted disorder = rw (counted, disorder) refl
