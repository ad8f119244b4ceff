-- Labels that are read were spelled, and labels that were spelled are read again.
use Rattle.std.proofs.Common.{◌≡◌, ℕ, List, ◌++◌, Some, None, refl, subst, cond}
use Rattle.gql_values3.specs.Texts.{texts_ascend}
use Rattle.gql_fields.specs.Spelling.{spelled, labels_spelled}
use Rattle.gql_fields.specs.Kept.{IsText, AreKeptLabels}
use Rattle.gql_fields.specs.Machinery.Reading.{text_at, counted_at, labels_at}
use Rattle.gql_fields.proofs.FieldLemmas.{IsBytes, Takes, bind_some, when_some, text_takes, text_again}
use Rattle.gql_fields.proofs.ItemLemmas.{counted_takes, counted_again}

-- labels that are read were spelled
pub labels_take : (bytes : List ℕ) (x : List (List ℕ) × List ℕ) → IsBytes bytes → labels_at bytes ≡ Some x → Takes bytes (labels_spelled x.0) x.1 × AreKeptLabels x.0
unfolding labels_at
labels_take bytes x fits e =
    let b = bind_some (counted_at text_at bytes) (λ labels. cond (texts_ascend labels.0) (Some labels) None) x e in
    let g = when_some (texts_ascend b.0.0) b.0 x b.2 in
    let t = counted_takes spelled IsText text_at text_takes bytes b.0 fits b.1 in
    subst (λ (y : List (List ℕ) × List ℕ). Takes bytes (labels_spelled y.0) y.1 × AreKeptLabels y.0) g.1 (t.0, record { few = t.1.0; ascend = g.0; texts = t.1.1 })

-- labels that were spelled are read
pub labels_again : (labels : List (List ℕ)) (rest : List ℕ) → AreKeptLabels labels → labels_at (labels_spelled labels ++ rest) ≡ Some (labels, rest)
unfolding labels_at
labels_again labels rest kept = rw (counted_again spelled IsText text_at text_again labels rest (kept.few, kept.texts), kept.ascend) refl
