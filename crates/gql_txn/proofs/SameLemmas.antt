-- The test whether two lists of records are one decides it.
use Rattle.std.proofs.Common.{◌≡◌, ◌≢◌, ◌↔◌, Bool, true, false, List, length, sym, ap, ◌∙◌}
use Rattle.std.specs.Bool.{Decides}
use Rattle.std.specs.Cmp.Lexicographic.{pointwise_decides, unequal}
use Rattle.std.proofs.lemmas.Bool.{and_from, and_parts}
use Rattle.gql_values3.specs.Texts.{same_text}
use Rattle.gql_values3.proofs.WordLemmas.{same_is}
use Rattle.gql_ports.specs.declared.stored.Record.{Record}
use Rattle.gql_rowcode.proofs.NameLemmas.{text_same}
use Rattle.gql_txn.specs.Machinery.Changes.{same_record, same_records}

record_is : (a b : Record) → same_record a b ≡ true → a ≡ b
record_is a b h =
    let parts = and_parts (same_text a.key b.key) (same_text a.value b.value) h in
    let keys : a.key ≡ b.key = same_is a.key b.key parts.0 in
    let values : a.value ≡ b.value = same_is a.value b.value parts.1 in
    λ i. record { key = keys i; value = values i }

record_same : (a b : Record) → a ≡ b → same_record a b ≡ true
record_same a b e =
    ap (same_record a) (sym e) ∙ and_from (same_text a.key a.key) (same_text a.value a.value) (text_same a.key) (text_same a.value)

record_decides : (a b : Record) → Decides (same_record a b) (a ≡ b)
record_decides a b = (record_is a b, record_same a b)

pub same_decides : (before after : List Record) (b : Bool) → b ≡ same_records before after → (b ≡ true) ↔ (after ≡ before)
same_decides before after b is =
    let decides = pointwise_decides record_decides before after in
    (λ h. sym (decides.0 (sym is ∙ h)), λ e. is ∙ decides.1 (sym e))

-- lists of two lengths are not the same
pub lengths_differ : (some others : List Record) → length some ≢ length others → false ≡ same_records some others
lengths_differ some others differ = sym (unequal same_record some others differ)
