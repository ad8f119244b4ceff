use Rattle.std.proofs.Common.{rules, ◌+◌, ◌-◌, length}
use Rattle.std.proofs.lemmas.Str.{IsUtf8-had, IsUtf8-append}
use Rattle.std.proofs.lemmas.Slice.{take-put_mid}
use Rattle.gql_values3.proofs.short_text.ShortText.push_str.Goals as goal

-- the text that was there, and the new one behind it
pub invariant_of-self : goal.invariant_of-self
invariant_of-self c =
    let added = c.copy_from_slice.ensures.after in
    let front = take-put_mid c.self.inside.len (c.self.inside.len + length c.args.more.now - c.self.inside.len) c.self.inside.bytes c.copy_from_slice.new.self (c.self.inside.len + length c.args.more.now) (search rules) (search rules) in
    (search rules, ∣ rw front (rw added (rw c.as_bytes.ensures.value (IsUtf8-append _ _ (IsUtf8-had _ c.self.invariant.1) c.utf8.more))) ∣₁)
