-- Reading bytes as a text agrees with being UTF-8.
use Rattle.std.proofs.Common.{◌≡◌, ℕ, Bool, true, false, List, Some, None, refl, cond}
use Rattle.std.specs.Str.{IsUtf8, is_utf8}
use Rattle.std.proofs.lemmas.Str.{IsUtf8-from_is_utf8, is_utf8-from_IsUtf8}
use Rattle.gql_fields.specs.Machinery.Reading.{utf8_at}

-- a text is read as itself
pub utf8_at-text : (bytes : List ℕ) → IsUtf8 bytes → utf8_at bytes ≡ Some bytes
unfolding utf8_at
utf8_at-text bytes h = rw (is_utf8-from_IsUtf8 bytes h) refl

by_test : (bytes : List ℕ) (b : Bool) (is_text : b ≡ true → IsUtf8 bytes) (not_text : IsUtf8 bytes → ⊥) → cond b (Some bytes) None ≡ None
by_test bytes true is_text not_text = absurd (not_text (is_text refl))
by_test bytes false is_text not_text = refl

-- what is no text isn't read
pub utf8_at-none : (bytes : List ℕ) → (IsUtf8 bytes → ⊥) → utf8_at bytes ≡ None
unfolding utf8_at
utf8_at-none bytes not_text = by_test bytes (is_utf8 bytes) (IsUtf8-from_is_utf8 bytes) not_text

utf8_cond : (bytes x : List ℕ) (b : Bool) → (b ≡ true → IsUtf8 bytes) → cond b (Some bytes) None ≡ Some x → (x ≡ bytes) × IsUtf8 bytes
utf8_cond bytes x true is_text e = (cc, is_text refl)
utf8_cond bytes x false is_text e = absurd cc

-- what is read is a text
pub utf8_takes : (bytes x : List ℕ) → utf8_at bytes ≡ Some x → (x ≡ bytes) × IsUtf8 bytes
unfolding utf8_at
utf8_takes bytes x e = utf8_cond bytes x (is_utf8 bytes) (IsUtf8-from_is_utf8 bytes) e
