-- Lengths: how far the parts of comments, names and quoted texts go from the front of some bytes.
use Rattle.std.specs.Prelude.{ℕ, zero, suc, ◌+◌, ◌-◌, Bool, true, false, ◌&&◌, ◌||◌, ◌==◌, if◌then◌else◌, List, [], ◌∷◌, codes, Option, None, Some}
use Rattle.std.specs.List.{position_or_len}
use Rattle.std.specs.Option.{option_map, option_map_or}
use Rattle.unicode_ident.specs.Ident.{is_xid_start, is_xid_continue}
use Rattle.bstr.specs.Utf8.{decoded}

-- the bytes begin with the text
abbrev pub begins : List ℕ → List ℕ → Bool
begins [] bs = true
begins (x ∷ xs) [] = false
begins (x ∷ xs) (b ∷ bs) = (x == b) && begins xs bs

-- how many bytes stand before the next line feed, which is 10, or before the end
abbrev pub line_length : List ℕ → ℕ
line_length bs = position_or_len (λ b. b == 10) bs

-- how many bytes stand before the first `*/`
abbrev pub block_length : List ℕ → Option ℕ
block_length [] = None
block_length (b ∷ bs) = if begins (codes "*/") (b ∷ bs) then Some 0 else option_map (λ n. n + 1) (block_length bs)

-- how many bytes stand before the closing quote: a backslash, which is 92, takes the next byte with it, and a doubled
-- quote closes nothing
abbrev pub quoted_length : ℕ → List ℕ → Option ℕ
quoted_length quote [] = None
quoted_length quote (b ∷ []) = if b == quote then Some 0 else None
quoted_length quote (b ∷ c ∷ bs) =
    if b == 92 then option_map (λ n. n + 2) (quoted_length quote bs)
    else (if b == quote then (if c == quote then option_map (λ n. n + 2) (quoted_length quote bs) else Some 0)
    else option_map (λ n. n + 1) (quoted_length quote (c ∷ bs)))

-- the bytes begin with a character in UTF-8 that passes the test
unfoldable pub first_passes : (ℕ → Bool) → List ℕ → Bool
first_passes test bs = option_map_or test (decoded bs).char false

-- how many bytes their first character takes
unfoldable pub first_size : List ℕ → ℕ
first_size bs = (decoded bs).size

-- a name may begin with the character: `_` is 95
unfoldable pub may_start : ℕ → Bool
may_start c = is_xid_start c || (c == 95)

-- how many bytes the characters take that may go on with a name; the first bytes, skip of them, belong to the one before
abbrev pub continue_length : ℕ → List ℕ → ℕ
continue_length skip [] = 0
continue_length (suc skip) (b ∷ bs) = suc (continue_length skip bs)
continue_length zero (b ∷ bs) =
    if first_passes is_xid_continue (b ∷ bs) then suc (continue_length (first_size (b ∷ bs) - 1) bs) else 0

-- how many bytes the name takes that the bytes begin with
abbrev pub name_length : List ℕ → Option ℕ
name_length bs = if first_passes may_start bs then Some (continue_length (first_size bs) bs) else None
