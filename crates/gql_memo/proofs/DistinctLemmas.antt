-- Entries of which no keep stands twice.
use Rattle.std.proofs.Common.{◌≡◌, ◌⊎◌, inl, inr, ℕ, ◌+◌, ◌<◌, ◌≤◌, List, [], ◌∷◌, ◌++◌, take, length, get_or, sym, ap, ◌∙◌, subst, arith}
use Rattle.std.proofs.lemmas.Bool.{cases_lt}
use Rattle.std.proofs.lemmas.List.{get_or_append_left, get_or_at, length-append, map-append, take-append-le}
use Rattle.std.proofs.Math.Seq.{take-append_seam}
use Rattle.gql_memo.specs.Table.{Table}
use Rattle.gql_memo.specs.Machinery.TableParts.{AreDistinct, IsMissing, entry_keep, keeps_in}
use Rattle.gql_memo.specs.declared.entries.Entry.{Entry}

pub distinct_none : AreDistinct []
distinct_none i e h at = absurd (omega (arith, h))

-- an entry more, whose keep is missing
pub distinct_push : (es : List Entry) (e : Entry) → AreDistinct es → IsMissing (entry_keep e) (keeps_in es) → AreDistinct (es ++ e ∷ [])
distinct_push es e distinct missing i f h at = by (cases_lt i (length es))
  where
    by : (i < length es) ⊎ (length es ≤ i) → IsMissing (entry_keep f) (keeps_in (take i (es ++ e ∷ [])))
    by (inl l) =
        subst (λ (ds : List Entry). IsMissing (entry_keep f) (keeps_in ds)) (sym (take-append-le i es (e ∷ []) (omega (arith, l))))
        (distinct i f l (sym (get_or_append_left es (e ∷ []) f i l) ∙ at))
    by (inr g) =
        let long : length (es ++ e ∷ []) ≡ length es + 1 = length-append es (e ∷ []) in
        let last : length es ≡ i = omega (arith, long, h, g) in
        let same : e ≡ f = sym (get_or_at es e [] f i last) ∙ at in
        let before : es ≡ take i (es ++ e ∷ []) = sym (take-append_seam es (e ∷ [])) ∙ ap (λ n. take n (es ++ e ∷ [])) last in
        subst (λ (ds : List Entry). IsMissing (entry_keep f) (keeps_in ds)) before (subst (λ (d : Entry). IsMissing (entry_keep d) (keeps_in es)) same missing)

-- the keep of an entry is missing among those before it
pub missing_before : (es : List Entry) (t : Table) (i : ℕ) (e : Entry) → AreDistinct es → i < length es → get_or es i e ≡ e → t ≡ keeps_in (take i es) → IsMissing (entry_keep e) t
missing_before es t i e distinct h at seen = subst (λ (z : Table). IsMissing (entry_keep e) z) (sym seen) (distinct i e h at)

-- the keeps of the entries with one more
pub keeps_more : (es : List Entry) (e : Entry) → keeps_in (es ++ e ∷ []) ≡ keeps_in es ++ entry_keep e ∷ []
keeps_more es e = map-append entry_keep es (e ∷ [])
