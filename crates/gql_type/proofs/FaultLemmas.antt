-- Names at fault: a set of names answers like the list of them, and a walk that stops at the first name at fault answers it.
use Rattle.std.proofs.Common.{◌≡◌, ℕ, Bool, false, cond, ◌||◌, List, [], ◌∷◌, ◌++◌, None, refl, sym, ap, ◌∙◌}
use Rattle.gql_values3.specs.Texts.{same_text}
use Rattle.gql_ast.specs.declared.graph_type.TypeElement.{TypeElement}
use Rattle.gql_type.specs.Conformance.{contains_name}
use Rattle.gql_type.specs.BodyFaults.{repeated, alias_in, used_in, unknown, aliases_at_fault, first_name}

-- two lists that have the same names
abbrev pub HaveSame : List (List ℕ) → List (List ℕ) → Type 0
HaveSame xs ys = (x : List ℕ) → contains_name xs x ≡ contains_name ys x

-- faults are told by which names are there
pub same_repeated : (before others : List (List ℕ)) → HaveSame before others → (xs : List (List ℕ)) → repeated before xs ≡ repeated others xs
same_repeated before others h [] = refl
same_repeated before others h (x ∷ xs) =
    λ i. cond (h x i) (x ∷ same_repeated before others h xs i) (same_repeated (x ∷ before) (x ∷ others) (λ y j. same_text y x || h y j) xs i)

same_unknown : (known others : List (List ℕ)) → HaveSame known others → (xs : List (List ℕ)) → unknown known xs ≡ unknown others xs
same_unknown known others h [] = refl
same_unknown known others h (x ∷ xs) = λ i. cond (h x i) (same_unknown known others h xs i) (x ∷ same_unknown known others h xs i)

same_behind : (xs before others : List (List ℕ)) → HaveSame before others → HaveSame (xs ++ before) (xs ++ others)
same_behind [] before others h x = h x
same_behind (y ∷ xs) before others h x = λ i. same_text x y || same_behind xs before others h x i

pub same_faults : (known others before others_before : List (List ℕ)) → HaveSame known others → HaveSame before others_before → (es : List TypeElement)
    → aliases_at_fault known before es ≡ aliases_at_fault others others_before es
same_faults known others before others_before h k [] = refl
same_faults known others before others_before h k (e ∷ es) =
    λ i. same_repeated before others_before k (alias_in e) i ++ same_unknown known others h (used_in e) i
    ++ same_faults known others (alias_in e ++ before) (alias_in e ++ others_before) h (same_behind (alias_in e) before others_before k) es i

pub goes_on : (xs ys : List (List ℕ)) → None ≡ first_name xs → first_name (xs ++ ys) ≡ first_name ys
goes_on [] ys h = refl
goes_on (y ∷ xs) ys h = absurd (cc)

pub not_repeated : (before more : List (List ℕ)) (x : List ℕ) (xs : List (List ℕ)) → contains_name before x ≡ false → HaveSame more (x ∷ before) → first_name (repeated more xs) ≡ first_name (repeated before (x ∷ xs))
not_repeated before more x xs h same =
    ap first_name (same_repeated more (x ∷ before) same xs) ∙ sym (ap (λ (b : Bool). first_name (cond b (x ∷ repeated before xs) (repeated (x ∷ before) xs))) h)
