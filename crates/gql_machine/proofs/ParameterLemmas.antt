-- Parameters as the code keeps them, and as they are seen.
use Rattle.std.proofs.Common.{◌≡◌, ℕ, Bool, true, false, cond, not, List, [], ◌∷◌, ◌++◌, map, refl, ap, ◌∙◌}
use Rattle.std.specs.List.{filter}
use Rattle.gql_values3.specs.Datum.{Datum}
use Rattle.gql_values3.specs.Texts.{same_text}
use Rattle.gql_machine.specs.SessionState.{set_parameter}

kept_or_not : {A B : Type 0} (g : A → B) (b : Bool) (x : A) (ys : List A) (zs : List B) → map g ys ≡ zs → map g (cond b (x ∷ ys) ys) ≡ cond b (g x ∷ zs) zs
kept_or_not g true x ys zs p = ap (λ t. g x ∷ t) p
kept_or_not g false x ys zs p = p

map-push : {A B : Type 0} (g : A → B) (xs : List A) (y : A) → map g (xs ++ y ∷ []) ≡ map g xs ++ g y ∷ []
map-push g [] y = refl
map-push g (x ∷ xs) y = ap (λ t. g x ∷ t) (map-push g xs y)

module _ {V : Type 0} (f : V → Datum) where
  abbrev seen : List ℕ × V → List ℕ × Datum
  seen q = (q.0, f q.1)

  seen-filter : (p : List ℕ) (xs : List (List ℕ × V)) → map seen (filter (λ q. not (same_text p q.0)) xs) ≡ filter (λ (q : List ℕ × Datum). not (same_text p q.0)) (map seen xs)
  seen-filter p [] = refl
  seen-filter p (x ∷ xs) =
      kept_or_not seen (not (same_text p x.0)) x (filter (λ q. not (same_text p q.0)) xs) (filter (λ (q : List ℕ × Datum). not (same_text p q.0)) (map seen xs)) (seen-filter p xs)

  pub set_seen : (p : List ℕ) (v : V) (xs : List (List ℕ × V)) → map seen (filter (λ q. not (same_text p q.0)) xs ++ (p, v) ∷ []) ≡ set_parameter (map seen xs) p (f v)
  set_seen p v xs = map-push seen (filter (λ q. not (same_text p q.0)) xs) (p, v) ∙ ap (λ t. t ++ (p, f v) ∷ []) (seen-filter p xs)
