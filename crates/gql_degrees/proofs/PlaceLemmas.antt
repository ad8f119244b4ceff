-- Places at fault of one name: the least of those in a list, and how lists are put together.
use Rattle.std.proofs.Common.{◌≡◌, ℕ, min, Bool, true, false, ◌||◌, List, [], ◌∷◌, ◌++◌, map, flat_map, find, is_some, Option, Some, None, refl, sym, ap, ◌∙◌, arith}
use Rattle.std.specs.Prelude.{option_map, if◌then◌else◌}
use Rattle.gql_values3.specs.Texts.{same_text}
use Rattle.gql_values3.proofs.WordLemmas.{same_is}
use Rattle.gql_norm.specs.Declaration.{Declared}
use Rattle.gql_norm.specs.JoinDefects.{Spot, first_place}
use Rattle.gql_degrees.specs.Machinery.JoinWalk.{sooner, former, place_if}

-- the lesser of places
pub sooner_assoc : (a b c : Option ℕ) → sooner a (sooner b c) ≡ sooner (sooner a b) c
sooner_assoc None b c = refl
sooner_assoc (Some a) None c = refl
sooner_assoc (Some a) (Some b) None = refl
sooner_assoc (Some a) (Some b) (Some c) = ap Some (lesser a b c)
  where
    lesser : (a b c : ℕ) → min a (min b c) ≡ min (min a b) c
    lesser a b c = omega arith

pub sooner_none : (a : Option ℕ) → sooner a None ≡ a
sooner_none None = refl
sooner_none (Some a) = refl

pub sooner_comm : (a b : Option ℕ) → sooner a b ≡ sooner b a
sooner_comm None b = sym (sooner_none b)
sooner_comm (Some a) None = refl
sooner_comm (Some a) (Some b) = ap Some (lesser a b)
  where
    lesser : (a b : ℕ) → min a b ≡ min b a
    lesser a b = omega arith

pub sooner_same : (a : Option ℕ) → sooner a a ≡ a
sooner_same None = refl
sooner_same (Some a) = ap Some (lesser a)
  where
    lesser : (a : ℕ) → min a a ≡ a
    lesser a = omega arith

pub sooner_cross : (a b c d : Option ℕ) → sooner (sooner a b) (sooner c d) ≡ sooner (sooner a c) (sooner b d)
sooner_cross a b c d =
    sym (sooner_assoc a b (sooner c d))
    ∙ ap (sooner a) (sooner_assoc b c d ∙ ap (λ z. sooner z d) (sooner_comm b c) ∙ sym (sooner_assoc c b d))
    ∙ sooner_assoc a c (sooner b d)

pub former_none : (a : Option ℕ) → former a None ≡ a
former_none None = refl
former_none (Some a) = refl

pub place_if-none : (b : Bool) → place_if b None ≡ None
place_if-none true = refl
place_if-none false = refl

pub place_if-either : (b c : Bool) (place : Option ℕ) → place_if (b || c) place ≡ sooner (place_if b place) (place_if c place)
place_if-either true true place = sym (sooner_same place)
place_if-either true false place = sym (sooner_none place)
place_if-either false c place = refl

-- the least place of a name
abbrev pub place_of : List ℕ → Spot → Option ℕ
place_of x s = if same_text x s.1 then Some s.0 else None

abbrev pub least_of : List ℕ → List Spot → Option ℕ
least_of x [] = None
least_of x (s ∷ ss) = sooner (place_of x s) (least_of x ss)

pub least_append : (x : List ℕ) (ss ts : List Spot) → least_of x (ss ++ ts) ≡ sooner (least_of x ss) (least_of x ts)
least_append x [] ts = refl
least_append x (s ∷ ss) ts = ap (sooner (place_of x s)) (least_append x ss ts) ∙ sooner_assoc (place_of x s) (least_of x ss) (least_of x ts)

-- the first place of a name
abbrev pub first_named : List ℕ → List Spot → Option ℕ
first_named x ss = option_map (λ (s : Spot). s.0) (find (λ (s : Spot). same_text x s.1) ss)

abbrev pub spot_of : Declared → Spot
spot_of d = (d.place, d.name)

pub first_append : (x : List ℕ) (ss ts : List Spot) → first_named x (ss ++ ts) ≡ former (first_named x ss) (first_named x ts)
first_append x [] ts = refl
first_append x (s ∷ ss) ts = by (same_text x s.1) (first_append x ss ts)
  where
    by : (b : Bool) → first_named x (ss ++ ts) ≡ former (first_named x ss) (first_named x ts)
        → option_map (λ (s : Spot). s.0) (if b then Some s else find (λ (s : Spot). same_text x s.1) (ss ++ ts))
        ≡ former (option_map (λ (s : Spot). s.0) (if b then Some s else find (λ (s : Spot). same_text x s.1) ss)) (first_named x ts)
    by true h = refl
    by false h = h

pub first_place-spots : (x : List ℕ) (ds : List Declared) → first_place x ds ≡ first_named x (map spot_of ds)
first_place-spots x [] = refl
first_place-spots x (d ∷ ds) = by (same_text x d.name) (first_place-spots x ds)
  where
    by : (b : Bool) → first_place x ds ≡ first_named x (map spot_of ds)
        → option_map (λ (d : Declared). d.place) (if b then Some d else find (λ (d : Declared). same_text x d.name) ds)
        ≡ option_map (λ (s : Spot). s.0) (if b then Some (spot_of d) else find (λ (s : Spot). same_text x s.1) (map spot_of ds))
    by true h = refl
    by false h = h

-- of lists for each declaration, the one of the name counts, if it is declared
pub least_of_each : (x : List ℕ) (g : List ℕ → List Spot) → ((y : List ℕ) → same_text x y ≡ false → least_of x (g y) ≡ None) → (ds : List Declared)
    → least_of x (flat_map (λ (d : Declared). g d.name) ds) ≡ place_if (is_some (first_named x (map spot_of ds))) (least_of x (g x))
least_of_each x g h [] = refl
least_of_each x g h (d ∷ ds) = least_append x (g d.name) (flat_map (λ (d : Declared). g d.name) ds) ∙ by (same_text x d.name) refl (least_of_each x g h ds)
  where
    there : (b : Bool) → sooner (least_of x (g x)) (place_if b (least_of x (g x))) ≡ least_of x (g x)
    there true = sooner_same (least_of x (g x))
    there false = sooner_none (least_of x (g x))

    by : (b : Bool) → same_text x d.name ≡ b → least_of x (flat_map (λ (d : Declared). g d.name) ds) ≡ place_if (is_some (first_named x (map spot_of ds))) (least_of x (g x))
        → sooner (least_of x (g d.name)) (least_of x (flat_map (λ (d : Declared). g d.name) ds))
        ≡ place_if (is_some (option_map (λ (s : Spot). s.0) (if b then Some (spot_of d) else find (λ (s : Spot). same_text x s.1) (map spot_of ds)))) (least_of x (g x))
    by true e k = (λ i. sooner (least_of x (g (sym (same_is x d.name e) i))) (k i)) ∙ there (is_some (first_named x (map spot_of ds)))
    by false e k = (λ i. sooner (h d.name e i) (k i))
