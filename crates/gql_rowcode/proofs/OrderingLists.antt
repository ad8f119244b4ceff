-- What holds of each item of a list, and of each two of them, in lists that are made of others.
use Rattle.std.proofs.Common.{◌≡◌, ◌<◌, List, [], ◌∷◌, ◌++◌, map, length, get_or, sym, ap, ◌∙◌, arith}
use Rattle.std.specs.Prelude.{Contains}
use Rattle.std.specs.List.{AllByRecursion, flat_map}
use Rattle.std.proofs.lemmas.List.{get_or-map, length-map}
use Rattle.std.proofs.lemmas.List.Elements.{Contains-get_or}
use Rattle.std.proofs.lemmas.List.Concat.{flat_map-cons}

-- ---- each item

pub all_always : {X : Type 0} (P : X → Type 0) → ((x : X) → P x) → (xs : List X) → AllByRecursion P xs
all_always P always [] = tt
all_always P always (x ∷ xs) = (always x, all_always P always xs)

pub all_weaker : {X : Type 0} (P Q : X → Type 0) → ((x : X) → P x → Q x) → (xs : List X) → AllByRecursion P xs → AllByRecursion Q xs
all_weaker P Q weaker [] all = tt
all_weaker P Q weaker (x ∷ xs) all = (weaker x all.0, all_weaker P Q weaker xs all.1)

pub all_both : {X : Type 0} (P Q S : X → Type 0) → ((x : X) → P x → Q x → S x) → (xs : List X) → AllByRecursion P xs → AllByRecursion Q xs → AllByRecursion S xs
all_both P Q S both [] p q = tt
all_both P Q S both (x ∷ xs) p q = (both x p.0 q.0, all_both P Q S both xs p.1 q.1)

pub all_append : {X : Type 0} (P : X → Type 0) (xs ys : List X) → AllByRecursion P xs → AllByRecursion P ys → AllByRecursion P (xs ++ ys)
all_append P [] ys here there = there
all_append P (x ∷ xs) ys here there = (here.0, all_append P xs ys here.1 there)

pub all_map : {X Y : Type 0} (P : X → Type 0) (f : Y → X) (ys : List Y) → AllByRecursion (λ y. P (f y)) ys → AllByRecursion P (map f ys)
all_map P f [] all = tt
all_map P f (y ∷ ys) all = (all.0, all_map P f ys all.1)

pub all_of_map : {X Y : Type 0} (P : X → Type 0) (f : Y → X) (ys : List Y) → AllByRecursion P (map f ys) → AllByRecursion (λ y. P (f y)) ys
all_of_map P f [] all = tt
all_of_map P f (y ∷ ys) all = (all.0, all_of_map P f ys all.1)

pub all_flat_map : {X Y : Type 0} (P : X → Type 0) (f : Y → List X) (ys : List Y) → AllByRecursion (λ y. AllByRecursion P (f y)) ys → AllByRecursion P (flat_map f ys)
all_flat_map P f [] all = tt
all_flat_map P f (y ∷ ys) all = rw flat_map-cons (all_append P (f y) (flat_map f ys) all.0 (all_flat_map P f ys all.1))

-- ---- each two items

-- each item of one list stands so to each of another
abbrev pub Across : {X : Type 0} → (X → X → Type 0) → List X → List X → Type 0
Across R xs ys = AllByRecursion (λ x. AllByRecursion (R x) ys) xs

-- each item stands so to those behind it
abbrev pub Pairs : {X : Type 0} → (X → X → Type 0) → List X → Type 0
Pairs R [] = Unit {0}
Pairs R (x ∷ xs) = AllByRecursion (R x) xs × Pairs R xs

pub pairs_append : {X : Type 0} (R : X → X → Type 0) (xs ys : List X) → Pairs R xs → Pairs R ys → Across R xs ys → Pairs R (xs ++ ys)
pairs_append R [] ys here there across = there
pairs_append R (x ∷ xs) ys here there across = (all_append (R x) xs ys here.0 across.0, pairs_append R xs ys here.1 there across.1)

pub pairs_weaker : {X : Type 0} (R S : X → X → Type 0) → ((x y : X) → R x y → S x y) → (xs : List X) → Pairs R xs → Pairs S xs
pairs_weaker R S weaker [] pairs = tt
pairs_weaker R S weaker (x ∷ xs) pairs = (all_weaker (R x) (S x) (weaker x) xs pairs.0, pairs_weaker R S weaker xs pairs.1)

pub pairs_map : {X Y : Type 0} (R : X → X → Type 0) (f : Y → X) (ys : List Y) → Pairs (λ a b. R (f a) (f b)) ys → Pairs R (map f ys)
pairs_map R f [] pairs = tt
pairs_map R f (y ∷ ys) pairs = (all_map (R (f y)) f ys pairs.0, pairs_map R f ys pairs.1)

pub pairs_of_map : {X Y : Type 0} (R : X → X → Type 0) (f : Y → X) (ys : List Y) → Pairs R (map f ys) → Pairs (λ a b. R (f a) (f b)) ys
pairs_of_map R f [] pairs = tt
pairs_of_map R f (y ∷ ys) pairs = (all_of_map (R (f y)) f ys pairs.0, pairs_of_map R f ys pairs.1)

pub across_flat_map : {X Y : Type 0} (R : X → X → Type 0) (f : Y → List X) (xs : List X) (ys : List Y) → AllByRecursion (λ y. Across R xs (f y)) ys → Across R xs (flat_map f ys)
across_flat_map R f xs [] all = all_always (λ x. AllByRecursion (R x) []) (λ x. tt) xs
across_flat_map R f xs (y ∷ ys) all =
    rw flat_map-cons (all_both (λ x. AllByRecursion (R x) (f y)) (λ x. AllByRecursion (R x) (flat_map f ys)) (λ x. AllByRecursion (R x) (f y ++ flat_map f ys)) (λ x. all_append (R x) (f y) (flat_map f ys)) xs all.0 (across_flat_map R f xs ys all.1))

pub pairs_flat_map : {X Y : Type 0} (S : Y → Y → Type 0) (R : X → X → Type 0) (f : Y → List X) → ((a b : Y) → S a b → Across R (f a) (f b)) → (ys : List Y) → AllByRecursion (λ y. Pairs R (f y)) ys → Pairs S ys → Pairs R (flat_map f ys)
pairs_flat_map S R f apart [] own pairs = tt
pairs_flat_map S R f apart (y ∷ ys) own pairs =
    let across : Across R (f y) (flat_map f ys) = across_flat_map R f (f y) ys (all_weaker (S y) (λ z. Across R (f y) (f z)) (apart y) ys pairs.0) in
    rw flat_map-cons (pairs_append R (f y) (flat_map f ys) own.0 (pairs_flat_map S R f apart ys own.1 pairs.1) across)

-- ---- a list that is mapped, and what it contains

pub contains_of_map : {X Y : Type 0} (f : X → Y) (d : X) (xs : List X) (y : Y) → Contains (map f xs) y → (x : X) × Contains xs x × (y ≡ f x)
contains_of_map f d xs y c =
    let within : c.0 < length xs = omega (arith, c.1, length-map xs f) in
    (get_or xs c.0 d, Contains-get_or xs c.0 d within, sym c.2 ∙ get_or-map f xs c.0 d y within)

pub contains_map : {X Y : Type 0} (f : X → Y) (xs : List X) (x : X) → Contains xs x → Contains (map f xs) (f x)
contains_map f xs x c =
    (c.0, omega (arith, c.1, length-map xs f), get_or-map f xs c.0 x (f x) c.1 ∙ ap f c.2)
