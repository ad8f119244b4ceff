-- What holds of each element of lists that are made of others.
use Rattle.std.proofs.Common.{inl, inr, Bool, true, false, cond, List, [], ◌∷◌, ◌++◌, map, filter, refl, sym, subst}
use Rattle.gql_norm.specs.Selection.{Each, Among}

module _ {X : Type 0} (P : X → Type 0) where
  pub each_append : (xs ys : List X) → Each P xs → Each P ys → Each P (xs ++ ys)
  each_append [] ys h k = k
  each_append (x ∷ xs) ys h k = (h.0, each_append xs ys h.1 k)

  pub each_left : (xs ys : List X) → Each P (xs ++ ys) → Each P xs
  each_left [] ys h = tt
  each_left (x ∷ xs) ys h = (h.0, each_left xs ys h.1)

  pub each_right : (xs ys : List X) → Each P (xs ++ ys) → Each P ys
  each_right [] ys h = h
  each_right (x ∷ xs) ys h = each_right xs ys h.1

  pub each_filter : (test : X → Bool) (xs : List X) → Each P xs → Each P (filter test xs)
  each_filter test [] h = tt
  each_filter test (x ∷ xs) h = by (test x) (each_filter test xs h.1)
    where
      by : (b : Bool) → Each P (filter test xs) → Each P (cond b (x ∷ filter test xs) (filter test xs))
      by true k = (h.0, k)
      by false k = k

  pub each_of : (xs : List X) → ((x : X) → Among x xs → P x) → Each P xs
  each_of [] f = tt
  each_of (x ∷ xs) f = (f x (inl refl), each_of xs (λ y i. f y (inr i)))

  pub of_each : (xs : List X) (x : X) → Each P xs → Among x xs → P x
  of_each [] x h i = elim i [ ]
  of_each (y ∷ ys) x h (inl e) = subst P (sym e) h.0
  of_each (y ∷ ys) x h (inr i) = of_each ys x h.1 i

pub each_more : {X : Type 0} (P Q : X → Type 0) → ((x : X) → P x → Q x) → (xs : List X) → Each P xs → Each Q xs
each_more P Q f [] h = tt
each_more P Q f (x ∷ xs) h = (f x h.0, each_more P Q f xs h.1)

pub each_map : {X Y : Type 0} (P : Y → Type 0) (f : X → Y) (xs : List X) → Each (λ x. P (f x)) xs → Each P (map f xs)
each_map P f [] h = tt
each_map P f (x ∷ xs) h = (h.0, each_map P f xs h.1)

pub each_of_map : {X Y : Type 0} (P : Y → Type 0) (f : X → Y) (xs : List X) → Each P (map f xs) → Each (λ x. P (f x)) xs
each_of_map P f [] h = tt
each_of_map P f (x ∷ xs) h = (h.0, each_of_map P f xs h.1)

pub each_all : {X : Type 0} (P : X → Type 0) → ((x : X) → P x) → (xs : List X) → Each P xs
each_all P f xs = each_of P xs (λ x i. f x)

pub each_and : {X : Type 0} (P Q : X → Type 0) (xs : List X) → Each P xs → Each Q xs → Each (λ x. P x × Q x) xs
each_and P Q [] h k = tt
each_and P Q (x ∷ xs) h k = ((h.0, k.0), each_and P Q xs h.1 k.1)
