-- How the logic tells label expressions apart: each has a code of its own.
use Rattle.std.specs.Prelude.{◌≡◌, refl}
use Rattle.std.specs.Coded.{Coded}
use Rattle.std.proofs.Common.{ap}
use base.Stored.{Gv, gnil, gnum, gcons}
use Rattle.gql_ast.specs.Machinery.CodeParts.{coded_bytes, head, tail, tag, shape, apart}
use Rattle.gql_ast.specs.Label.{Label, Labels, name, wildcard, paren, negation, conjunction, disjunction, no_labels, more_labels}

abbrev mutual
  pub label_code : Label → Gv
  label_code (name a0) = gcons (gnum 0) (coded_bytes.code a0)
  label_code wildcard = gcons (gnum 1) gnil
  label_code (paren a0) = gcons (gnum 2) (label_code a0)
  label_code (negation a0) = gcons (gnum 3) (label_code a0)
  label_code (conjunction a0 a1) = gcons (gnum 4) (gcons (label_code a0) (labels_code a1))
  label_code (disjunction a0 a1) = gcons (gnum 5) (gcons (label_code a0) (labels_code a1))

  pub labels_code : Labels → Gv
  labels_code no_labels = gnil
  labels_code (more_labels x xs) = gcons (label_code x) (labels_code xs)

-- two values of one code are one value
mutual
  pub label_inj : (x y : Label) → label_code x ≡ label_code y → x ≡ y
  label_inj (name a0) (name b0) p = λ i. name (coded_bytes.inj a0 b0 (ap (λ g. tail g) p) i)
  label_inj (name a0) _ p = absurd (apart tag p refl)
  label_inj wildcard wildcard p = refl
  label_inj wildcard _ p = absurd (apart tag p refl)
  label_inj (paren a0) (paren b0) p = λ i. paren (label_inj a0 b0 (ap (λ g. tail g) p) i)
  label_inj (paren a0) _ p = absurd (apart tag p refl)
  label_inj (negation a0) (negation b0) p = λ i. negation (label_inj a0 b0 (ap (λ g. tail g) p) i)
  label_inj (negation a0) _ p = absurd (apart tag p refl)
  label_inj (conjunction a0 a1) (conjunction b0 b1) p = λ i. conjunction (label_inj a0 b0 (ap (λ g. head (tail g)) p) i) (labels_inj a1 b1 (ap (λ g. tail (tail g)) p) i)
  label_inj (conjunction a0 a1) _ p = absurd (apart tag p refl)
  label_inj (disjunction a0 a1) (disjunction b0 b1) p = λ i. disjunction (label_inj a0 b0 (ap (λ g. head (tail g)) p) i) (labels_inj a1 b1 (ap (λ g. tail (tail g)) p) i)
  label_inj (disjunction a0 a1) _ p = absurd (apart tag p refl)

  pub labels_inj : (x y : Labels) → labels_code x ≡ labels_code y → x ≡ y
  labels_inj no_labels no_labels p = refl
  labels_inj no_labels _ p = absurd (apart shape p refl)
  labels_inj (more_labels x xs) (more_labels y ys) p = λ i. more_labels (label_inj x y (ap (λ g. head g) p) i) (labels_inj xs ys (ap (λ g. tail g) p) i)
  labels_inj (more_labels x xs) _ p = absurd (apart shape p refl)

abbrev pub coded_label : Coded Label
coded_label = record { code = label_code; inj = label_inj }
