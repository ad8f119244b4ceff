-- How the logic tells parts apart: each has a code of its own.
use Rattle.std.specs.Prelude.{◌≡◌, ℕ, List, Option, refl}
use Rattle.std.specs.Coded.{Coded, code_by, coded×, coded_ℕ, coded_list, coded_option}
use Rattle.std.proofs.Common.{ap}
use base.Stored.{Gv, gnil, gnum, gcons}
use Rattle.gql_ast.specs.Machinery.CodeParts.{coded_bytes, head, tail, tag, shape, apart}
use Rattle.gql_ast.specs.Label.{Label}
use Rattle.gql_ast.specs.Machinery.LabelCode.{coded_label}
use Rattle.gql_ast.specs.Tree.{Tree}
use Rattle.gql_ast.specs.Machinery.TreeCode.{coded_tree}
use Rattle.gql_ast.specs.contracts.mode.Mode as modes
use Rattle.gql_ast.specs.contracts.pattern.Direction as directions
use Rattle.gql_norm.specs.NormalPattern.{Predicate, PropertyIs, Holds, ElementPattern, Part, Node, Edge, Concat, Union, Alt, Quant, Opt, ModeScope, Sides, NoSide, Side}

abbrev predicate_code : Predicate → Gv
predicate_code (PropertyIs k e) = gcons (gnum 0) (gcons (coded_bytes.code k) (coded_tree.code e))
predicate_code (Holds e) = gcons (gnum 1) (coded_tree.code e)

pub predicate_inj : (x y : Predicate) → predicate_code x ≡ predicate_code y → x ≡ y
predicate_inj (PropertyIs k e) (PropertyIs l f) p = λ i. PropertyIs (coded_bytes.inj k l (ap (λ g. head (tail g)) p) i) (coded_tree.inj e f (ap (λ g. tail (tail g)) p) i)
predicate_inj (PropertyIs k e) _ p = absurd (apart tag p refl)
predicate_inj (Holds e) (Holds f) p = ap Holds (coded_tree.inj e f (ap (λ g. tail g) p))
predicate_inj (Holds e) _ p = absurd (apart tag p refl)

abbrev coded_predicate : Coded Predicate
coded_predicate = record { code = predicate_code; inj = predicate_inj }

-- an element pattern is stored as its three parts
abbrev pub coded_element : Coded ElementPattern
coded_element =
    code_by (Option (List ℕ) × (Option Label × List Predicate))
    (coded× (coded_option coded_bytes) (coded× (coded_option coded_label) (coded_list coded_predicate)))
    (λ w. (w.variable, (w.labels, w.predicates)))
    (λ p. record { variable = p.0; labels = p.1.0; predicates = p.1.1 })
    (λ _. refl)

abbrev coded_most : Coded (Option ℕ)
coded_most = coded_option coded_ℕ

abbrev coded_where : Coded (Option Tree)
coded_where = coded_option coded_tree

abbrev mutual
  pub part_code : Part → Gv
  part_code (Node a0) = gcons (gnum 0) (coded_element.code a0)
  part_code (Edge a0 a1) = gcons (gnum 1) (gcons (directions.the_row.coded.code a0) (coded_element.code a1))
  part_code (Concat a0 a1) = gcons (gnum 2) (gcons (part_code a0) (part_code a1))
  part_code (Union a0 a1) = gcons (gnum 3) (gcons (part_code a0) (part_code a1))
  part_code (Alt a0) = gcons (gnum 4) (sides_code a0)
  part_code (Quant a0 a1 a2) = gcons (gnum 5) (gcons (part_code a0) (gcons (coded_ℕ.code a1) (coded_most.code a2)))
  part_code (Opt a0) = gcons (gnum 6) (part_code a0)
  part_code (ModeScope a0 a1 a2) = gcons (gnum 7) (gcons (modes.the_row.coded.code a0) (gcons (part_code a1) (coded_where.code a2)))

  pub sides_code : Sides → Gv
  sides_code NoSide = gnil
  sides_code (Side p ss) = gcons (part_code p) (sides_code ss)

-- two values of one code are one value
mutual
  pub part_inj : (x y : Part) → part_code x ≡ part_code y → x ≡ y
  part_inj (Node a0) (Node b0) p = λ i. Node (coded_element.inj a0 b0 (ap (λ g. tail g) p) i)
  part_inj (Node a0) _ p = absurd (apart tag p refl)
  part_inj (Edge a0 a1) (Edge b0 b1) p = λ i. Edge (directions.the_row.coded.inj a0 b0 (ap (λ g. head (tail g)) p) i) (coded_element.inj a1 b1 (ap (λ g. tail (tail g)) p) i)
  part_inj (Edge a0 a1) _ p = absurd (apart tag p refl)
  part_inj (Concat a0 a1) (Concat b0 b1) p = λ i. Concat (part_inj a0 b0 (ap (λ g. head (tail g)) p) i) (part_inj a1 b1 (ap (λ g. tail (tail g)) p) i)
  part_inj (Concat a0 a1) _ p = absurd (apart tag p refl)
  part_inj (Union a0 a1) (Union b0 b1) p = λ i. Union (part_inj a0 b0 (ap (λ g. head (tail g)) p) i) (part_inj a1 b1 (ap (λ g. tail (tail g)) p) i)
  part_inj (Union a0 a1) _ p = absurd (apart tag p refl)
  part_inj (Alt a0) (Alt b0) p = λ i. Alt (sides_inj a0 b0 (ap (λ g. tail g) p) i)
  part_inj (Alt a0) _ p = absurd (apart tag p refl)
  part_inj (Quant a0 a1 a2) (Quant b0 b1 b2) p = λ i. Quant (part_inj a0 b0 (ap (λ g. head (tail g)) p) i) (coded_ℕ.inj a1 b1 (ap (λ g. head (tail (tail g))) p) i) (coded_most.inj a2 b2 (ap (λ g. tail (tail (tail g))) p) i)
  part_inj (Quant a0 a1 a2) _ p = absurd (apart tag p refl)
  part_inj (Opt a0) (Opt b0) p = λ i. Opt (part_inj a0 b0 (ap (λ g. tail g) p) i)
  part_inj (Opt a0) _ p = absurd (apart tag p refl)
  part_inj (ModeScope a0 a1 a2) (ModeScope b0 b1 b2) p = λ i. ModeScope (modes.the_row.coded.inj a0 b0 (ap (λ g. head (tail g)) p) i) (part_inj a1 b1 (ap (λ g. head (tail (tail g))) p) i) (coded_where.inj a2 b2 (ap (λ g. tail (tail (tail g))) p) i)
  part_inj (ModeScope a0 a1 a2) _ p = absurd (apart tag p refl)

  pub sides_inj : (x y : Sides) → sides_code x ≡ sides_code y → x ≡ y
  sides_inj NoSide NoSide p = refl
  sides_inj NoSide _ p = absurd (apart shape p refl)
  sides_inj (Side x xs) (Side y ys) p = λ i. Side (part_inj x y (ap (λ g. head g) p) i) (sides_inj xs ys (ap (λ g. tail g) p) i)
  sides_inj (Side x xs) _ p = absurd (apart shape p refl)

abbrev pub coded_part : Coded Part
coded_part = record { code = part_code; inj = part_inj }
