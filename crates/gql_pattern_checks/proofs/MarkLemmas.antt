-- Taking away what came behind the marks leaves what was there.
use Rattle.std.proofs.Common.{◌≡◌, ℕ, Bool, true, false, List, [], ◌∷◌, ◌++◌, Option, Some, None, length, take, refl, ap, ◌∙◌, append_assoc, sym}
use Rattle.std.proofs.lemmas.List.{append-nil}
use Rattle.std.specs.Prelude.{if◌then◌else◌}
use Rattle.gql_expr_checks.specs.Repeated.{is_among}
use Rattle.gql_norm.specs.NormalPattern.{Part, Node, Edge, Concat, Union, Alt, Quant, Opt, ModeScope, Sides, NoSide, Side}
use Rattle.gql_pattern_checks.specs.Machinery.Marks.{marks_of, cut_to}
use Rattle.gql_expr_checks.specs.Machinery.NameList.{with_name}
use Rattle.gql_pattern_checks.specs.Machinery.Scopes.{with_variable_of, with_part, with_sides, with_parts}
use Rattle.gql_pattern_checks.specs.declared.scope.Names.{Names}

take_first : (xs ys : List (List ℕ)) → take (length xs) (xs ++ ys) ≡ xs
take_first [] ys = refl
take_first (x ∷ xs) ys = ap (λ zs. x ∷ zs) (take_first xs ys)

-- the second begins with the first
abbrev Begins : List (List ℕ) → List (List ℕ) → Type 0
Begins xs ys = (more : List (List ℕ)) × (ys ≡ xs ++ more)

stays : (xs : List (List ℕ)) → Begins xs xs
stays xs = ([], sym (append-nil xs))

further : (xs ys zs : List (List ℕ)) → Begins xs ys → Begins ys zs → Begins xs zs
further xs ys zs h k = (h.0 ++ k.0, k.1 ∙ ap (λ ws. ws ++ k.0) h.1 ∙ append_assoc xs h.0 k.0)

named : (xs : List (List ℕ)) (x : List ℕ) → Begins xs (with_name xs x)
named xs x = by (is_among xs x)
  where
    by : (b : Bool) → Begins xs (if b then xs else xs ++ x ∷ [])
    by true = stays xs
    by false = (x ∷ [], refl)

-- so it is with the variables and the groups
record Grows (s t : Names) : Type 0 where
  same : t.paths ≡ s.paths
  variables : Begins s.variables t.variables
  groups : Begins s.groups t.groups

grows_not : (s : Names) → Grows s s
grows_not s = record { same = refl; variables = stays s.variables; groups = stays s.groups }

grows_on : (s t u : Names) → Grows s t → Grows t u → Grows s u
grows_on s t u h k = record {
  same = k.same ∙ h.same;
  variables = further s.variables t.variables u.variables h.variables k.variables;
  groups = further s.groups t.groups u.groups h.groups k.groups;
}

grows_by_variable : (g : Bool) (s : Names) (v : Option (List ℕ)) → Grows s (with_variable_of g s v)
grows_by_variable g s None = grows_not s
grows_by_variable true s (Some x) = record { same = refl; variables = named s.variables x; groups = named s.groups x }
grows_by_variable false s (Some x) = record { same = refl; variables = named s.variables x; groups = stays s.groups }

mutual
  grows_by_part : (g : Bool) (s : Names) (p : Part) → Grows s (with_part g s p)
  grows_by_part g s (Node w) = grows_by_variable g s w.variable
  grows_by_part g s (Edge d w) = grows_by_variable g s w.variable
  grows_by_part g s (Concat p r) = grows_on s (with_part g s p) (with_part g (with_part g s p) r) (grows_by_part g s p) (grows_by_part g (with_part g s p) r)
  grows_by_part g s (Union p r) = grows_on s (with_part g s p) (with_part g (with_part g s p) r) (grows_by_part g s p) (grows_by_part g (with_part g s p) r)
  grows_by_part g s (Alt ss) = grows_by_sides g s ss
  grows_by_part g s (Quant b l n) = grows_by_part true s b
  grows_by_part g s (Opt b) = grows_by_part g s b
  grows_by_part g s (ModeScope m b c) = grows_by_part g s b

  grows_by_sides : (g : Bool) (s : Names) (ss : Sides) → Grows s (with_sides g s ss)
  grows_by_sides g s NoSide = grows_not s
  grows_by_sides g s (Side p ss) = grows_on s (with_part g s p) (with_sides g (with_part g s p) ss) (grows_by_part g s p) (grows_by_sides g (with_part g s p) ss)

grows_by_parts : (g : Bool) (s : Names) (ps : List Part) → Grows s (with_parts g s ps)
grows_by_parts g s [] = grows_not s
grows_by_parts g s (p ∷ ps) = grows_on s (with_part g s p) (with_parts g (with_part g s p) ps) (grows_by_part g s p) (grows_by_parts g (with_part g s p) ps)

cut : (xs ys : List (List ℕ)) → Begins xs ys → take (length xs) ys ≡ xs
cut xs ys h = ap (take (length xs)) h.1 ∙ take_first xs h.0

cut_back : (s t : Names) → Grows s t → cut_to (marks_of s) t ≡ s
cut_back s t h = λ i. record { paths = h.same i; variables = cut s.variables t.variables h.variables i; groups = cut s.groups t.groups h.groups i }

pub variable_cut : (s : Names) (v : Option (List ℕ)) → cut_to (marks_of s) (with_variable_of false s v) ≡ s
variable_cut s v = cut_back s (with_variable_of false s v) (grows_by_variable false s v)

pub part_cut : (s : Names) (p : Part) → cut_to (marks_of s) (with_part false s p) ≡ s
part_cut s p = cut_back s (with_part false s p) (grows_by_part false s p)

pub parts_cut : (s : Names) (ps : List Part) → cut_to (marks_of s) (with_parts false s ps) ≡ s
parts_cut s ps = cut_back s (with_parts false s ps) (grows_by_parts false s ps)
