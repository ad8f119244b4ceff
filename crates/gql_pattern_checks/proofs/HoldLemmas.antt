-- Names as the code keeps them, each once, against entries as the definitions have them.
use Rattle.std.proofs.Common.{◌≡◌, ℕ, Bool, true, false, ◌||◌, ◌&&◌, List, [], ◌∷◌, ◌++◌, Option, Some, None, refl, sym, ap, subst, ◌∙◌, append_assoc}
use Rattle.std.proofs.Math.Bool.{and-true, or-false}
use Rattle.std.proofs.lemmas.Bool.{and_right}
use Rattle.std.specs.Prelude.{if◌then◌else◌}
use Rattle.std.specs.List.{list_any}
use Rattle.std.proofs.lemmas.List.Folds.{list_any-append}
use Rattle.std.proofs.lemmas.Slice.Eq.{bytes_eq-Decides}
use Rattle.std.proofs.lemmas.List.{append-nil}
use Rattle.gql_values3.specs.Texts.{same_text}
use Rattle.gql_expr_checks.specs.Repeated.{is_among}
use Rattle.gql_norm.specs.NormalPattern.{Part, Node, Edge, Concat, Union, Alt, Quant, Opt, ModeScope, Sides, NoSide, Side}
use Rattle.gql_expr_checks.specs.Machinery.NameList.{with_name}
use Rattle.gql_pattern_checks.specs.Machinery.Scopes.{no_names, with_variable_of, with_part, with_sides}
use Rattle.gql_pattern_checks.specs.declared.scope.Names.{Names}
use Rattle.gql_pattern_checks.proofs.PlaceLemmas.{Entries, entry_of, entries_of, entries_of_sides}

-- a name is among the entries, and it is a group there
abbrev pub has : Entries → List ℕ → Bool
has es x = list_any (λ (e : List ℕ × Bool). same_text x e.0) es

abbrev pub has_group : Entries → List ℕ → Bool
has_group es x = list_any (λ (e : List ℕ × Bool). same_text x e.0 && e.1) es

-- the names say the same, and have these path names
pub record Holds (ps : List (List ℕ)) (s : Names) (es : Entries) : Type 0 where
  pub paths : s.paths ≡ ps
  pub variables : (x : List ℕ) → is_among s.variables x ≡ has es x
  pub groups : (x : List ℕ) → is_among s.groups x ≡ has_group es x

or_with : (b c : Bool) → (c ≡ true → b ≡ true) → b ≡ (b || c)
or_with true c h = refl
or_with false true h = h refl
or_with false false h = refl

pub or_nothing : (b c : Bool) → (b || (c || false)) ≡ (b || c)
or_nothing true c = refl
or_nothing false true = refl
or_nothing false false = refl

-- what is among a list with one name more
pub among_with : (xs : List (List ℕ)) (x y : List ℕ) → is_among (with_name xs x) y ≡ (is_among xs y || same_text y x)
among_with xs x y = by (is_among xs x) refl
  where
    by : (b : Bool) → is_among xs x ≡ b → is_among (if b then xs else xs ++ x ∷ []) y ≡ (is_among xs y || same_text y x)
    by true h = or_with (is_among xs y) (same_text y x) (λ m. ap (is_among xs) ((bytes_eq-Decides y x).0 m) ∙ h)
    by false h = list_any-append (same_text y) xs (x ∷ []) ∙ or_nothing (is_among xs y) (same_text y x)

has_more : (es : Entries) (x : List ℕ) (g : Bool) (y : List ℕ) → has (es ++ (x, g) ∷ []) y ≡ (has es y || same_text y x)
has_more es x g y = list_any-append (λ (e : List ℕ × Bool). same_text y e.0) es ((x, g) ∷ []) ∙ or_nothing (has es y) (same_text y x)

has_group_more : (es : Entries) (x : List ℕ) (g : Bool) (y : List ℕ) → has_group (es ++ (x, g) ∷ []) y ≡ (has_group es y || (same_text y x && g))
has_group_more es x g y = list_any-append (λ (e : List ℕ × Bool). same_text y e.0 && e.1) es ((x, g) ∷ []) ∙ or_nothing (has_group es y) (same_text y x && g)

pub holds_nothing : Holds [] no_names []
holds_nothing = record { paths = refl; variables = λ x. refl; groups = λ x. refl }

pub holds_variable : (g : Bool) (ps : List (List ℕ)) (s : Names) (es : Entries) (v : Option (List ℕ)) → Holds ps s es → Holds ps (with_variable_of g s v) (es ++ entry_of g v)
holds_variable g ps s es None h = subst (λ ds. Holds ps s ds) (sym (append-nil es)) h
holds_variable true ps s es (Some x) h = record {
  paths = h.paths;
  variables = λ y. among_with s.variables x y ∙ ap (λ b. b || same_text y x) (h.variables y) ∙ sym (has_more es x true y);
  groups = λ y. among_with s.groups x y ∙ ap (λ b. b || same_text y x) (h.groups y) ∙ sym (ap (λ b. has_group es y || b) (and-true (same_text y x))) ∙ sym (has_group_more es x true y);
}
holds_variable false ps s es (Some x) h = record {
  paths = h.paths;
  variables = λ y. among_with s.variables x y ∙ ap (λ b. b || same_text y x) (h.variables y) ∙ sym (has_more es x false y);
  groups = λ y. h.groups y ∙ sym (or-false (has_group es y)) ∙ sym (ap (λ b. has_group es y || b) (and_right (same_text y x) false refl)) ∙ sym (has_group_more es x false y);
}

mutual
  pub holds_part : (g : Bool) (ps : List (List ℕ)) (s : Names) (es : Entries) (p : Part) → Holds ps s es → Holds ps (with_part g s p) (es ++ entries_of g p)
  holds_part g ps s es (Node w) h = holds_variable g ps s es w.variable h
  holds_part g ps s es (Edge d w) h = holds_variable g ps s es w.variable h
  holds_part g ps s es (Concat p r) h =
      subst (λ ds. Holds ps (with_part g (with_part g s p) r) ds) (append_assoc es (entries_of g p) (entries_of g r))
      (holds_part g ps (with_part g s p) (es ++ entries_of g p) r (holds_part g ps s es p h))
  holds_part g ps s es (Union p r) h =
      subst (λ ds. Holds ps (with_part g (with_part g s p) r) ds) (append_assoc es (entries_of g p) (entries_of g r))
      (holds_part g ps (with_part g s p) (es ++ entries_of g p) r (holds_part g ps s es p h))
  holds_part g ps s es (Alt ss) h = holds_sides g ps s es ss h
  holds_part g ps s es (Quant b l n) h = holds_part true ps s es b h
  holds_part g ps s es (Opt b) h = holds_part g ps s es b h
  holds_part g ps s es (ModeScope m b c) h = holds_part g ps s es b h

  pub holds_sides : (g : Bool) (ps : List (List ℕ)) (s : Names) (es : Entries) (ss : Sides) → Holds ps s es → Holds ps (with_sides g s ss) (es ++ entries_of_sides g ss)
  holds_sides g ps s es NoSide h = subst (λ ds. Holds ps s ds) (sym (append-nil es)) h
  holds_sides g ps s es (Side p ss) h =
      subst (λ ds. Holds ps (with_sides g (with_part g s p) ss) ds) (append_assoc es (entries_of g p) (entries_of_sides g ss))
      (holds_sides g ps (with_part g s p) (es ++ entries_of g p) ss (holds_part g ps s es p h))
