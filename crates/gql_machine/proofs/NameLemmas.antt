-- Refusals by whether a name stands, and what is seen of a graph under its name.
use Rattle.std.proofs.Common.{◌≡◌, ℕ, Bool, true, false, not, cond, List, [], ◌∷◌, map, Option, Some, None, refl, ap}
use Rattle.std.specs.Prelude.{is_some, if◌then◌else◌, option_map, find}
use Rattle.gql_values3.specs.Texts.{same_text}
use Rattle.gql_ast.specs.declared.refusal.Refusal.TheVariants as refusal
use Rattle.gql_graph.specs.Bare.{bare, bare_held}
use Rattle.gql_graph.specs.Catalog.{CatalogGraph, CatalogData, named, held_in, type_in, without_named, without_graph, without_type}
use Rattle.gql_graph.specs.declared.held.Held.{Held}
use Rattle.gql_machine.specs.StateRefusals.{missing_if, has_type}

-- what is missing under this name
pub missing : {X : Type 0} (name : List ℕ) (o : Option X) → (if is_some o then None else Some (refusal.NoSuch name)) ≡ missing_if name o
missing name None = refl
missing name (Some x) = refl

-- where none is missing, there is one
pub is_there : {X : Type 0} (name : List ℕ) (o : Option X) → missing_if name o ≡ None → is_some o ≡ true
is_there name None e = absurd (cc)
is_there name (Some x) e = refl

pub not_there : {X : Type 0} (o : Option X) → is_some o ≡ false → o ≡ None
not_there None e = refl
not_there (Some x) e = absurd (cc)

-- where nothing has the name, nothing is taken away
module _ {X : Type 0} (name : List ℕ) where
  stays_case : (b : Bool) (y : List ℕ × X) (ys zs : List (List ℕ × X)) (r : Option (List ℕ × X)) → option_map (λ (z : List ℕ × X). z.1) (cond b (Some y) r) ≡ None
      → (option_map (λ (z : List ℕ × X). z.1) r ≡ None → zs ≡ ys) → cond (not b) (y ∷ zs) zs ≡ y ∷ ys
  stays_case true y ys zs r e more = absurd (cc)
  stays_case false y ys zs r e more = ap (λ ws. y ∷ ws) (more e)

  pub without_none : (ys : List (List ℕ × X)) → named name ys ≡ None → without_named name ys ≡ ys
  without_none [] e = refl
  without_none (y ∷ ys) e =
      stays_case (same_text name y.0) y ys (without_named name ys) (find (λ (z : List ℕ × X). same_text name z.0) ys) e (without_none ys)

pub without_no_graph : (name : List ℕ) (c : CatalogData) → held_in c name ≡ None → without_graph name c ≡ c
without_no_graph name c e = ap (λ gs. record c { graphs = gs }) (without_none name c.graphs e)

pub without_no_type : (name : List ℕ) (c : CatalogData) → type_in c name ≡ None → without_type name c ≡ c
without_no_type name c e = ap (λ ts. record c { types = ts }) (without_none name c.types e)

-- the least graph of a type, as the catalog keeps its graphs
module _ (name : List ℕ) where
  first_case : (b : Bool) (g : List ℕ × Held) (r : Option (List ℕ × Held)) (s : Option (List ℕ × CatalogGraph))
      → option_map (λ (p : List ℕ × Held). p.0) r ≡ option_map (λ (p : List ℕ × CatalogGraph). p.0) s
      → option_map (λ (p : List ℕ × Held). p.0) (cond b (Some g) r) ≡ option_map (λ (p : List ℕ × CatalogGraph). p.0) (cond b (Some (bare g)) s)
  first_case true g r s h = refl
  first_case false g r s h = h

  pub first_seen : (gs : List (List ℕ × Held)) → option_map (λ (p : List ℕ × Held). p.0) (find (λ (p : List ℕ × Held). has_type name (bare_held p.1)) gs)
      ≡ option_map (λ (p : List ℕ × CatalogGraph). p.0) (find (λ (p : List ℕ × CatalogGraph). has_type name p.1) (map bare gs))
  first_seen [] = refl
  first_seen (g ∷ gs) =
      first_case (has_type name (bare_held g.1)) g (find (λ (p : List ℕ × Held). has_type name (bare_held p.1)) gs) (find (λ (p : List ℕ × CatalogGraph). has_type name p.1) (map bare gs)) (first_seen gs)
