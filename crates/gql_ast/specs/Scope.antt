-- What names stand for where an expression is evaluated, and which names an expression has.
use Rattle.std.specs.Prelude.{ℕ, Bool, true, false, List, [], ◌∷◌, ◌++◌, find, Option, Some, None}
use Rattle.gql_values3.specs.Datum.{Datum, null}
use Rattle.gql_values3.specs.Texts.{same_text}
use Rattle.gql_values3.specs.declared.table.ColumnKind.{ColumnKind}
use Rattle.gql_values3.specs.declared.table.ColumnKind.TheVariants as kind
use Rattle.gql_ast.specs.Tree.{Tree, Trees, Link, Links, constant, unknown, number, parameter, name, property, paren, listing, count_all, aggregate, call, modulo, coalesce, signed, product, sum, comparing, test, label_test, end_test, negation, conjunction, disjunction, link, no_trees, more_trees, no_links, more_links}

-- a name: what it stands for, and whether that is a group, the elements of a repeated pattern in order
pub record Entry : Type 0 where
  pub name : List ℕ
  pub is_group : Bool
  pub datum : Datum

-- the first entry of a name counts
abbrev pub Scope : Type 0
Scope = List Entry

-- columns of lists of elements are groups
abbrev pub holds_group : ColumnKind → Bool
holds_group kind.Nodes = true
holds_group kind.Edges = true
holds_group _ = false

-- the scope of a row under its columns
abbrev pub row_scope : List (List ℕ × ColumnKind) → List Datum → Scope
row_scope [] ds = []
row_scope (c ∷ cs) [] = []
row_scope (c ∷ cs) (d ∷ ds) = record { name = c.0; is_group = holds_group c.1; datum = d } ∷ row_scope cs ds

-- the first entry of a name, where there is one
abbrev pub entry_of : Scope → List ℕ → Option Entry
entry_of scope x = find (λ (e : Entry). same_text x e.name) scope

-- what a name stands for; one that isn't there stands for NULL
abbrev pub datum_in : Option Entry → Datum
datum_in None = null
datum_in (Some e) = e.datum

-- what a name stands for in a scope
abbrev pub datum_of_name : Scope → List ℕ → Datum
datum_of_name scope x = datum_in (entry_of scope x)

-- the name stands for a group
abbrev pub group_in : Option Entry → Bool
group_in None = false
group_in (Some e) = e.is_group

-- the name stands for a group in a scope
abbrev pub is_group_name : Scope → List ℕ → Bool
is_group_name scope x = group_in (entry_of scope x)

-- within an aggregate over it, a group's name stands for one of its items
abbrev pub with_item : Scope → List ℕ → Datum → Scope
with_item scope x item = record { name = x; is_group = false; datum = item } ∷ scope

-- the names of an expression, in the order of the text
abbrev mutual
  pub names_in : Tree → List (List ℕ)
  names_in (constant d) = []
  names_in unknown = []
  names_in (number n) = []
  names_in (parameter p) = []
  names_in (name x) = x ∷ []
  names_in (property x p) = x ∷ []
  names_in (paren e) = names_in e
  names_in (listing es) = names_in_trees es
  names_in count_all = []
  names_in (aggregate g q e) = names_in e
  names_in (call f e) = names_in e
  names_in (modulo a b) = names_in a ++ names_in b
  names_in (coalesce e es) = names_in e ++ names_in_trees es
  names_in (signed s e) = names_in e
  names_in (product e ls) = names_in e ++ names_in_links ls
  names_in (sum e ls) = names_in e ++ names_in_links ls
  names_in (comparing op a b) = names_in a ++ names_in b
  names_in (test e s q) = names_in e
  names_in (label_test e s l) = names_in e
  names_in (end_test e s end x) = names_in e ++ x ∷ []
  names_in (negation e) = names_in e
  names_in (conjunction e ls) = names_in e ++ names_in_links ls
  names_in (disjunction e ls) = names_in e ++ names_in_links ls

  pub names_in_link : Link → List (List ℕ)
  names_in_link (link op e) = names_in e

  pub names_in_trees : Trees → List (List ℕ)
  names_in_trees no_trees = []
  names_in_trees (more_trees e es) = names_in e ++ names_in_trees es

  pub names_in_links : Links → List (List ℕ)
  names_in_links no_links = []
  names_in_links (more_links l ls) = names_in_link l ++ names_in_links ls

-- the first group that an aggregate's argument names: it is an aggregate over that group, and one over rows where
-- there is none
abbrev pub group_of : Scope → Tree → Option (List ℕ)
group_of scope e = find (is_group_name scope) (names_in e)
