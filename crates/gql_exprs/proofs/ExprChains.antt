-- Chains of expressions: a level that is read by sides and operators is sound and complete where its sides are.
use Rattle.std.proofs.Common.{◌≡◌, ℕ, ◌≤◌, ◌⊎◌, inl, inr, Bool, true, List, [], ◌∷◌, length, Option, Some, refl, sym, ap, subst, arith}
use Rattle.gql_lexer.specs.declared.lexeme.Lexeme.{Lexeme}
use Rattle.gql_ast.specs.Tree.{Tree, Trees, Link, Links, trees_of, links_of, items_of_trees, items_of_links, link, no_trees, more_trees, no_links, more_links}
use Rattle.gql_ast.specs.declared.words.Operator.{Operator}
use Rattle.gql_front.specs.Reading.{Reader, step, chain}
use Rattle.gql_front.proofs.Found.{Found, Sound, Complete, Shrinks, or_op_of, is_there, StepIs, step_goes, step_sound, step_complete}
use Rattle.gql_front.proofs.Chains.{Consumes, Many, Read, operators_apart, sequence_read, sequence_found}
use Rattle.gql_exprs.specs.Grammar.{rank, IsMany, Is, IsSteps}
use Rattle.gql_exprs.specs.Machinery.LeafReaders.{chain_or_side}
use Rattle.gql_exprs.proofs.ExprShorter.{is_shorter}

pub links_of-items_of_links : (ls : Links) → links_of (items_of_links ls) ≡ ls
links_of-items_of_links no_links = refl
links_of-items_of_links (more_links l ls) = ap (λ z. more_links l z) (links_of-items_of_links ls)

pub trees_of-items_of_trees : (es : Trees) → trees_of (items_of_trees es) ≡ es
trees_of-items_of_trees no_trees = refl
trees_of-items_of_trees (more_trees e es) = ap (λ z. more_trees e z) (trees_of-items_of_trees es)

-- an expression of at most a level
pub record At (k : ℕ) (x : Tree) (ts r : List Lexeme) : Type 0 where
  pub ranked : rank x ≤ k
  pub derived : Is x ts r

pub at_consumes : (k : ℕ) → Consumes (At k)
at_consumes k x ts r h = is_shorter x ts r h.derived

pub at_shrinks : (k : ℕ) (p : Reader Tree) → Sound (At k) p → Shrinks p
at_shrinks k p sound ts x r e = is_shorter x ts r (sound ts x r e).derived

-- a reader of the expressions of at most a level, on at most n lexemes
pub record Reads (n k : ℕ) (g : Lexeme → Bool) (p : Reader Tree) : Type 0 where
  pub sound : Sound (At k) p
  pub complete : Complete n (At k) g p

-- a chain: its first side, and further ones
pub record IsChain (k : ℕ) (op : Lexeme → Option Operator) (e : Tree) (ls : Links) (ts r : List Lexeme) : Type 0 where
  pub middle : List Lexeme
  pub first : At k e ts middle
  pub many : IsMany ls
  pub others : IsSteps ls k op middle r

-- what derives at a level is a side of the level below, or a chain of such sides
abbrev pub SideOrChain : ℕ → (Lexeme → Option Operator) → (Tree → Links → Tree) → Tree → List Lexeme → List Lexeme → Type 0
SideOrChain k op node y ts s = At k y ts s ⊎ ((e : Tree) × (ls : Links) × (node e ls ≡ y) × IsChain k op e ls ts s)

abbrev LinksAre : ℕ → (Lexeme → Option Operator) → List Link → List Lexeme → List Lexeme → Type 0
LinksAre k op ls ts r = IsSteps (links_of ls) k op ts r

links_are : (k : ℕ) (op : Lexeme → Option Operator) → Many (StepIs op (At k) link) (LinksAre k op)
links_are k op = record { none = λ r. refl; is_none = λ ts r h. h; more = more; is_more = is_more }
  where
    more : (c : Link) (cs : List Link) (ts m r : List Lexeme) → StepIs op (At k) link c ts m → LinksAre k op cs m r → LinksAre k op (c ∷ cs) ts r
    more c cs ts m r h l =
        subst (λ z. LinksAre k op (z ∷ cs) ts r) h.made (h.behind, m, (h.token, h.is_operator, h.whole), h.derived.ranked, h.derived.derived, l)

    is_more : (c : Link) (cs : List Link) (ts r : List Lexeme) → LinksAre k op (c ∷ cs) ts r → (m : List Lexeme) × StepIs op (At k) link c ts m × LinksAre k op cs m r
    is_more (link o e) cs ts r h =
        (h.1, record { token = h.2.0; behind = h.0; operator = o; item = e; made = refl; is_operator = h.2.1; whole = h.2.2; derived = record { ranked = h.3; derived = h.4 } }, h.5)

link_consumes : (k : ℕ) (op : Lexeme → Option Operator) → Consumes (StepIs op (At k) link)
link_consumes k op c ts r h = omega (arith, ap length h.whole, is_shorter h.item h.behind r h.derived.derived)

-- a level above the level of its sides
module _ (n k K : ℕ) (op : Lexeme → Option Operator) (item : Reader Tree) (node : Tree → Links → Tree) (g : Lexeme → Bool)
    (reads : Reads n k g item) (below : k ≤ K)
    (made : (e : Tree) (ls : Links) (ts r : List Lexeme) → IsChain k op e ls ts r → At K (node e ls) ts r)
    (split : (y : Tree) (ts s : List Lexeme) → At K y ts s → SideOrChain k op node y ts s)
    (apart : (t : Lexeme) (o : Operator) → op t ≡ Some o → g t ≡ true → ⊥) where
  level_sound : Sound (At K) (chain op item link (chain_or_side node))
  level_sound ts x r e =
      go (sequence_read item (step op item link) (chain_or_side node) (At k) (StepIs op (At k) link) (LinksAre k op) (links_are k op) reads.sound (step_sound op item link (At k) reads.sound) ts x r e)
    where
      go : Read item (step op item link) (chain_or_side node) (At k) (StepIs op (At k) link) (LinksAre k op) (links_are k op) reads.sound (step_sound op item link (At k) reads.sound) ts x r → At K x ts r
      go h = at h.others h.built h.are_others
        where
          at : (ls : List Link) → x ≡ chain_or_side node h.first ls → LinksAre k op ls h.middle r → At K x ts r
          at [] b o =
              let one : At K h.first ts h.middle = record { ranked = omega (arith, h.is_first.ranked); derived = h.is_first.derived } in
              subst (λ z. At K z ts r) (sym b) (subst (λ z. At K h.first ts z) o one)
          at (l ∷ ls) b o =
              subst (λ z. At K z ts r) (sym b) (made h.first (links_of (l ∷ ls)) ts r (record { middle = h.middle; first = h.is_first; many = tt; others = o }))

  found : (e : Tree) (ls : List Link) (ts m s : List Lexeme) → length ts ≤ n → At k e ts m → LinksAre k op ls m s
      → Found (chain op item link (chain_or_side node) ts) (or_op_of g op) (chain_or_side node e ls) s
  found = sequence_found item (step op item link) (chain_or_side node) (At k) (StepIs op (At k) link) (LinksAre k op) (links_are k op) reads.sound (step_sound op item link (At k) reads.sound)
      (at_consumes k) (link_consumes k op) n g (λ t. is_there (op t)) reads.complete (step_complete op item link n (At k) g reads.complete) (operators_apart g op (At k) link apart) (step_goes op item link)

  built : (e : Tree) (ls : Links) → IsMany ls → chain_or_side node e (items_of_links ls) ≡ node e ls
  built e no_links many = absurd many
  built e (more_links l ls) many = ap (λ z. node e (more_links l z)) (links_of-items_of_links ls)

  chain_found : (e : Tree) (ls : Links) (ts s : List Lexeme) → length ts ≤ n → IsChain k op e ls ts s → Found (chain op item link (chain_or_side node) ts) (or_op_of g op) (node e ls) s
  chain_found e ls ts s le h =
      subst (λ z. Found (chain op item link (chain_or_side node) ts) (or_op_of g op) z s) (built e ls h.many)
      (found e (items_of_links ls) ts h.middle s le h.first
      (subst (λ z. IsSteps z k op h.middle s) (sym (links_of-items_of_links ls)) h.others))

  level_complete : Complete n (At K) (or_op_of g op) (chain op item link (chain_or_side node))
  level_complete y ts s le h = go (split y ts s h)
    where
      go : SideOrChain k op node y ts s → Found (chain op item link (chain_or_side node) ts) (or_op_of g op) y s
      go (inl side) = found y [] ts s s le side refl
      go (inr c) = subst (λ z. Found (chain op item link (chain_or_side node) ts) (or_op_of g op) z s) c.2 (chain_found c.0 c.1 ts s le c.3)

  pub chain_reads : Reads n K (or_op_of g op) (chain op item link (chain_or_side node))
  chain_reads = record { sound = level_sound; complete = level_complete }
