-- In the steps of an expression each aggregate has the steps of its argument behind it.
use Rattle.std.proofs.Common.{◌≡◌, ℕ, zero, suc, ◌-◌, ◌≤◌, ◌<◌, Bool, true, false, cond, List, [], ◌∷◌, ◌++◌, length, map, take, get_or, Option, Some, None, refl, ap, sym, ◌∙◌, arith, append_assoc}
use Rattle.std.proofs.Math.Seq.{take-append_seam}
use Rattle.gql_values3.specs.Datum.{Datum}
use Rattle.gql_ast.specs.ClauseColumns.{ColumnList}
use Rattle.gql_ast.specs.Tree.{Tree, Trees, Links, constant, unknown, number, parameter, name, property, paren, listing, count_all, aggregate, call, modulo, coalesce, signed, product, sum, comparing, test, label_test, end_test, negation, conjunction, disjunction, link, no_trees, more_trees, no_links, more_links}
use Rattle.gql_eval.specs.Machinery.Places.{places_among}
use Rattle.gql_eval.specs.Machinery.InstructionMeaning.{op_of, program_of}
use Rattle.gql_eval.specs.Machinery.Steps.{Op, held_name, of_one, of_two, join_side, as_truth, join_all, join_any, skip_if, add_item, end_list}
use Rattle.gql_eval.specs.Machinery.Compiled.{is_xor, any_side, listing_steps, constant_list, compiled, compiled_items, compiled_others, compiled_chain, compiled_all, compiled_any, argument_behind, arguments_behind}
use Rattle.gql_eval.specs.declared.instruction.Instruction.{Instruction}
use Rattle.gql_eval.proofs.ScopeLemmas.{append_none}
use Rattle.gql_eval.proofs.TurnedLemmas.{turned_more}

module _ (columns : ColumnList) (names : List (List ℕ)) (params : List (List ℕ × Datum)) where
  abbrev code : Tree → List Op
  code e = compiled columns names params e

  abbrev Stands : List Op → Type 0
  Stands os = arguments_behind columns names params os

  -- steps that may stand in front of any others
  abbrev Goes : List Op → Type 0
  Goes steps = (os : List Op) → Stands os → Stands (steps ++ os)

  both : (xs ys : List Op) → Goes xs → Goes ys → Goes (xs ++ ys)
  both xs ys first second os h = rw (append_assoc xs ys os) (first (ys ++ os) (second os h))

  list_goes : (o : Option Datum) (items : List Op) → Goes items → Goes (listing_steps o items)
  list_goes (Some l) items goes os h = (tt, h)
  list_goes None items goes os h = (tt, both items (end_list ∷ []) goes (λ os h. (tt, h)) os h)

  any_goes : (b : Bool) (n : ℕ) (steps : List Op) → Goes steps → Goes (cond b steps (skip_if true n ∷ steps))
  any_goes true n steps goes os h = goes os h
  any_goes false n steps goes os h = (tt, goes os h)

  mutual
    expr_goes : (e : Tree) → Goes (code e)
    expr_goes (constant d) os h = (tt, h)
    expr_goes unknown os h = (tt, h)
    expr_goes (number n) os h = (tt, h)
    expr_goes (parameter p) os h = (tt, h)
    expr_goes (name x) os h = (tt, h)
    expr_goes (property x p) os h = (tt, h)
    expr_goes (paren e) os h = expr_goes e os h
    expr_goes (listing es) os h = list_goes (constant_list params es) (compiled_items columns names params es) (λ os h. items_go es os h) os h
    expr_goes count_all os h = (tt, h)
    expr_goes (aggregate a q e) os h = (take-append_seam (code e) os, expr_goes e os h)
    expr_goes (call f e) os h = both (code e) (of_one (call f e) ∷ []) (λ os h. expr_goes e os h) (λ os h. (tt, h)) os h
    expr_goes (modulo a b) os h = both (code a) (code b ++ of_two (modulo a b) ∷ []) (λ os h. expr_goes a os h) (both (code b) (of_two (modulo a b) ∷ []) (λ os h. expr_goes b os h) (λ os h. (tt, h))) os h
    expr_goes (coalesce e es) os h = both (code e) (compiled_others columns names params es) (λ os h. expr_goes e os h) (λ os h. others_go es os h) os h
    expr_goes (signed s e) os h = both (code e) (of_one (signed s e) ∷ []) (λ os h. expr_goes e os h) (λ os h. (tt, h)) os h
    expr_goes (product e ls) os h = both (code e) (compiled_chain columns names params ls) (λ os h. expr_goes e os h) (λ os h. chain_goes ls os h) os h
    expr_goes (sum e ls) os h = both (code e) (compiled_chain columns names params ls) (λ os h. expr_goes e os h) (λ os h. chain_goes ls os h) os h
    expr_goes (comparing op a b) os h = both (code a) (code b ++ of_two (comparing op a b) ∷ []) (λ os h. expr_goes a os h) (both (code b) (of_two (comparing op a b) ∷ []) (λ os h. expr_goes b os h) (λ os h. (tt, h))) os h
    expr_goes (test e s q) os h = both (code e) (of_one (test e s q) ∷ []) (λ os h. expr_goes e os h) (λ os h. (tt, h)) os h
    expr_goes (label_test e s l) os h = both (code e) (of_one (label_test e s l) ∷ []) (λ os h. expr_goes e os h) (λ os h. (tt, h)) os h
    expr_goes (end_test e s which x) os h = both (code e) (held_name (places_among columns names x) x ∷ of_two (end_test e s which x) ∷ []) (λ os h. expr_goes e os h) (λ os h. (tt, (tt, h))) os h
    expr_goes (negation e) os h = both (code e) (of_one (negation e) ∷ []) (λ os h. expr_goes e os h) (λ os h. (tt, h)) os h
    expr_goes (conjunction e ls) os h = both (code e) (as_truth ∷ compiled_all columns names params ls) (λ os h. expr_goes e os h) (λ os h. (tt, all_go ls os h)) os h
    expr_goes (disjunction e ls) os h = both (code e) (as_truth ∷ compiled_any columns names params ls) (λ os h. expr_goes e os h) (λ os h. (tt, any_go ls os h)) os h

    items_go : (es : Trees) → Goes (compiled_items columns names params es)
    items_go no_trees os h = h
    items_go (more_trees e es) os h = both (code e) (add_item ∷ compiled_items columns names params es) (λ os h. expr_goes e os h) (λ os h. (tt, items_go es os h)) os h

    others_go : (es : Trees) → Goes (compiled_others columns names params es)
    others_go no_trees os h = h
    others_go (more_trees e es) os h = (tt, both (code e) (compiled_others columns names params es) (λ os h. expr_goes e os h) (λ os h. others_go es os h) os h)

    chain_goes : (ls : Links) → Goes (compiled_chain columns names params ls)
    chain_goes no_links os h = h
    chain_goes (more_links (link op e) ls) os h = both (code e) (join_side op ∷ compiled_chain columns names params ls) (λ os h. expr_goes e os h) (λ os h. (tt, chain_goes ls os h)) os h

    all_go : (ls : Links) → Goes (compiled_all columns names params ls)
    all_go no_links os h = h
    all_go (more_links (link op e) ls) os h = (tt, both (code e) (join_all ∷ compiled_all columns names params ls) (λ os h. expr_goes e os h) (λ os h. (tt, all_go ls os h)) os h)

    any_go : (ls : Links) → Goes (compiled_any columns names params ls)
    any_go no_links os h = h
    any_go (more_links (link op e) ls) os h =
        both (any_side op (code e ++ join_any op ∷ [])) (compiled_any columns names params ls)
        (any_goes (is_xor op) (length (code e ++ join_any op ∷ [])) (code e ++ join_any op ∷ []) (both (code e) (join_any op ∷ []) (λ os h. expr_goes e os h) (λ os h. (tt, h)))) (λ os h. any_go ls os h) os h

  pub compiled_stands : (e : Tree) (steps : List Op) → steps ≡ code e → Stands steps
  compiled_stands e steps same = rw (same, ← append_none (code e)) (expr_goes e [] tt)

  -- of a step and those behind it
  pub stands_at : (o : Op) (os all : List Op) → all ≡ o ∷ os → Stands all → argument_behind columns names params o os × Stands os
  stands_at o os all split h = rw split at h

  -- of the first so many instructions, some of whose steps are skipped
  pub stands_past : (is : List Instruction) (n count : ℕ) → n ≤ length is → Stands (program_of (take n is)) → Stands (program_of (take (n - count) is))
  stands_past is n zero h stands = let none : n - 0 ≡ n = omega arith in rw none stands
  stands_past is zero (suc count) h stands = let none : 0 - suc count ≡ 0 = omega arith in rw none stands
  stands_past is (suc n) (suc count) h stands =
      let more = turned_more op_of is n (omega arith) in
      let rest : suc n - suc count ≡ n - count = omega arith in
      rw rest (stands_past is n count (omega arith) (stands_at more.0 (program_of (take n is)) (program_of (take (suc n) is)) more.1 stands).1)
