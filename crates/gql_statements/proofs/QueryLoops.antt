-- The loop of queries.
use Rattle.std.proofs.Common.{◌≡◌, Bool, true, false, not, ◌&&◌, List, [], ◌∷◌, refl, ap}
use Rattle.gql_ast.specs.declared.clause.Clause.{Clause}
use Rattle.gql_statements.specs.QueryGrammar.{is_page, no_pages_meet}

-- no pages meet in a list, where it is known whether a page stands before it
abbrev pub none_meet : Bool → List Clause → Bool
none_meet before [] = true
none_meet before (c ∷ cs) = not (before && is_page c) && none_meet (is_page c) cs

none_meet-behind : (c : Clause) (cs : List Clause) → none_meet (is_page c) cs ≡ no_pages_meet (c ∷ cs)
none_meet-behind c [] = refl
none_meet-behind c (d ∷ cs) = ap (λ b. not (is_page c && is_page d) && b) (none_meet-behind d cs)

pub none_meet-all : (cs : List Clause) → none_meet false cs ≡ no_pages_meet cs
none_meet-all [] = refl
none_meet-all (c ∷ cs) = none_meet-behind c cs
