-- The session of a selftest: a ring of so many nodes, each with an edge to the next node and one to the tenth after it, and the
-- shortest walks from four of them to all nodes.
use Rattle.std.specs.Prelude.{ℕ, suc, zero, ◌+◌, ◌%◌, List, [], ◌∷◌, ◌++◌, map, codes}
use Rattle.std.specs.Fmt.{decimal}
use Rattle.std.specs.List.{flat_map}

-- the numbers below n, ascending
abbrev pub numbers_below : ℕ → List ℕ
numbers_below zero = []
numbers_below (suc n) = numbers_below n ++ n ∷ []

-- (vI:N {i: I})
abbrev pub node_text : ℕ → List ℕ
node_text i = codes "(v" ++ decimal i ++ codes ":N {i: " ++ decimal i ++ codes "})"

-- (vI)-[:R]->(vJ)
abbrev pub edge_text : ℕ → ℕ → List ℕ
edge_text i j = codes "(v" ++ decimal i ++ codes ")-[:R]->(v" ++ decimal j ++ codes ")"

-- the edges of the i-th of n nodes: to the next one, and to the tenth after it
abbrev pub edge_texts : ℕ → ℕ → List (List ℕ)
edge_texts n i = edge_text i ((i + 1) % n) ∷ edge_text i ((i + 10) % n) ∷ []

-- each behind a comma and a space, but for the first
abbrev pub listed : List (List ℕ) → List ℕ
listed [] = []
listed (part ∷ []) = part
listed (part ∷ more ∷ others) = part ++ codes ", " ++ listed (more ∷ others)

-- the statement that makes the ring of n nodes
abbrev pub insert_text : ℕ → List ℕ
insert_text n = codes "INSERT " ++ listed (map node_text (numbers_below n) ++ flat_map (edge_texts n) (numbers_below n)) ++ codes ";\n"

-- the statement that counts the pairs, and the edges of a shortest walk for each
abbrev pub match_text : List ℕ
match_text = codes "MATCH p = ANY SHORTEST (x:N WHERE x.i < 4)-[:R]->*(y:N) RETURN COUNT(*) AS pairs, SUM(PATH_LENGTH(p)) AS hops;\n"

-- two lines
abbrev pub generated : ℕ → List ℕ
generated n = insert_text n ++ match_text
