-- A generated text part by part: one part more, and the edges behind the nodes.
use Rattle.std.proofs.Common.{◌≡◌, ℕ, zero, suc, ◌+◌, ◌%◌, List, [], ◌∷◌, ◌++◌, map, codes, refl, ap, sym, ◌∙◌, append_assoc, append-nil, add-one}
use Rattle.std.specs.List.{flat_map}
use Rattle.gql_session.specs.GeneratedText.{numbers_below, node_text, edge_text, edge_texts, listed}
use Rattle.gql_session.specs.Machinery.Listing.{behind_comma, comma_before}

-- Parts

listed_cons : (x : List ℕ) (ys : List (List ℕ)) (y : List ℕ) → listed (x ∷ (ys ++ y ∷ [])) ≡ (x ++ codes ", ") ++ listed (ys ++ y ∷ [])
listed_cons x [] y = refl
listed_cons x (z ∷ zs) y = refl

-- one part more behind the first
listed_more : (xs : List (List ℕ)) (x y : List ℕ) → listed ((xs ++ x ∷ []) ++ y ∷ []) ≡ (listed (xs ++ x ∷ []) ++ codes ", ") ++ y
listed_more [] x y = refl
listed_more (z ∷ zs) x y =
    listed_cons z (zs ++ x ∷ []) y ∙ ap (λ t. (z ++ codes ", ") ++ t) (listed_more zs x y) ∙ sym (append_assoc (z ++ codes ", ") (listed (zs ++ x ∷ []) ++ codes ", ") y)
    ∙ ap (λ t. t ++ y) (sym (append_assoc (z ++ codes ", ") (listed (zs ++ x ∷ [])) (codes ", ")))
    ∙ ap (λ t. (t ++ codes ", ") ++ y) (sym (listed_cons z zs x))

-- the parts behind a first one
behind_first : (x : List ℕ) (ys : List (List ℕ)) → listed (x ∷ ys) ≡ x ++ flat_map behind_comma ys
behind_first x [] = sym (append-nil x)
behind_first x (y ∷ ys) =
    ap (λ t. (x ++ codes ", ") ++ t) (behind_first y ys) ∙ append_assoc x (codes ", ") (y ++ flat_map behind_comma ys)
    ∙ ap (λ t. x ++ t) (sym (append_assoc (codes ", ") y (flat_map behind_comma ys)))

behind_some : (x : List ℕ) (xs ys : List (List ℕ)) → listed (x ∷ (xs ++ ys)) ≡ listed (x ∷ xs) ++ flat_map behind_comma ys
behind_some x [] ys = behind_first x ys
behind_some x (z ∷ zs) ys = ap (λ t. (x ++ codes ", ") ++ t) (behind_some z zs ys) ∙ sym (append_assoc (x ++ codes ", ") (listed (z ∷ zs)) (flat_map behind_comma ys))

behind : (xs ys : List (List ℕ)) → (xs ≡ [] → ys ≡ []) → listed (xs ++ ys) ≡ listed xs ++ flat_map behind_comma ys
behind [] ys none = ap listed (none refl) ∙ sym (ap (flat_map behind_comma) (none refl))
behind (x ∷ xs) ys none = behind_some x xs ys

-- One number more

map-next : (f : ℕ → List ℕ) (xs : List ℕ) (x : ℕ) → map f (xs ++ x ∷ []) ≡ map f xs ++ f x ∷ []
map-next f [] x = refl
map-next f (y ∷ ys) x = ap (λ zs. f y ∷ zs) (map-next f ys x)

flat_map-next : {A : Type 0} (f : A → List (List ℕ)) (xs : List A) (x : A) → flat_map f (xs ++ x ∷ []) ≡ flat_map f xs ++ f x
flat_map-next f [] x = append-nil (f x)
flat_map-next f (y ∷ ys) x = ap (λ zs. f y ++ zs) (flat_map-next f ys x) ∙ sym (append_assoc (f y) (flat_map f ys) (f x))

commas-append : (xs ys : List (List ℕ)) → flat_map behind_comma (xs ++ ys) ≡ flat_map behind_comma xs ++ flat_map behind_comma ys
commas-append [] ys = refl
commas-append (x ∷ xs) ys = ap (λ t. behind_comma x ++ t) (commas-append xs ys) ∙ sym (append_assoc (behind_comma x) (flat_map behind_comma xs) (flat_map behind_comma ys))

-- the nodes so far, as one text
abbrev pub nodes_below : ℕ → List ℕ
nodes_below i = listed (map node_text (numbers_below i))

node_next : (i : ℕ) → nodes_below (suc i) ≡ (nodes_below i ++ comma_before i) ++ node_text i
node_next zero = refl
node_next (suc k) =
    ap listed (map-next node_text (numbers_below (suc k)) (suc k) ∙ ap (λ xs. xs ++ node_text (suc k) ∷ []) (map-next node_text (numbers_below k) k))
    ∙ listed_more (map node_text (numbers_below k)) (node_text k) (node_text (suc k))
    ∙ ap (λ xs. (listed xs ++ codes ", ") ++ node_text (suc k)) (sym (map-next node_text (numbers_below k) k))

pub node_more : (before : List ℕ) (i : ℕ) → ((before ++ nodes_below i) ++ comma_before i) ++ node_text i ≡ before ++ nodes_below (i + 1)
node_more before i =
    ap (λ t. t ++ node_text i) (append_assoc before (nodes_below i) (comma_before i)) ∙ append_assoc before (nodes_below i ++ comma_before i) (node_text i)
    ∙ ap (λ t. before ++ t) (sym (node_next i)) ∙ ap (λ n. before ++ nodes_below n) (sym (add-one i))

-- the edges so far, as one text
abbrev pub edges_below : ℕ → ℕ → List ℕ
edges_below n i = flat_map behind_comma (flat_map (edge_texts n) (numbers_below i))

edge_next : (n i : ℕ) → edges_below n (suc i) ≡ edges_below n i ++ (behind_comma (edge_text i ((i + 1) % n)) ++ behind_comma (edge_text i ((i + 10) % n)))
edge_next n i =
    ap (flat_map behind_comma) (flat_map-next (edge_texts n) (numbers_below i) i) ∙ commas-append (flat_map (edge_texts n) (numbers_below i)) (edge_texts n i)
    ∙ ap (λ t. edges_below n i ++ (behind_comma (edge_text i ((i + 1) % n)) ++ t)) (append-nil (behind_comma (edge_text i ((i + 10) % n))))

pub edge_more : (before : List ℕ) (n i : ℕ)
    → ((before ++ edges_below n i) ++ behind_comma (edge_text i ((i + 1) % n))) ++ behind_comma (edge_text i ((i + 10) % n)) ≡ before ++ edges_below n (i + 1)
edge_more before n i =
    append_assoc (before ++ edges_below n i) (behind_comma (edge_text i ((i + 1) % n))) (behind_comma (edge_text i ((i + 10) % n)))
    ∙ append_assoc before (edges_below n i) (behind_comma (edge_text i ((i + 1) % n)) ++ behind_comma (edge_text i ((i + 10) % n)))
    ∙ ap (λ t. before ++ t) (sym (edge_next n i)) ∙ ap (λ m. before ++ edges_below n m) (sym (add-one i))

-- Nodes, and then edges

no_numbers : (xs : List ℕ) → map node_text xs ≡ [] → xs ≡ []
no_numbers [] p = refl
no_numbers (x ∷ xs) p = cc

pub all_parts : (n : ℕ) → listed (map node_text (numbers_below n) ++ flat_map (edge_texts n) (numbers_below n)) ≡ nodes_below n ++ edges_below n n
all_parts n = behind (map node_text (numbers_below n)) (flat_map (edge_texts n) (numbers_below n)) (λ p. ap (flat_map (edge_texts n)) (no_numbers (numbers_below n) p))

-- the whole statement, as it is written
pub whole_insert : (before first last : List ℕ) (n : ℕ)
    → (((before ++ first) ++ nodes_below n) ++ edges_below n n) ++ last ≡ before ++ ((first ++ listed (map node_text (numbers_below n) ++ flat_map (edge_texts n) (numbers_below n))) ++ last)
whole_insert before first last n =
    ap (λ t. t ++ last) (append_assoc (before ++ first) (nodes_below n) (edges_below n n) ∙ ap (λ t. (before ++ first) ++ t) (sym (all_parts n)))
    ∙ ap (λ t. t ++ last) (append_assoc before first (listed (map node_text (numbers_below n) ++ flat_map (edge_texts n) (numbers_below n))))
    ∙ append_assoc before (first ++ listed (map node_text (numbers_below n) ++ flat_map (edge_texts n) (numbers_below n))) last
