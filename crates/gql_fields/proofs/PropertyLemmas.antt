-- A property map that is read was spelled, and what was spelled is read again.
use Rattle.std.proofs.Common.{◌≡◌, ℕ, true, false, cond, ◌&&◌, List, [], ◌∷◌, ◌++◌, map, Some, None, refl, ap, subst, ◌∙◌, append_assoc}
use Rattle.std.specs.Int.{w64}
use Rattle.std.specs.List.{AllByRecursion, list_all}
use Rattle.std.proofs.lemmas.Bool.{and_parts}
use Rattle.gql_values3.specs.Datum.{Datum, null, boolean, integer, text, list, node, edge, path, is_null}
use Rattle.gql_values3.specs.PropertyGraph.{is_storable, is_property}
use Rattle.gql_values3.specs.Texts.{texts_ascend}
use Rattle.gql_values3.specs.declared.value.Value.{Value}
use Rattle.gql_fields.specs.Spelling.{spelled, value_spelled, property_spelled, properties_spelled}
use Rattle.gql_fields.specs.Kept.{IsKeptProperty, AreKeptProperties}
use Rattle.gql_fields.specs.Machinery.Reading.{◌>>=◌, number_at, text_at, items_at, counted_at, value_at, property_at, properties_at, pair_of}
use Rattle.gql_fields.proofs.FieldLemmas.{Takes, Takes-then, bind_some, guard_some, when_some, text_takes, text_again}
use Rattle.gql_fields.proofs.ItemLemmas.{IsSpelled, IsReadAgain, counted_takes, counted_again}
use Rattle.gql_fields.proofs.ValueLemmas.{value_takes, value_again}

-- what isn't NULL and may stand in a property is the value of one
pub is_property-from : (d : Datum) → is_null d ≡ false → is_storable d 64 ≡ true → is_property d ≡ true
is_property-from null h fit = absurd cc
is_property-from (boolean b) h fit = fit
is_property-from (integer z) h fit = fit
is_property-from (text t) h fit = fit
is_property-from (list ds) h fit = fit
is_property-from (node n) h fit = fit
is_property-from (edge n) h fit = fit
is_property-from (path p) h fit = fit

pub is_property-parts : (d : Datum) → is_property d ≡ true → (is_null d ≡ false) × (is_storable d 64 ≡ true)
is_property-parts null h = absurd cc
is_property-parts (boolean b) h = (refl, h)
is_property-parts (integer z) h = (refl, h)
is_property-parts (text t) h = (refl, h)
is_property-parts (list ds) h = (refl, h)
is_property-parts (node n) h = (refl, h)
is_property-parts (edge n) h = (refl, h)
is_property-parts (path p) h = (refl, h)

-- kept, with a value that may stand there
abbrev pub IsGoodProperty : List ℕ × Datum → Type 0
IsGoodProperty p = IsKeptProperty p × (is_property p.1 ≡ true)

abbrev IsPropertyRead : List ℕ → (List ℕ × Datum) × List ℕ → Type 0
IsPropertyRead bytes x = Takes bytes (property_spelled x.0) x.1 × IsGoodProperty x.0

-- a property that is read was spelled
pub property_takes : IsSpelled property_spelled IsGoodProperty property_at
unfolding property_at
property_takes bytes x fits e =
    let a = bind_some (text_at bytes) (λ name. value_at 64 name.1 >>= λ value. cond (is_null value.0) None (Some ((name.0, value.0), value.1))) x e in
    let b = bind_some (value_at 64 a.0.1) (λ value. cond (is_null value.0) None (Some ((a.0.0, value.0), value.1))) x a.2 in
    let g = guard_some (is_null b.0.0) ((a.0.0, b.0.0), b.0.1) x b.2 in
    let name = text_takes bytes a.0 fits a.1 in
    let value = value_takes 64 a.0.1 b.0 name.0.rest_fits b.1 in
    subst (IsPropertyRead bytes) g.1 (Takes-then bytes (spelled a.0.0) a.0.1 (value_spelled b.0.0) b.0.1 name.0 value.0, ((name.1, value.1.0), is_property-from b.0.0 g.0 value.1.1))

-- a property that was spelled is read
pub property_again : IsReadAgain property_spelled IsGoodProperty property_at
unfolding property_at
property_again p rest h =
    let parts = is_property-parts p.1 h.1 in
    let regrouped : property_spelled p ++ rest ≡ spelled p.0 ++ (value_spelled p.1 ++ rest) = append_assoc (spelled p.0) (value_spelled p.1) rest in
    ap property_at regrouped ∙ rw (text_again p.0 (value_spelled p.1 ++ rest) h.0.0, value_again 64 p.1 rest (h.0.1, parts.1), parts.0) refl

all_kept : (ps : List (List ℕ × Datum)) → AllByRecursion IsGoodProperty ps → AllByRecursion IsKeptProperty ps × (list_all (λ p. is_property p.1) ps ≡ true)
all_kept [] h = (tt, refl)
all_kept (p ∷ ps) h =
    let others = all_kept ps h.1 in
    ((h.0.0, others.0), rw (h.0.1, others.1) refl)

all_good : (ps : List (List ℕ × Datum)) → AllByRecursion IsKeptProperty ps → list_all (λ p. is_property p.1) ps ≡ true → AllByRecursion IsGoodProperty ps
all_good [] h fit = tt
all_good (p ∷ ps) h fit =
    let both = and_parts (is_property p.1) (list_all (λ p. is_property p.1) ps) fit in
    ((h.0, both.0), all_good ps h.1 both.1)

abbrev pub names_of : List (List ℕ × Datum) → List (List ℕ)
names_of ps = map (λ (p : List ℕ × Datum). p.0) ps

abbrev ArePropertiesRead : List ℕ → List (List ℕ × Datum) × List ℕ → Type 0
ArePropertiesRead bytes x = Takes bytes (properties_spelled x.0) x.1 × AreKeptProperties x.0

-- a property map that is read was spelled
pub properties_take : IsSpelled properties_spelled AreKeptProperties properties_at
unfolding properties_at
properties_take bytes x fits e =
    let b = bind_some (counted_at property_at bytes) (λ ps. cond (texts_ascend (names_of ps.0)) (Some ps) None) x e in
    let g = when_some (texts_ascend (names_of b.0.0)) b.0 x b.2 in
    let t = counted_takes property_spelled IsGoodProperty property_at property_takes bytes b.0 fits b.1 in
    let all = all_kept b.0.0 t.1.1 in
    let fit : (texts_ascend (names_of b.0.0) && list_all (λ p. is_property p.1) b.0.0) ≡ true = rw (g.0, all.1) refl in
    subst (ArePropertiesRead bytes) g.1 (t.0, record { few = t.1.0; fit = fit; kept = all.0 })

-- a property map that was spelled is read
pub properties_again : IsReadAgain properties_spelled AreKeptProperties properties_at
unfolding properties_at
properties_again ps rest h =
    let both = and_parts (texts_ascend (names_of ps)) (list_all (λ p. is_property p.1) ps) h.fit in
    rw (counted_again property_spelled IsGoodProperty property_at property_again ps rest (h.few, all_good ps h.kept both.1), both.0) refl

-- the names of pairs of the code
pub names_of-pairs : (ps : List (List ℕ × Value)) → map (λ (p : List ℕ × Datum). p.0) (map pair_of ps) ≡ map (λ (p : List ℕ × Value). p.0) ps
names_of-pairs [] = refl
names_of-pairs (p ∷ ps) = ap (λ (names : List (List ℕ)). p.0 ∷ names) (names_of-pairs ps)

-- a property map, step by step
pub properties_read : (bytes : List ℕ) (count : ℕ) (rest : List ℕ) (ps : List (List ℕ × Datum)) (after : List ℕ) → number_at w64 bytes ≡ Some (count, rest) → items_at property_at count rest ≡ Some (ps, after)
    → properties_at bytes ≡ cond (texts_ascend (names_of ps)) (Some (ps, after)) None
unfolding properties_at
properties_read bytes count rest ps after first second = rw (first, second) refl
