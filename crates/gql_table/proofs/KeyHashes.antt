-- What is hashed of the steps of a path, and of the items of a list.
use Rattle.std.proofs.Common.{◌≡◌, [], ◌∷◌, ◌++◌, List, ℕ, map, refl, sym, ap}
use Rattle.std.specs.List.{flat_map}
use Rattle.std.specs.Hash as fed
use Rattle.std.proofs.lemmas.List.Folds.{flat_map-map}
use Rattle.std.proofs.lemmas.List.{length-map}
use Rattle.gql_values3.specs.declared.element.NodeId.{NodeId}
use Rattle.gql_values3.specs.declared.element.EdgeId.{EdgeId}
use Rattle.gql_values3.specs.Datum.{Datum, data_of}
use Rattle.gql_table.specs.Machinery.RowKeys.{hashed, hashed_items, hashed_step}

pub hashed_pairs : (ps : List (EdgeId × NodeId)) → fed.slice (λ s. fed.u32 s.0.0 ++ fed.u32 s.1.0) ps ≡ fed.slice hashed_step (map (λ s. (s.0.0, s.1.0)) ps)
hashed_pairs ps =
    let numbers : EdgeId × NodeId → ℕ × ℕ = λ s. (s.0.0, s.1.0) in
    λ i. fed.usize (sym (length-map ps numbers) i) ++ sym (flat_map-map hashed_step numbers ps) i

pub hashed_data : (ds : List Datum) → hashed_items (data_of ds) ≡ flat_map hashed ds
hashed_data [] = refl
hashed_data (d ∷ ds) = ap (λ ws. hashed d ++ ws) (hashed_data ds)
