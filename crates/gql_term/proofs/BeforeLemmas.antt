-- What a part in front bars, and what several bar.
use Rattle.std.proofs.Common.{◌≡◌, Bool, List, map, Bor, rules}
use Rattle.gql_norm.specs.NormalData.{part_data}
use Rattle.gql_norm.specs.declared.part.Part.{Part as CodePart}
use Rattle.gql_term.specs.declared.before.Before.{Before, Part, Parts, the_lemmas}
use Rattle.gql_term.specs.Machinery.BarredNames.{barred_by}
use Rattle.gql_term.specs.Machinery.OpenReferences.{barred_behind, barred_behind_all}

pub barred_by_part : (outer : Bor Before) (p : Bor CodePart) (safe : Bool) → barred_by (Part outer p safe) ≡ barred_behind (barred_by outer.now) safe (part_data p.now)
barred_by_part outer p safe = search (rules, the_lemmas)

pub barred_by_parts : (outer : Bor Before) (parts : Bor (List CodePart)) (safe : Bool) → barred_by (Parts outer parts safe) ≡ barred_behind_all (barred_by outer.now) safe (map part_data parts.now)
barred_by_parts outer parts safe = search (rules, the_lemmas)
