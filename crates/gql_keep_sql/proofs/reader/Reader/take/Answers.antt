-- The records behind the one that is taken stay read ahead.
use Rattle.std.proofs.Common.{◌≡◌, ◌∙◌, false, sym, ap, rules}
use Rattle.std.proofs.Math.Logic.{∥∥₁_map}
use Rattle.std.specs.Cmp.Lexicographic.{bytes_decides}
use Rattle.gql_values3.specs.Texts.{same_text}
use Rattle.gql_ports.specs.declared.stored.Record.{Record}
use Rattle.gql_keep_sql.proofs.HeldLemmas.{rest_held}
use Rattle.gql_keep_sql.proofs.RunLemmas.{last_same}
use Rattle.gql_keep_sql.proofs.reader.Reader.take.Goals as goal

pub invariant_of-self-else-is_empty : goal.invariant_of-self-else-is_empty
invariant_of-self-else-is_empty g c =
    record { held = ∥∥₁_map c.args.self.now.held (λ held. rest_held g.S.Store c.args.self.now.run.items c.pop.new.self.items c.pop.result c.args.self.now.place c.pop.ensures.items held) }

pub returns-then-ne-clause-next : goal.returns-then-ne-clause-next
returns-then-ne-clause-next g c front r is key =
    let same = last_same _ _ r c.in_ok-record.record (sym is ∙ c.in_ok-record.ensures.items) in
    let other : same_text c.in_ok-record.record.key c.args.key.now ≡ false = search rules in
    let alike = (bytes_decides c.in_ok-record.record.key c.args.key.now).1 (ap (λ (x : Record). x.key) (sym same) ∙ key) in
    absurd cc
