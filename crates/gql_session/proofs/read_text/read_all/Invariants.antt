use Rattle.std.proofs.Common.{◌≡◌, ◌≤◌, length, Some}
use Rattle.gql_ports.specs.Told.{Content}
use Rattle.gql_session.proofs.ReadingLemmas.{HasRead}
use Rattle.gql_session.specs.declared.read_text.TheConstants.{LIMIT}
use Rattle.gql_session.proofs.read_text.read_all.Given as goal

abbrev pub invariant-loop-turn : goal.invariant-loop-turn
invariant-loop-turn g l = record {
  same : g.S.Source.faults l.source ≡ g.S.Source.faults l.fn.source;
  later : g.S.Source.faults l.fn.source ≤ g.S.Source.faults l.source;
  read : (c : Content) → g.S.Source.told l.fn.source ≡ Some c → HasRead (g.S.Source.told l.source) c l.bytes;
  small : length l.bytes ≤ LIMIT;
  turns : l._turn ≤ length l.bytes;
}
