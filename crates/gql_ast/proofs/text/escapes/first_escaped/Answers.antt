use Rattle.std.proofs.Common.{◌+◌, sym, arith, length-drop}
use Rattle.gql_ast.proofs.EscapeLemmas.{before_escape, escape_is, ascii, no_escape}
use Rattle.gql_ast.proofs.text.escapes.first_escaped.Goals as goal

pub cut_at-requires : goal.cut_at-requires
cut_at-requires c =
    let known = escape_is c.args.setting c.args.characters.now c.in-Some.at (sym c.in-Some.ensures) in
    record { within = known.0; ascii = ascii c.args.setting _ known.1 }

pub returns-in-Some : goal.returns-in-Some
returns-in-Some c =
    let xs = c.args.characters.now in
    let found = sym c.in-Some.ensures in
    let known = escape_is c.args.setting xs c.in-Some.at found in (
      rw (c.cut_at.ensures.before, c.cut_at.ensures.byte, c.cut_at.ensures.behind) (before_escape c.args.setting xs c.in-Some.at found),
      rw c.cut_at.ensures.byte known.1,
      rw c.cut_at.ensures.behind (omega (arith, known.0, length-drop (c.in-Some.at + 1) xs)),
      c.cut_at.ensures.utf8,
    )

pub returns-in-None : goal.returns-in-None
returns-in-None c = no_escape c.args.setting c.args.characters.now (sym c.in-None.ensures)
