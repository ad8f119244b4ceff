use Rattle.std.proofs.Common.{Some, ap, sym, ◌∙◌}
use Rattle.gql_ast.specs.declared.statement.Statement.{Statement}
use Rattle.gql_statements.proofs.StatementLaws.{read_derives, left_over, empty_is, not_empty, fault_of_syntax, fault_of_depth}
use Rattle.gql_statements.proofs.parser.parse.Goals as goal

pub returns-in-Err-clause-syntax : goal.returns-in-Err-clause-syntax
returns-in-Err-clause-syntax c i = (sym c.if-too_deep.ensures, fault_of_syntax c.args.lexemes.now Statement c.in-Err.fault c.in-Err.ensures.given i)

pub returns-in-Err-clause-deep : goal.returns-in-Err-clause-deep
returns-in-Err-clause-deep c i = absurd (fault_of_depth c.args.lexemes.now Statement c.in-Err.fault c.in-Err.ensures.given i)

pub returns-then-is_empty-clause-derived : goal.returns-then-is_empty-clause-derived
returns-then-is_empty-clause-derived c =
    let statement = c.in-Ok.statement in
    (read_derives c.args.lexemes.now statement (c.in-Ok.ensures.given ∙ ap (λ z. Some (statement, z)) (empty_is c.in-Ok.rest.now (sym c.if-is_empty.ensures))), sym c.if-too_deep.ensures)

pub returns-else-is_empty-clause-syntax : goal.returns-else-is_empty-clause-syntax
returns-else-is_empty-clause-syntax c i =
    (sym c.if-too_deep.ensures, left_over c.args.lexemes.now c.in-Ok.statement c.in-Ok.rest.now c.in-Ok.ensures.given (not_empty c.in-Ok.rest.now (sym c.if-is_empty.ensures)))
