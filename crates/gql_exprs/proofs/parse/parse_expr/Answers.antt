use Rattle.std.proofs.Common.{ℕ}
use Rattle.gql_ast.specs.Meaning.{tree_of}
use Rattle.gql_ast.specs.declared.expr.Expr.{Expr}
use Rattle.gql_front.proofs.Places.{parsed_front, parsed_longest, refused, never_deep}
use Rattle.gql_exprs.specs.Grammar.{Is}
use Rattle.gql_exprs.specs.Machinery.Readers.{read_expr}
use Rattle.gql_exprs.proofs.ExprShorter.{is_shorter}
use Rattle.gql_exprs.proofs.ExprFronts.{front_of}
use Rattle.gql_exprs.proofs.ExprRead.{expr_longest}
use Rattle.gql_exprs.proofs.parse.parse_expr.Goals as goal

pub returns-in-Err-clause-not_deep : goal.returns-in-Err-clause-not_deep
returns-in-Err-clause-not_deep c = never_deep Is is_shorter front_of read_expr expr_longest c.from_place-rest.result.now (Expr × ℕ) c.in-Err.fault c.in-Err.ensures.given

pub returns-in-Err-clause-syntax : goal.returns-in-Err-clause-syntax
returns-in-Err-clause-syntax c =
    refused Is is_shorter front_of read_expr expr_longest c.args.lexemes.now c.args.at c.from_place-rest.result.now (Expr × ℕ) c.in-Err.fault c.from_place-rest.ensures c.in-Err.ensures.given

pub returns-in-Ok-clause-found : goal.returns-in-Ok-clause-found
returns-in-Ok-clause-found c =
    parsed_front Is is_shorter front_of read_expr expr_longest c.args.lexemes.now c.args.at c.from_place-rest.result.now (tree_of c.in-Ok.expr) c.in-Ok.behind.now c.requires.at c.from_place-rest.ensures c.in-Ok.ensures.given

pub returns-in-Ok-clause-longest : goal.returns-in-Ok-clause-longest
returns-in-Ok-clause-longest c =
    parsed_longest Is is_shorter front_of read_expr expr_longest c.args.lexemes.now c.args.at c.from_place-rest.result.now (tree_of c.in-Ok.expr) c.in-Ok.behind.now c.requires.at c.from_place-rest.ensures c.in-Ok.ensures.given
