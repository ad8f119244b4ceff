use Rattle.std.proofs.Common.{◌<◌, ◌≤◌, ◌+◌, ◌==◌, [], length, refl, sym, ap, ◌∙◌, arith}
use Rattle.std.proofs.lemmas.List.{drop_all}
use Rattle.std.specs.Option.{option_or}
use Rattle.gql_expr_checks.proofs.RefusalLemmas.{gives_fault}
use Rattle.gql_scope.specs.Machinery.Codes.{kept, first_over, names_refusal, refusal_by}
use Rattle.gql_scope.proofs.WalkLemmas.{walk_ends, walk_goes_on, walk_keeps, walk_stops}
use Rattle.gql_scope.proofs.clauses.pass_clauses.Goals as goal

pub returns-in_err-pass_clause-clause-names : goal.returns-in_err-pass_clause-clause-names
returns-in_err-pass_clause-clause-names c =
    let cs = c.args.clauses.now in
    let e = c.in_err-pass_clause.field-0.0 in
    let whole = first_over names_refusal [] cs in
    let below : c.loop-i.i < length cs = omega arith in
    gives_fault c.from_residual.result e whole c.from_residual.ensures.0 c.from_residual.ensures.1
    (walk_stops names_refusal cs c.loop-i.i c.index-clauses-i.result c.loop-i.scope below c.index-clauses-i.is whole c.loop-i.invariant.names e c.in_err-pass_clause.ensures.names)

pub loop-i-preserved : goal.loop-i-preserved
loop-i-preserved c =
    let cs = c.args.clauses.now in
    let i = c.loop-i.i in
    let d = c.index-clauses-i.result in
    let before = c.loop-i.scope in
    let after = c.pass_clause.new.scope in
    let params = c.args.params.now in
    let below : i < length cs = omega arith in
    record {
      names = walk_goes_on names_refusal cs i d before below c.index-clauses-i.is (first_over names_refusal [] cs) c.loop-i.invariant.names after (i + 1 == length cs)
          c.in_ok-pass_clause.ensures.names refl c.in_ok-pass_clause.ensures.columns;
      codes = λ k. walk_keeps (refusal_by params k) cs i d before below c.index-clauses-i.is (kept k c.loop-i.found) (kept k c.pass_clause.new.found)
          (option_or (kept k c.args.found.now) (first_over (refusal_by params k) [] cs)) (c.loop-i.invariant.codes k) (c.in_ok-pass_clause.ensures.codes k) after (i + 1 == length cs) refl
          c.in_ok-pass_clause.ensures.columns;
    }

pub returns-clause-names : goal.returns-clause-names
returns-clause-names c =
    let cs = c.args.clauses.now in
    let over : length cs ≤ c.loop-i.i = omega arith in
    sym c.loop-i.invariant.names ∙ ap (first_over names_refusal c.loop-i.scope) (drop_all c.loop-i.i cs over)

pub returns-clause-codes : goal.returns-clause-codes
returns-clause-codes c = λ k.
    let cs = c.args.clauses.now in
    let asks = refusal_by c.args.params.now k in
    let over : length cs ≤ c.loop-i.i = omega arith in
    walk_ends asks cs c.loop-i.i c.loop-i.scope (kept k c.loop-i.found) (option_or (kept k c.args.found.now) (first_over asks [] cs)) over (c.loop-i.invariant.codes k)
