use Rattle.gql_lexer.proofs.LengthLemmas.{quoted_length-escape}
use Rattle.gql_lexer.proofs.lengths.quoted_part.Goals as goal

pub returns-then-rest-gt1-clause-goes_on : goal.returns-then-rest-gt1-clause-goes_on
returns-then-rest-gt1-clause-goes_on c = quoted_length-escape c.args.quote c.args.rest.now c.if-rest-gt1.true c.if-byte-eq92.true
