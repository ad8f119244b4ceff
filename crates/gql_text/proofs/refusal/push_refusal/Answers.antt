use Rattle.gql_text.proofs.refusal.push_refusal.Goals as goal

pub returns-in-NoSuch : goal.returns-in-NoSuch
returns-in-NoSuch c = rw c.in-NoSuch.is (rw c.as_str-in-NoSuch.ensures at c.push_named.ensures)

pub returns-in-Variable : goal.returns-in-Variable
returns-in-Variable c = rw c.in-Variable.is (rw c.as_str-in-Variable.ensures at c.push_named-in-Variable.ensures)

pub returns-in-GroupJoin : goal.returns-in-GroupJoin
returns-in-GroupJoin c = rw c.in-GroupJoin.is (rw c.as_str-in-GroupJoin.ensures at c.push_named-in-GroupJoin.ensures)

pub returns-in-Parameter : goal.returns-in-Parameter
returns-in-Parameter c = rw c.in-Parameter.is (rw c.as_str-in-Parameter.ensures at c.push_named-in-Parameter.ensures)

pub returns-in-EmptyLoop : goal.returns-in-EmptyLoop
returns-in-EmptyLoop c = rw c.in-EmptyLoop.is c.push_str-in-EmptyLoop.ensures.ok

pub returns-in-Unbounded : goal.returns-in-Unbounded
returns-in-Unbounded c = rw c.in-Unbounded.is c.push_str-in-Unbounded.ensures.ok

pub returns-in-Transaction : goal.returns-in-Transaction
returns-in-Transaction c = rw c.in-Transaction.is c.push_str-in-Transaction.ensures.ok
