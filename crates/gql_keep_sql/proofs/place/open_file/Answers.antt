-- Nothing is asked behind the query for all records, and no transaction was open before it.
use Rattle.std.proofs.Common.{◌≡◌, Bool, true, false, not, refl}
use Rattle.std.proofs.lemmas.List.Sorted.{IsPermutation-refl}
use Rattle.gql_keep_sql.specs.declared.place.Place.TheVariants.{File}
use Rattle.gql_keep_sql.proofs.place.open_file.Goals as goal

outside : (answer inside : Bool) → answer ≡ not inside → answer ≡ true → inside ≡ false
outside answer true is given = absurd cc
outside answer false is given = refl

pub returns-clause-all : goal.returns-clause-all
returns-clause-all g c =
    let told = c.in_ok-records.ensures.read in record {
      rows = told.0;
      before = File c.in_ok-own.own c.establish.new.conn;
      store = (c.in_ok-conn.conn, c.in_ok-conn.ensures.new, λ clean. (c.in_ok-conn.ensures.found (c.establish.ensures.clean clean), c.in_ok-establish.ensures.made clean));
      selected = (refl, λ clean. (told.0, told.2 clean, IsPermutation-refl told.0));
      rests = c.in_ok-records.ensures.rests (outside c.is_autocommit.result c.establish.new.conn.in_transaction c.is_autocommit.ensures.value c.if-not-is_autocommit.false);
      are = told.1;
    }
