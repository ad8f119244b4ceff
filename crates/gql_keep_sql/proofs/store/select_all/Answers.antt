-- A row that is given is one row more, and where none is, those that were given are the answer.
use Rattle.std.proofs.Common.{[], ◌∷◌, ◌++◌, codes, refl, ◌∙◌, rules, arith}
use Rattle.std.proofs.lemmas.Slice.Zip.{all_zipped_more}
use Rattle.gql_keep_sql.specs.Fetched.{AreRead, HasRecord, SelectsAll}
use Rattle.gql_keep_sql.proofs.ScanLemmas.{read_none, read_one, read_all}
use Rattle.gql_keep_sql.proofs.store.select_all.Goals as goal

pub rows-init : goal.rows-init
rows-init g c =
    let old = c.args.conn.now in
    let now = c.in_ok-rows.rows.conn.now in record {
      same_reference = refl;
      rests = c.in_ok-rows.ensures.mode;
      read = ([], rw c.new-records.ensures.items tt, λ clean. read_none g.S.Store (codes "SELECT key, value FROM record") old now (c.in_ok-rows.ensures.begun clean));
    }

pub rows-preserved : goal.rows-preserved
rows-preserved g c =
    let old = c.args.conn.now in
    let mid = c.rows.rows.conn.now in
    let new = c.advance.new.self.conn.now in
    let row = c.in-Some.row.now in
    let before = c.rows.invariant.read in
    let moved = c.in_ok-advance.ensures in record {
      same_reference = moved.same_reference ∙ c.rows.invariant.same_reference;
      rests = λ none. moved.mode (c.rows.invariant.rests none);
      read = (
        before.0 ++ row ∷ [],
        rw c.in_ok-push.ensures.items (all_zipped_more HasRecord before.0 c.rows.records.items row c.in_ok-record_of.field-0 before.1 c.in_ok-record_of.ensures.read),
        λ clean. read_one g.S.Store (codes "SELECT key, value FROM record") old mid new before.0 row _ c.in-Some.ensures (before.2 (omega (arith, moved.survives.clean))) (moved.ok clean) (moved.same clean) (moved.hands clean),
      );
    }

pub returns-in_default-clause-read : goal.returns-in_default-clause-read
returns-in_default-clause-read g c =
    let old = c.args.conn.now in
    let mid = c.rows.rows.conn.now in
    let new = c.advance.new.self.conn.now in
    let before = c.rows.invariant.read in
    let moved = c.in_ok-advance.ensures in
    let told : AreRead g.S.Store c.rows.records.items new (λ rows. SelectsAll g.S.Store rows old new) = (
      before.0,
      before.1,
      λ clean. read_all g.S.Store (codes "SELECT key, value FROM record") old mid new before.0 _ c.in_default.ensures (before.2 (omega (arith, moved.survives.clean))) (moved.ok clean) (moved.same clean) (moved.hands clean),
    ) in
    search rules
