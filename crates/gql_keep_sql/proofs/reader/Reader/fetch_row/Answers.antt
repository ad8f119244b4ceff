-- The record that is taken has the value, and letting the run go asks nothing of the place.
use Rattle.std.proofs.Common.{◌≡◌, None, sym, subst, reverse, rules}
use Rattle.std.specs.List.{list_all}
use Rattle.std.proofs.Math.Logic.{∥∥₁_map}
use Rattle.std.proofs.lemmas.List.Sorted.{IsPermutation-sym, IsPermutation-reverse}
use Rattle.gql_keep_sql.specs.Fetched.{IsRun, is_record, FailsToRead}
use Rattle.gql_keep_sql.specs.Places.{IsSamePlace}
use Rattle.gql_keep_sql.proofs.HeldLemmas.{found_fetches, held_found, run_found}
use Rattle.gql_keep_sql.proofs.ReadLemmas.{same_place}
use Rattle.gql_keep_sql.proofs.RefusalLemmas.{fails_as}
use Rattle.gql_keep_sql.proofs.RunLemmas.{run_selected, fails_to_begin, untaken}
use Rattle.gql_keep_sql.proofs.reader.Reader.fetch_row.Goals as goal

pub returns-in-Some-clause-value : goal.returns-in-Some-clause-value
returns-in-Some-clause-value g c =
    let place = c.args.self.now.place in
    let run = c.args.self.now.run.items in
    ∥∥₁_map c.args.self.now.held (λ held. found_fetches g.S.Store run c.in-Some.record place place c.take.new.self.place c.in-Some.ensures.record.0 c.in-Some.ensures.place (held_found g.S.Store run place held))

pub returns-in-Some-clause-place : goal.returns-in-Some-clause-place
returns-in-Some-clause-place g c = subst (IsSamePlace g.S.Store c.args.self.now.place) (sym c.in-Some.ensures.place) (same_place g.S.Store c.args.self.now.place)

pub returns-in-Some-take-clause-value : goal.returns-in-Some-take-clause-value
returns-in-Some-take-clause-value g c =
    let place = c.args.self.now.place in
    let run = c.read.new.self.run.items in
    let read = subst (λ old. IsRun g.S.Store c.args.key.now (reverse run) old c.read.new.self.place) c.take.ensures.place c.in_ok-read.ensures.read in
    let found = run_found g.S.Store (reverse run) run place c.read.new.self.place (run_selected g.S.Store _ _ _ _ read) (IsPermutation-sym _ _ (IsPermutation-reverse run)) in
    ∣ found_fetches g.S.Store run c.in-Some-take.record place c.read.new.self.place _ c.in-Some-take.ensures.record.0 c.in-Some-take.ensures.place found ∣₁

pub returns-in_err-read-clause-refused : goal.returns-in_err-read-clause-refused
returns-in_err-read-clause-refused g c =
    let key = c.args.key.now in
    fails_as _ c.in_err-read.field-0.0 _ (search rules)
    (λ other. fails_to_begin g.S.Store key _ _ _ (subst (λ old. FailsToRead g.S.Store key (list_all is_record) old c.read.new.self.place c.in_err-read.field-0.0) c.take.ensures.place (c.in_err-read.ensures.refused other)))

pub returns-in-None-clause-refused : goal.returns-in-None-clause-refused
returns-in-None-clause-refused g c other =
    let key = c.args.key.now in
    let run = c.read.new.self.run.items in
    let read = subst (λ old. IsRun g.S.Store key (reverse run) old c.read.new.self.place) c.take.ensures.place c.in_ok-read.ensures.read in
    let none : c.take-2.result ≡ None = search rules in
    rw c.take-2.ensures.place (untaken g.S.Store key run _ c.args.self.now.place c.read.new.self.place _ read c.take-2.ensures.next none)
