use Rattle.std.proofs.Common.{◌∙◌, sym}
use Rattle.std.proofs.lemmas.Result.{err_from_is_err_and}
use Rattle.gql_rowcode.specs.Machinery.Noted.{in_order, noted_of}
use Rattle.gql_rowcode.proofs.ReadLemmas.{some_records, stand_for_one, fault_told, fault_complete, fault_as}
use Rattle.gql_rowcode.proofs.reading.read.Goals as goal

pub returns-in_err-seen-clause-single : goal.returns-in_err-seen-clause-single
returns-in_err-seen-clause-single c = stand_for_one c.args.records.now

pub returns-in_err-catalog_of-clause-single : goal.returns-in_err-catalog_of-clause-single
returns-in_err-catalog_of-clause-single c = stand_for_one c.args.records.now

pub returns-clause-single : goal.returns-clause-single
returns-clause-single c = stand_for_one c.args.records.now

-- a fault that the walk tells
pub returns-in_err-seen-clause-at_fault : goal.returns-in_err-seen-clause-at_fault
returns-in_err-seen-clause-at_fault c =
    let p = err_from_is_err_and c.from_residual-in_err-seen.result c.from_residual-in_err-seen.ensures.1 in
    rw (p.1, p.2) (fault_told c.args.records.now c.in_err-seen.field-0.0 (λ i e. c.in_err-seen.ensures.bad i (fault_as c.in_err-seen.field-0.0 _ e)))

pub returns-in_err-seen-clause-complete : goal.returns-in_err-seen-clause-complete
returns-in_err-seen-clause-complete c =
    let p = err_from_is_err_and c.from_residual-in_err-seen.result c.from_residual-in_err-seen.ensures.1 in
    rw (p.1, p.2) (λ d stands. fault_complete c.args.records.now c.in_err-seen.field-0.0 d (λ i e. c.in_err-seen.ensures.bad i (fault_as c.in_err-seen.field-0.0 _ e)) stands)

pub returns-clause-complete : goal.returns-clause-complete
returns-clause-complete c =
    let some = some_records c.args.records.now (sym c.is_empty.ensures ∙ c.if-is_empty.false) in
    λ d stands. c.in_ok-catalog_of.ensures ∙ stand_for_one c.args.records.now (in_order (noted_of c.in_ok-seen.seen)) d (c.in_ok-seen.ensures.read.stand some) stands
