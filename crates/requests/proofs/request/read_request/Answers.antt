use mathlib.Core.Path.{sym, ap, ◌∙◌}
use native.Mathlib.Omega.{arith}
use borrow.Author.Tests.{ltb-true}
use Rattle.reading.specs.Reading.{byte}
use Rattle.reading.proofs.Reading.{such_at}
use Rattle.reading.proofs.Places.{bind_fault, handed_on}
use Rattle.requests.specs.Requests.{request, request_of}
use Rattle.requests.proofs.Requests.{file_fault, request_got, request_fault, request_past}
use Rattle.requests.proofs.request.read_request.Goals as goal

pub returns-in_err-code : goal.returns-in_err-code
unfolding request
returns-in_err-code c =
    let e = handed_on _ c.from_residual.ensures.1 in
    record { means = ap (request_of _) e ∙ sym (bind_fault _ _ _ (sym c.in_err-code.ensures.means)); within = rw e (omega arith); beyond = rw e tt }

pub returns-in_err-file : goal.returns-in_err-file
returns-in_err-file c =
    let e = handed_on _ c.from_residual-in_err-file.ensures.1 in
    record {
      means = ap (request_of _) e ∙ sym (file_fault _ (sym c.in_ok-code.ensures.means) (sym c.in_err-file.ensures.means));
      within = rw e (omega arith);
      beyond = rw e tt;
    }

pub read_operation-requires : goal.read_operation-requires
read_operation-requires c = (c.in_ok-file.ensures.within, ltb-true _ 12 (such_at byte _ _ (sym c.in_ok-code.ensures.means)).0)

pub returns-in_err-operation : goal.returns-in_err-operation
returns-in_err-operation c =
    let e = handed_on _ c.from_residual-in_err-operation.ensures.1 in
    record {
      means = ap (request_of _) e ∙ sym (request_fault _ (sym c.in_ok-code.ensures.means) (sym c.in_ok-file.ensures.means) (sym c.in_err-operation.ensures.means));
      within = rw e (omega arith);
      beyond = rw e tt;
    }

pub returns : goal.returns
returns c =
    let e = request_got _ (sym c.in_ok-code.ensures.means) (sym c.in_ok-file.ensures.means) (sym c.in_ok-operation.ensures.means) in
    record { means = sym e; within = c.in_ok-operation.ensures.within; beyond = request_past _ _ _ e c.in_ok-operation.ensures.within }
