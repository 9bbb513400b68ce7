use mathlib.Core.Path.{sym, ap, ◌∙◌}
use native.Mathlib.Omega.{arith}
use Prim.Native.Nat.{ℕ}
use lib.ListN.{length-replicate}
use Rattle.reading.specs.Answer.{done}
use Rattle.reading.specs.Verdict.{answer_of}
use Rattle.reading.proofs.Places.{handed_on}
use Rattle.network.proofs.Checking.{found}
use Rattle.network_machine.proofs.Operations.{start_refused, start_done}
use Rattle.network_machine.proofs.operation.start.Goals as goal

pub returns-in_err-counts : goal.returns-in_err-counts
returns-in_err-counts c = ap answer_of (handed_on _ c.from_residual.ensures.1) ∙ sym (start_refused _ (c.in_err-counts.ensures.means (length-replicate {A = ℕ} 1024 0)))

pub slice_bounds-start-count : goal.slice_bounds-start-count
slice_bounds-start-count c = omega (arith, c.in_ok-counts.ensures.within)

pub slice_bounds-start-start : goal.slice_bounds-start-start
slice_bounds-start-start c = omega (arith, c.in_ok-counts.ensures.within)

pub returns : goal.returns
returns c = let w = found _ _ (c.in_ok-counts.ensures.means (length-replicate {A = ℕ} 1024 0)) in
    ap done (c.start.ensures w.0 w.2.located) ∙ sym (start_done _ w.1)
