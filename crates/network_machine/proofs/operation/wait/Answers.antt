use mathlib.Core.Path.{sym, ap, ◌∙◌}
use native.Mathlib.Omega.{arith}
use Prim.Native.Nat.{ℕ}
use lib.ListN.{length-replicate}
use Rattle.reading.specs.Verdict.{answer_of}
use Rattle.reading.proofs.Places.{handed_on}
use Rattle.network.proofs.Checking.{found}
use Rattle.network_machine.proofs.Operations.{wait_refused, wait_done}
use Rattle.network_machine.proofs.operation.wait.Goals as goal

pub returns-in_err-counts : goal.returns-in_err-counts
returns-in_err-counts c = ap answer_of (handed_on _ c.from_residual.ensures.1) ∙ sym (wait_refused _ c.args.c c.args.ticks (c.in_err-counts.ensures.means (length-replicate {A = ℕ} 1024 0)))

pub slice_bounds-wait_checked-count : goal.slice_bounds-wait_checked-count
slice_bounds-wait_checked-count c = omega (arith, c.in_ok-counts.ensures.within)

pub slice_bounds-wait_checked-start : goal.slice_bounds-wait_checked-start
slice_bounds-wait_checked-start c = omega (arith, c.in_ok-counts.ensures.within)

pub returns : goal.returns
returns c = let w = found _ _ (c.in_ok-counts.ensures.means (length-replicate {A = ℕ} 1024 0)) in
    c.wait_checked.ensures w.0 w.2.located ∙ sym (wait_done _ c.args.c c.args.ticks w.1)
