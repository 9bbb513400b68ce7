use mathlib.Core.Path.{sym, ap, ◌∙◌}
use native.Mathlib.Omega.{arith}
use Prim.Native.Nat.{ℕ}
use lib.ListN.{length-replicate}
use Rattle.reading.specs.Verdict.{answer_of}
use Rattle.reading.proofs.Places.{handed_on}
use Rattle.network.proofs.Checking.{found}
use Rattle.network_machine.proofs.Operations.{longest_refused, longest_done}
use Rattle.network_machine.proofs.operation.longest.Goals as goal

pub returns-in_err-counts : goal.returns-in_err-counts
returns-in_err-counts c = ap answer_of (handed_on _ c.from_residual.ensures.1) ∙ sym (longest_refused _ c.args.c (c.in_err-counts.ensures.means (length-replicate {A = ℕ} 1024 0)))

pub slice_bounds-longest_checked-count : goal.slice_bounds-longest_checked-count
slice_bounds-longest_checked-count c = omega (arith, c.in_ok-counts.ensures.within)

pub slice_bounds-longest_checked-start : goal.slice_bounds-longest_checked-start
slice_bounds-longest_checked-start c = omega (arith, c.in_ok-counts.ensures.within)

pub returns : goal.returns
returns c = let w = found _ _ (c.in_ok-counts.ensures.means (length-replicate {A = ℕ} 1024 0)) in
    c.longest_checked.ensures w.0 w.2.located ∙ sym (longest_done _ c.args.c w.1)
