use mathlib.Core.List.{[]}
use mathlib.Core.Path.{refl, sym, ap, ◌∙◌}
use native.Mathlib.Omega.{arith}
use Rattle.lists.specs.Lists.{padded}
use Rattle.clocks.specs.Clocks.{no_bound}
use Rattle.reading.specs.Places.{read_of}
use Rattle.reading.proofs.Places.{handed_on}
use Rattle.reading.proofs.Many.{going_none, going_more, going_stop, going_all}
use Rattle.lists.proofs.Loops.{padded_more}
use Rattle.clocks.proofs.Rows.{row_got, row_fault}
use Rattle.clocks.proofs.clock.read_row.Goals as goal

pub loop-i-init : goal.loop-i-init
unfolding padded
loop-i-init c = ([], going_none _ _ _, refl)

pub returns-in_err-b : goal.returns-in_err-b
returns-in_err-b c =
    ap (read_of _) (handed_on _ c.from_residual.ensures.1)
    ∙ sym (row_fault _ _ (going_stop _ _ _ c.loop-i.invariant.1 (omega arith) (sym c.in_err-b.ensures)))

pub loop-i-preserved : goal.loop-i-preserved
loop-i-preserved c = (
  _,
  going_more _ _ _ c.loop-i.invariant.1 (omega arith) (sym c.in_ok-b.ensures),
  rw c.loop-i.invariant.2 (padded_more 8 no_bound c.loop-i.invariant.0 _ c.loop-i.invariant.1.count (omega arith)),
)

pub returns : goal.returns
returns c = let a = going_all _ _ _ c.loop-i.invariant.1 (omega arith) in
    rw c.loop-i.invariant.2 (sym (row_got _ _ _ _ a.0 a.1))
