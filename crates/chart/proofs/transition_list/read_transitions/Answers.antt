use mathlib.Core.Path.{refl, sym}
use native.Mathlib.Omega.{arith}
use Rattle.reading.specs.Reading.{mapped}
use Rattle.reading.proofs.Reading.{mapped_fault, mapped_at}
use Rattle.chart_records.proofs.Ranges.{counts_range}
use Rattle.reading.proofs.Sizes.{recorded_before}
use Rattle.chart_records.proofs.Transitions.{kept_none, kept_more, kept_stop, kept_all, kept_placed}
use Rattle.chart.proofs.Files.{mapped_err}
use Rattle.chart.proofs.transition_list.read_transitions.Goals as goal

pub loop-i-init : goal.loop-i-init
loop-i-init c = kept_none _ _ _ _ _ _ refl

pub returns-in_err-kept-clause-read : goal.returns-in_err-kept-clause-read
returns-in_err-kept-clause-read c = mapped_err _ _ _ _ c.from_residual.ensures.1
    (mapped_fault _ (kept_stop _ _ _ _ _ _ c.loop-i.invariant c.loop-i-test.true (sym c.in_err-kept.ensures)))

pub bounds-offsets-i : goal.bounds-offsets-i
bounds-offsets-i c = omega (arith, counts_range _ c.requires)

pub loop-i-preserved : goal.loop-i-preserved
loop-i-preserved c = let d = sym c.in_ok-kept.ensures in
    kept_more _ _ _ _ _ _ c.loop-i.invariant _ refl c.loop-i-test.true (omega (arith, counts_range _ c.requires))
    (λ h. c.offset_of.ensures (omega (arith, recorded_before _ _ _ (mapped_at _ _ d).1))) d refl

pub returns : goal.returns
unfolding mapped
returns c = record { read = sym (kept_all _ _ _ _ _ _ c.loop-i.invariant c.loop-i-test.false); placed = λ ts t h k. kept_placed _ _ _ _ _ _ c.loop-i.invariant c.loop-i-test.false h k }
