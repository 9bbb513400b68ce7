use Rattle.std.proofs.Common.{◌≡◌, ℕ, ◌≤◌, true, List, length, sym, ◌∙◌, subst, arith}
use Rattle.steps.specs.Moves.{known}
use Rattle.reading.proofs.Answer.{refused_not}
use Rattle.reading.proofs.Places.{part_onward}
use Rattle.reading.proofs.Verdicts.{verdict_done_at, verdict_refused_at}
use Rattle.chart_records.specs.Laid.{Laid}
use Rattle.chart_records.specs.Rules.{chart_of}
use Rattle.chart.proofs.Files.{chart_long}
use Rattle.paired_run.proofs.owe.named.Goals as goal
use Rattle.paired_run.proofs.owe.named.Goals.{In-Ok}

long : (c : In-Ok) → 11 ≤ length c.args.file.now
long c = chart_long _ (verdict_done_at (chart_of _) (sym c.in-Ok.ensures.means)).1

pub slice_bounds-named_in-count : goal.slice_bounds-named_in-count
slice_bounds-named_in-count c = omega (arith, long c)

pub slice_bounds-named_in-start : goal.slice_bounds-named_in-start
slice_bounds-named_in-start c = omega (arith, long c)

pub returns-in-Ok : goal.returns-in-Ok
returns-in-Ok c =
    λ d h right.
    let laid = (c.in-Ok.ensures.ready d h).laid in
    let here = subst (λ (l : List ℕ). Laid l c.in-Ok.f.counts c.in-Ok.f.offsets d) (sym (part_onward c.args.file.now 3)) laid in
    c.named_in.ensures d c.in-Ok.f.counts here (subst (λ (k : ℕ). known k c.args.list.now ≡ true) laid.transitions right)

pub returns-in-Err : goal.returns-in-Err
returns-in-Err c = λ d h right. refused_not (sym (verdict_refused_at (chart_of _) (sym c.in-Err.ensures.means)) ∙ h)
