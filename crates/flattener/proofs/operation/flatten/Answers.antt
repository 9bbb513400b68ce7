use native.Mathlib.Omega.{arith}
use mathlib.Core.Path.{◌≡◌, sym, ap, ◌∙◌, subst}
use mathlib.Core.List.{List}
use Prim.Native.Nat.{ℕ, ◌≤◌}
use lib.ListN.{length}
use Rattle.reading.specs.Answer.{done}
use Rattle.reading.specs.Verdict.{answer_of, verdict_of}
use Rattle.reading.proofs.Places.{part_onward, handed_on}
use Rattle.reading.proofs.Verdicts.{verdict_done_at, verdict_refused_at}
use Rattle.chart_records.specs.Rules.{chart_of}
use Rattle.chart.specs.Ready.{Ready}
use Rattle.chart.proofs.Files.{chart_long}
use Rattle.flattener.proofs.Delivered.{flatten_refused, flatten_passed}
use Rattle.flattener.proofs.operation.flatten.Goals as goal

-- a file that passes has a header
long : (file : List ℕ) → done tt ≡ verdict_of (chart_of file) → 3 ≤ length file
long file h = omega (arith, chart_long file (verdict_done_at (chart_of file) (sym h)).1)

pub returns-in_err-f-clause-answer : goal.returns-in_err-f-clause-answer
returns-in_err-f-clause-answer c =
    ap answer_of (handed_on _ c.from_residual.ensures.1)
    ∙ (flatten_refused _ c.args.out.now (verdict_refused_at _ (sym c.in_err-f.ensures.means))).is

pub returns-in_err-f-clause-bytes : goal.returns-in_err-f-clause-bytes
returns-in_err-f-clause-bytes c = (flatten_refused _ c.args.out.now (verdict_refused_at _ (sym c.in_err-f.ensures.means))).bytes

pub slice_bounds-flatten_checked-count : goal.slice_bounds-flatten_checked-count
slice_bounds-flatten_checked-count c = long _ c.in_ok-f.ensures.means

pub slice_bounds-flatten_checked-start : goal.slice_bounds-flatten_checked-start
slice_bounds-flatten_checked-start c = long _ c.in_ok-f.ensures.means

pub returns : goal.returns
returns c =
    let d = verdict_done_at (chart_of c.args.file.now) (sym c.in_ok-f.ensures.means) in
    let ready = c.in_ok-f.ensures.ready d.0 d.1 in
    let a = c.flatten_checked.ensures d.0 (c.args.file.now, d.1) (subst (λ (l : List ℕ). Ready l c.in_ok-f.f.counts c.in_ok-f.f.offsets c.in_ok-f.f.tree d.0) (sym (part_onward c.args.file.now 3)) ready) in
    let z = flatten_passed c.args.file.now c.args.out.now d.1 a in
    record { answer = z.is; bytes = z.bytes }
