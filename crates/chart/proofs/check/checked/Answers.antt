use mathlib.Core.Path.{sym, ap, ◌∙◌}
use mathlib.Core.List.{List}
use Prim.Native.Nat.{ℕ}
use Rattle.std.specs.Prelude.{Result}
use Rattle.reading.specs.Places.{onward}
use Rattle.reading.specs.Verdict.{answer_of, verdict_of}
use Rattle.reading.specs.declared.refusal.Refusal.{Refusal}
use Rattle.reading.proofs.Places.{part_onward, handed_on}
use Rattle.chart_records.proofs.Ranges.{counts_of_at}
use Rattle.chart.specs.Ready.{chart_from}
use Rattle.chart.specs.declared.check.CheckedFile.{CheckedFile}
use Rattle.chart.proofs.Files.{header_refused, header_passed, file_ready, rest_short}
use Rattle.chart.proofs.check.checked.Goals as goal

pub returns-in_err-counts-clause-means : goal.returns-in_err-counts-clause-means
returns-in_err-counts-clause-means c =
    ap (λ (r : Result CheckedFile Refusal). verdict_of (answer_of r)) (handed_on _ c.from_residual.ensures.1)
    ∙ sym (ap verdict_of (header_refused _ (sym c.in_err-counts.ensures.means)))

pub checked_records-requires : goal.checked_records-requires
checked_records-requires c = let h = sym c.in_ok-counts.ensures.means in ((counts_of_at _ h).1, rest_short _ h)

pub returns-clause-means : goal.returns-clause-means
returns-clause-means c =
    c.checked_records.ensures.means
    ∙ ap (λ (l : List ℕ). verdict_of (chart_from c.in_ok-counts.counts (onward l 8))) (part_onward c.args.file.now 3)
    ∙ ap verdict_of (sym (header_passed _ (sym c.in_ok-counts.ensures.means)))

pub returns-clause-ready : goal.returns-clause-ready
returns-clause-ready c = file_ready _ _ (sym c.in_ok-counts.ensures.means) c.checked_records.ensures.ready
