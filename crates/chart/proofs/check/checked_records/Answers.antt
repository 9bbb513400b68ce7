use mathlib.Core.Path.{sym, ap, ◌∙◌}
use Rattle.std.specs.Prelude.{Result}
use Rattle.reading.specs.Verdict.{answer_of, verdict_of}
use Rattle.reading.specs.declared.refusal.Refusal.{Refusal}
use Rattle.reading.proofs.Places.{handed_on}
use Rattle.chart.specs.declared.check.CheckedFile.{CheckedFile}
use Rattle.chart.proofs.Files.{records_refused, records_read, from_got, ready_of}
use Rattle.chart.proofs.check.checked_records.Goals as goal

pub returns-in_err-transitions-clause-means : goal.returns-in_err-transitions-clause-means
returns-in_err-transitions-clause-means c =
    ap (λ (r : Result CheckedFile Refusal). verdict_of (answer_of r)) (handed_on _ c.from_residual.ensures.1)
    ∙ sym (ap verdict_of (records_refused _ _ _ _ c.read_records.ensures.read c.in_err-transitions.ensures.cases))

pub returns-in_err-rules_checked-clause-means : goal.returns-in_err-rules_checked-clause-means
returns-in_err-rules_checked-clause-means c =
    let m = records_read _ _ _ _ _ c.read_records.ensures.read c.read_records.ensures.laid c.requires.1 c.in_ok-transitions.ensures.cases in
    ap (λ (r : Result CheckedFile Refusal). verdict_of (answer_of r)) (handed_on _ c.from_residual-in_err-rules_checked.ensures.1)
    ∙ c.in_err-rules_checked.ensures m.0 m.3 (c.tree_of-tree.ensures m.0 m.3.stated) m.2
    ∙ ap verdict_of (sym (from_got _ _ m.1))

pub returns : goal.returns
returns c =
    let m = records_read _ _ _ _ _ c.read_records.ensures.read c.read_records.ensures.laid c.requires.1 c.in_ok-transitions.ensures.cases in
    let T = c.tree_of-tree.ensures m.0 m.3.stated in
    record {
      means = c.in_ok-rules_checked.ensures m.0 m.3 T m.2 ∙ ap verdict_of (sym (from_got _ _ m.1));
      ready = λ d h. ready_of m.3 T (sym (from_got _ _ m.1) ∙ h);
    }
