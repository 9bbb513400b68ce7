use Rattle.std.proofs.Common.{◌≡◌, refl, sym, ap, ◌∙◌, Result, Ok, Err}
use Rattle.std.specs.Result.{result_unwrap_or}
use Rattle.reading.specs.Answer.{done}
use Rattle.reading.specs.Verdict.{answer_of, or_kept}
use Rattle.reading.specs.declared.refusal.Refusal.{Refusal}
use Rattle.reading.proofs.Answer.{done_injective}
use Rattle.reading.proofs.Verdicts.{done_not}
use Rattle.paired_run.proofs.Following.{starts}
use Rattle.paired_run.proofs.run.start.Goals as goal

-- what is kept of a start that is done
started : {A : Type 0} (r : Result A Refusal) (d : A) {x : A} → answer_of r ≡ done x → result_unwrap_or r d ≡ x
started (Ok y) d e = done_injective e
started (Err k) d e = done_not (sym e)

-- and of one that is refused
kept : {A : Type 0} (r : Result A Refusal) (d e : A) → d ≡ e → result_unwrap_or r d ≡ or_kept e (answer_of r)
kept (Ok y) d e h = refl
kept (Err k) d e h = h

pub returns-clause-network : goal.returns-clause-network
returns-clause-network c = c.unwrap_or-network.ensures ∙ (kept c.start.result _ _ c.zero.ensures ∙ ap (or_kept _) c.start.ensures)

pub returns-clause-chart : goal.returns-clause-chart
returns-clause-chart c = c.unwrap_or-chart.ensures ∙ (kept c.start-2.result _ _ c.zero-2.ensures ∙ ap (or_kept _) c.start-2.ensures)

pub returns-clause-stands : goal.returns-clause-stands
returns-clause-stands c = λ d n F. let w = starts F c.start.ensures c.start-2.ensures in
    record {
      network = c.unwrap_or-network.ensures ∙ (started _ _ w.2 ∙ w.4.network);
      chart = c.unwrap_or-chart.ensures ∙ (started _ _ w.3 ∙ w.4.chart);
      owed = w.4.owed;
    }
