use Rattle.std.proofs.Common.{ℕ, sym, ap, ◌∙◌}
use Rattle.reading.specs.Answer.{Answer}
use Rattle.reading.specs.Verdict.{verdict_of, verdict_number, or_kept}
use Rattle.chart_moves.specs.Machine.{longest_of}
use Rattle.library.specs.Flags.{longest_lent}
use Rattle.library.proofs.Lending.{told_flags, told_no_flags}
use Rattle.library.proofs.charts.figrummy_longest_wait_chart.Goals as goal

pub returns-then-not-are_flags : goal.returns-then-not-are_flags
unfolding longest_lent
returns-then-not-are_flags c =
    told_no_flags _ _ (longest_of c.args.file.now) _ (sym c.are_flags.ensures ∙ c.if-not-are_flags.true) c.no_flags.ensures

pub returns : goal.returns
unfolding longest_lent
returns c =
    told_flags _ _ (longest_of c.args.file.now) _ (sym c.are_flags.ensures ∙ c.if-not-are_flags.false) c.flags_of.ensures
    (c.tell.ensures.0 ∙ ap (λ (a : Answer ℕ). verdict_number (verdict_of a)) c.longest.ensures, c.tell.ensures.1 ∙ ap (or_kept c.args.ticks.now) c.longest.ensures)
