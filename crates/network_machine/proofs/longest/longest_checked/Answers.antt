use mathlib.Core.Path.{sym, ap, ◌∙◌}
use Rattle.reading.specs.Answer.{done}
use Rattle.clocks.proofs.Ticks.{was_kept, was_broken}
use Rattle.network_machine.proofs.Waits.{longest_elsewhere, longest_urgent, longest_ticks}
use Rattle.network_machine.proofs.longest.longest_checked.Goals as goal

pub returns-in_default : goal.returns-in_default
returns-in_default c = λ n L. sym (longest_elsewhere n _ (was_broken _ _ (sym c.in_default.is ∙ c.ticks_left.ensures n L)))

pub returns-then-urgent : goal.returns-then-urgent
returns-then-urgent c = λ n L. let w = was_kept _ _ (c.in-Some.ensures n L) in
    sym (longest_urgent n _ w.0 (sym (c.urgent.ensures n L) ∙ c.if-urgent.true))

pub returns : goal.returns
returns c = λ n L. let w = was_kept _ _ (c.in-Some.ensures n L) in
    ap done w.1 ∙ sym (longest_ticks n _ w.0 (sym (c.urgent.ensures n L) ∙ c.if-urgent.false))
