use mathlib.Core.Path.{sym, ap, ◌∙◌}
use mathlib.Core.List.{List}
use Rattle.network_machine.proofs.Waits.{with_clocks, not_configuration, no_ticks, past_limit, urgency, waits, bounds_broken, bounds_right}
use Rattle.network_moves.specs.Machine.{tested}
use Rattle.network_machine.proofs.wait.wait_checked.Goals as goal
use Rattle.network_machine.proofs.wait.wait_checked.Goals.{In-Some}

pub returns-then-not-is_configuration : goal.returns-then-not-is_configuration
returns-then-not-is_configuration c = λ n L. sym (not_configuration n _ _ (sym (c.is_configuration.ensures n L) ∙ c.if-not-is_configuration.true))

pub returns-then-ticks-eq0 : goal.returns-then-ticks-eq0
returns-then-ticks-eq0 c = λ n L. sym (no_ticks n _ _ (sym (c.is_configuration.ensures n L) ∙ c.if-not-is_configuration.false) c.if-ticks-eq0.true)

pub returns-in_default : goal.returns-in_default
returns-in_default c = λ n L. let h = sym (c.is_configuration.ensures n L) ∙ c.if-not-is_configuration.false in
    sym (past_limit n _ _ h c.if-ticks-eq0.false (sym L.clocks) (sym c.in_default.is ∙ c.later.ensures))

pub returns-then-urgent : goal.returns-then-urgent
returns-then-urgent c = λ n L. let h = sym (c.is_configuration.ensures n L) ∙ c.if-not-is_configuration.false in
    sym (urgency n _ _ h c.if-ticks-eq0.false (sym L.clocks) c.in-Some.ensures (sym (c.urgent.ensures n L) ∙ c.if-urgent.true))

pub returns-then-not-bounds_kept : goal.returns-then-not-bounds_kept
returns-then-not-bounds_kept c = λ n L. let h = sym (c.is_configuration.ensures n L) ∙ c.if-not-is_configuration.false in
    let u = sym (c.urgent.ensures n L) ∙ c.if-urgent.false in
    let b = sym (c.bounds_kept.ensures n L) ∙ c.if-not-bounds_kept.true in
    sym (waits n _ _ h c.if-ticks-eq0.false (sym L.clocks) c.in-Some.ensures u ∙ bounds_broken n _ b)

pub returns : goal.returns
returns c = λ n L. let h = sym (c.is_configuration.ensures n L) ∙ c.if-not-is_configuration.false in
    let u = sym (c.urgent.ensures n L) ∙ c.if-urgent.false in
    let b = sym (c.bounds_kept.ensures n L) ∙ c.if-not-bounds_kept.false in
    sym (waits n _ _ h c.if-ticks-eq0.false (sym L.clocks) c.in-Some.ensures u ∙ bounds_right n _ b)
