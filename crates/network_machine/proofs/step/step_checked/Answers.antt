use mathlib.Core.Path.{sym, ◌∙◌}
use Rattle.network_moves.proofs.Stepping.{not_configuration, not_known}
use Rattle.network_machine.proofs.step.step_checked.Goals as goal

pub returns-then-not-is_configuration : goal.returns-then-not-is_configuration
returns-then-not-is_configuration c = λ n L. sym (not_configuration n c.args.c _ (sym (c.is_configuration.ensures n L.located) ∙ c.if-not-is_configuration.true))

pub returns-then-not-known : goal.returns-then-not-known
returns-then-not-known c = λ n L. let h = sym (c.is_configuration.ensures n L.located) ∙ c.if-not-is_configuration.false in
    sym (not_known n c.args.c _ h L.edges (sym c.known.ensures ∙ c.if-not-known.true))

pub returns : goal.returns
returns c = λ n L. let h = sym (c.is_configuration.ensures n L.located) ∙ c.if-not-is_configuration.false in
    c.step_along.ensures n L h (sym c.known.ensures ∙ c.if-not-known.false)
