use mathlib.Core.Path.{sym, ap, ◌∙◌}
use Rattle.reading.proofs.Places.{onward_all}
use Rattle.console.specs.Script.{words, call_line}
use Rattle.console.proofs.Words.{FirstWord}
use Rattle.console.proofs.Steps.{call_step, call_wait, call_start, call_longest, call_unknown}
use Rattle.console.proofs.script.call_of.Goals as goal
use Rattle.console.proofs.script.call_of.Goals.{In-Some}

-- the first word
found : (c : In-Some) → FirstWord c.args.s.now (words c.args.s.now) c.in-Some.from c.in-Some.to
found c = ap words (sym (onward_all c.args.s.now)) ∙ sym c.in-Some.ensures.means

pub returns-in_default : goal.returns-in_default
unfolding call_line
returns-in_default c = c.plain.ensures ∙ ap call_line (c.in_default.ensures.means ∙ ap words (onward_all c.args.s.now))

pub returns-then-same : goal.returns-then-same
returns-then-same c = c.step_of.ensures ∙ sym (call_step _ _ (found (goal.at.returns-then-same c).In-Some) (sym c.same.ensures ∙ c.if-same.true))

pub returns-then-same-2 : goal.returns-then-same-2
returns-then-same-2 c =
    c.wait_of.ensures
    ∙ sym (call_wait _ _ (found (goal.at.returns-then-same-2 c).In-Some) (sym c.same.ensures ∙ c.if-same.false) (sym c.same-else-same.ensures ∙ c.if-same-2.true))

pub returns-then-same-3 : goal.returns-then-same-3
returns-then-same-3 c =
    c.alone.ensures
    ∙ sym (call_start _ _ (found (goal.at.returns-then-same-3 c).In-Some) (sym c.same.ensures ∙ c.if-same.false) (sym c.same-else-same.ensures ∙ c.if-same-2.false)
    (sym c.same-else-same-2.ensures ∙ c.if-same-3.true))

pub returns-then-same-4 : goal.returns-then-same-4
returns-then-same-4 c =
    c.alone-then-same-4.ensures
    ∙ sym (call_longest _ _ (found (goal.at.returns-then-same-4 c).In-Some) (sym c.same.ensures ∙ c.if-same.false) (sym c.same-else-same.ensures ∙ c.if-same-2.false)
    (sym c.same-else-same-2.ensures ∙ c.if-same-3.false) (sym c.same-else-same-3.ensures ∙ c.if-same-4.true))

pub returns-else-same-4 : goal.returns-else-same-4
returns-else-same-4 c =
    c.plain-else-same-4.ensures
    ∙ sym (call_unknown _ _ (found (goal.at.returns-else-same-4 c).In-Some) (sym c.same.ensures ∙ c.if-same.false) (sym c.same-else-same.ensures ∙ c.if-same-2.false)
    (sym c.same-else-same-2.ensures ∙ c.if-same-3.false) (sym c.same-else-same-3.ensures ∙ c.if-same-4.false))
