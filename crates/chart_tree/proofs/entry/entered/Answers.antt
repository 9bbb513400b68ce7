use Rattle.chart_tree.proofs.Entries.{entered_unknown, entered_unmarked, entered_single, enters_of, kind_parallel}
use native.Mathlib.Omega.{arith}
use mathlib.Core.Path.{sym, ◌∙◌}
use borrow.Author.Rules.{rules}
use Rattle.chart_tree.proofs.entry.entered.Goals as goal

pub returns-then-destination-t : goal.returns-then-destination-t
returns-then-destination-t c = λ d T r5 r8. entered_unknown d _ T r5 r8 _ _ _ (search rules) c.if-destination-t.true

pub returns-then-d-ge-STATES : goal.returns-then-d-ge-STATES
returns-then-d-ge-STATES c = λ d T r5 r8. absurd (omega (arith, T.count, T.few, c.if-d-ge-STATES.true, c.if-destination-t.false))

pub returns-then-entry-eq255 : goal.returns-then-entry-eq255
returns-then-entry-eq255 c = λ d T r5 r8. entered_single d _ T r5 r8 _ _ _ (search rules) c.if-entry-eq255.true c.if-d-ge-STATES.false c.if-destination-t.false

pub returns-then-not-has : goal.returns-then-not-has
returns-then-not-has c = λ d T r5 r8. entered_unmarked d _ T r5 r8 _ _ _ (search rules) c.if-entry-eq255.false c.if-d-ge-STATES.false (sym c.has.ensures ∙ c.if-not-has.true)

pub returns-then-t-d-eq2 : goal.returns-then-t-d-eq2
returns-then-t-d-eq2 c =
    λ d T r5 r8.
    let E = enters_of d _ T r5 r8 _ _ c.if-entry-eq255.false c.if-d-ge-STATES.false c.if-destination-t.false (sym c.has.ensures ∙ c.if-not-has.false) in
    c.enter_parallel.ensures d E (kind_parallel d _ _ _ _ _ E _ c.if-d-ge-STATES.false c.if-t-d-eq2.true)

pub returns-else-t-d-eq2 : goal.returns-else-t-d-eq2
returns-else-t-d-eq2 c =
    λ d T r5 r8. c.enter_sequential.ensures d (enters_of d _ T r5 r8 _ _ c.if-entry-eq255.false c.if-d-ge-STATES.false c.if-destination-t.false
    (sym c.has.ensures ∙ c.if-not-has.false))
