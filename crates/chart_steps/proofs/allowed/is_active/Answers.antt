use mathlib.Core.Path.{◌∙◌}
use Rattle.chart_steps.proofs.Choices.{source_idle, guards_fail, basic_active, composite_active, source_complete}
use Rattle.chart_steps.proofs.allowed.is_active.Goals as goal

pub returns-then-not-is_in : goal.returns-then-not-is_in
returns-then-not-is_in c = λ k R h. source_idle k c.args.given _ (c.source_of-source.ensures k _ R.ready.laid h) c.is_in.ensures (c.if-not-is_in.true)

pub returns-then-not-guards_hold : goal.returns-then-not-guards_hold
returns-then-not-guards_hold c =
    λ k R h. guards_fail k c.args.given _ (c.source_of-source.ensures k _ R.ready.laid h) c.is_in.ensures (c.if-not-is_in.false)
    (c.guards_hold.ensures k R.ready.laid h) (c.if-not-guards_hold.true)

pub returns-then-kind_of-eq0 : goal.returns-then-kind_of-eq0
returns-then-kind_of-eq0 c =
    λ k R h. basic_active k c.args.given _ (c.source_of-source.ensures k _ R.ready.laid h) c.is_in.ensures (c.if-not-is_in.false)
    (c.guards_hold.ensures k R.ready.laid h) (c.if-not-guards_hold.false) (c.kind_of.ensures k R.ready.laid.stated)
    c.if-kind_of-eq0.true

pub returns : goal.returns
returns c =
    λ k R h. composite_active k c.args.given _ (c.source_of-source.ensures k _ R.ready.laid h) c.is_in.ensures (c.if-not-is_in.false)
    (c.guards_hold.ensures k R.ready.laid h) (c.if-not-guards_hold.false) (c.kind_of.ensures k R.ready.laid.stated) c.if-kind_of-eq0.false
    (c.exit_of.ensures k _ R.ready.laid h) (c.is_complete.ensures ∙ source_complete R _ h (c.source_of-source.ensures k _ R.ready.laid h) (c.exit_of.ensures k _ R.ready.laid h) c.is_in.ensures (c.if-not-is_in.false) (c.kind_of.ensures k R.ready.laid.stated) c.if-kind_of-eq0.false)
