use borrow.Author.Tests.{eq-eqb, ne_eqb}
use Rattle.labels.specs.Label.{channel_fits}
use Rattle.labels.proofs.label.channel_fits.Goals as goal

pub returns-then-signal-eq0 : goal.returns-then-signal-eq0
unfolding channel_fits
returns-then-signal-eq0 c = rw (eq-eqb _ _ c.if-signal-eq0.true)

pub returns-else-signal-eq0 : goal.returns-else-signal-eq0
unfolding channel_fits
returns-else-signal-eq0 c = rw (ne_eqb _ _ c.if-signal-eq0.false)
