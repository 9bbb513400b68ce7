use borrow.Author.Rules.{rules}
use Rattle.chart_steps.proofs.Choices.{owner_unheard, owner_elsewhere, owner_idle, owner_hears}
use Rattle.chart_steps.proofs.allowed.receiver_home.Goals as goal

pub returns-then-channel_of-channel : goal.returns-then-channel_of-channel
returns-then-channel_of-channel c = λ k R h. owner_elsewhere _ _ _ _ (c.signal_of.ensures k _ R.ready.laid h) (search rules) (c.channel_of.ensures k _ R.ready.laid h) c.if-channel_of-channel.true

pub returns-then-not-is_active : goal.returns-then-not-is_active
returns-then-not-is_active c =
    λ k R h. owner_idle _ _ _ _ (c.signal_of.ensures k _ R.ready.laid h) (search rules) (c.channel_of.ensures k _ R.ready.laid h) c.if-channel_of-channel.false
    (c.is_active.ensures k R h) (c.if-not-is_active.true)

pub returns : goal.returns
returns c =
    λ k R h. owner_hears _ _ _ _ (c.signal_of.ensures k _ R.ready.laid h) (search rules) (c.channel_of.ensures k _ R.ready.laid h) c.if-channel_of-channel.false
    (c.is_active.ensures k R h) (c.if-not-is_active.false) (c.home_of.ensures k R.ready.laid h)

pub returns-then-signal_of-ne2 : goal.returns-then-signal_of-ne2
returns-then-signal_of-ne2 c = λ k R h. owner_unheard _ _ _ _ (c.signal_of.ensures k _ R.ready.laid h) c.if-signal_of-ne2.true
