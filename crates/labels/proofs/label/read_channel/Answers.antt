use mathlib.Core.Path.{sym, ◌∙◌}
use Rattle.reading.proofs.Places.{such_got, such_not, such_fault, read_err}
use Rattle.labels.proofs.label.read_channel.Goals as goal

pub returns-in_err-channel : goal.returns-in_err-channel
returns-in_err-channel c = read_err _ _ _ c.from_residual.ensures.1 (such_fault _ _ _ (sym c.in_err-channel.ensures.means))

pub returns-then-channel_fits : goal.returns-then-channel_fits
returns-then-channel_fits c = sym (such_got _ _ _ (sym c.in_ok-channel.ensures.means) (sym c.channel_fits.ensures ∙ c.if-channel_fits.true))

pub returns-else-channel_fits : goal.returns-else-channel_fits
returns-else-channel_fits c = sym (such_not _ _ _ (sym c.in_ok-channel.ensures.means) (sym c.channel_fits.ensures ∙ c.if-channel_fits.false))
