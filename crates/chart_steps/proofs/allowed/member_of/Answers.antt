use Rattle.chart_steps.proofs.allowed.member_of.Goals as goal

pub returns : goal.returns
returns c = λ k L h. λ j. record { signal = c.signal_of.ensures k _ L h j; channel = c.channel_of.ensures k _ L h j; owner = c.home_of.ensures k L h j }
