use Rattle.flatten_edges.proofs.bear.signals_of.Goals as goal

pub returns : goal.returns
returns c = λ d n L h. record { signal = c.signal_of.ensures d n L h; channel = c.channel_of.ensures d n L h; resets = c.resets_of.ensures d n L h }
