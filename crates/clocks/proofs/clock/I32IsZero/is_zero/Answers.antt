use Rattle.clocks.proofs.Clocks.{zero_bits}
use Rattle.clocks.proofs.clock.I32IsZero.is_zero.Goals as goal

pub returns : goal.returns
returns c = zero_bits _ c.ranges.self
