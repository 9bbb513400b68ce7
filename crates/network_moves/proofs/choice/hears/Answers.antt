use mathlib.Core.Path.{ap₂}
use mathlib.Core.Bool.{◌&&◌}
use Prim.Native.Nat.{ℕ}
use lib.Dec.{eqb}
use Rattle.labels.specs.Label.{receives}
use Rattle.network_moves.proofs.choice.hears.Goals as goal

pub returns : goal.returns
unfolding receives
returns c = λ k n L h. let K = c.edge_of-e.ensures k n L h in ap₂ (λ (x y : ℕ). eqb x 2 && eqb y c.args.channel) K.signal K.channel
