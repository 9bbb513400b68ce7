use mathlib.Core.Path.{sym, ap₂}
use mathlib.Core.Bool.{◌&&◌}
use Rattle.network_records.specs.Network.{sound}
use Rattle.network.proofs.check.keeps_rules.Goals as goal

pub returns : goal.returns
unfolding sound
returns c = λ n L h. ap₂ ◌&&◌ (c.one_initial_each-initial.ensures n L.located) (ap₂ ◌&&◌ (c.all_join-joined.ensures n L) (ap₂ ◌&&◌ (c.all_ascend-ordered.ensures n L) (sym h)))
