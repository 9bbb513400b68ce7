use Rattle.flattener.proofs.Locating.{calm, pressing}
use Rattle.flattener.proofs.location.urgent_of.Goals as goal

pub returns-then-kind-lt-PRE : goal.returns-then-kind-lt-PRE
returns-then-kind-lt-PRE c p e = calm p e c.if-kind-lt-PRE.true

pub returns-else-kind-lt-PRE : goal.returns-else-kind-lt-PRE
returns-else-kind-lt-PRE c p e = pressing p e c.if-kind-lt-PRE.false
