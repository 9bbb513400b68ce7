use native.Mathlib.Omega.{arith}
use Rattle.network_records.proofs.Edges.{few_channels}
use Rattle.network_records.proofs.edge.channels_of.Goals as goal

pub returns : goal.returns
returns c = λ g. let e = few_channels c.args.counts g in omega (arith, e)
