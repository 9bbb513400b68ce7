use mathlib.Core.Path.{refl}
use Rattle.flattening.specs.File.{out2}
use Rattle.flatten_edges.specs.Gathering.{head_bytes}
use Rattle.flatten_edges.proofs.head.bytes_of.Goals as goal

pub returns : goal.returns
unfolding head_bytes out2
returns c = refl
