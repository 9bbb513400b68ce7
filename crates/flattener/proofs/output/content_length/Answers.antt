use native.Mathlib.Omega.{arith}
use Rattle.flattener.proofs.Outputs.{content_size}
use Rattle.flattener.proofs.output.content_length.Goals as goal

pub returns : goal.returns
returns c = record { means = λ d S W. content_size d _ S c.locations_length-places.ensures.is (c.edges_length.ensures.means d _ W); small = omega arith }
