use native.Mathlib.Omega.{arith}
use mathlib.Core.Path.{refl}
use Rattle.flattener.proofs.Outputs.{product_small}
use Rattle.flattener.proofs.output.locations_length.Goals as goal

pub overflow_mul-result-2 : goal.overflow_mul-result-2
overflow_mul-result-2 c = let l = product_small c.args.places c.args.clocks (omega arith) (omega arith) in omega arith

pub returns : goal.returns
returns c = record { is = refl; small = product_small c.args.places c.args.clocks (omega arith) (omega arith) }
