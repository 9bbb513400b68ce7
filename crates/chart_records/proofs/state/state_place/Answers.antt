use mathlib.Core.Path.{refl}
use native.Mathlib.Omega.{arith}
use Rattle.chart_records.proofs.States.{place_small}
use Rattle.chart_records.proofs.state.state_place.Goals as goal

pub overflow_mul-result-2 : goal.overflow_mul-result-2
overflow_mul-result-2 c = let l = place_small c.args.clocks c.args.s (omega arith) (omega arith) in omega arith

pub overflow_add-result-2 : goal.overflow_add-result-2
overflow_add-result-2 c = let l = place_small c.args.clocks c.args.s (omega arith) (omega arith) in omega arith

pub returns : goal.returns
returns c = let l = place_small c.args.clocks c.args.s (omega arith) (omega arith) in record { is = refl; small = omega arith }
