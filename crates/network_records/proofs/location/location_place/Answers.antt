use Prim.Native.Nat.{◌+◌, ◌*◌}
use native.Mathlib.Omega.{arith}
use native.Mathlib.Nat.{mul-le-mul}
use Rattle.network_records.proofs.location.location_place.Goals as goal

pub overflow_mul-result-2 : goal.overflow_mul-result-2
overflow_mul-result-2 c = let l = mul-le-mul {n₁ = c.args.i} {m₁ = 4 + 4 * c.args.clocks} {n₂ = 255} {m₂ = 1024} (omega arith) (omega arith) in omega arith

pub overflow_add-result-2 : goal.overflow_add-result-2
overflow_add-result-2 c = let l = mul-le-mul {n₁ = c.args.i} {m₁ = 4 + 4 * c.args.clocks} {n₂ = 255} {m₂ = 1024} (omega arith) (omega arith) in omega arith

pub overflow_add-result-3 : goal.overflow_add-result-3
overflow_add-result-3 c = let l = mul-le-mul {n₁ = c.args.i} {m₁ = 4 + 4 * c.args.clocks} {n₂ = 255} {m₂ = 1024} (omega arith) (omega arith) in omega arith
