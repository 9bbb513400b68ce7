use Rattle.flatten_edges.proofs.Bears.{recalled_same, recalled_one}
use native.Mathlib.Omega.{arith}
use Rattle.flatten_edges.proofs.bear.sets_by.Goals as goal

pub returns-then-listed-exit : goal.returns-then-listed-exit
returns-then-listed-exit c d C T F A l small R = (recalled_same d _ _ R (λ z. omega arith) c.if-listed-exit.true, R)

pub returns : goal.returns
returns c d C T F A l small R = let k = c.alternatives-size.ensures d C T F A l small R.long in (k, recalled_one d _ _ _ R k)
