use mathlib.Core.Path.{ap}
use Prim.Native.Nat.{ℕ}
use lib.Dec.{leb}
use Rattle.chart_records.specs.Rules.{few}
use Rattle.chart_rules.proofs.rule.few.Goals as goal

pub returns : goal.returns
unfolding few
returns c = λ k S. ap (λ (n : ℕ). leb n 16) (c.count_sequentials.ensures k S)
