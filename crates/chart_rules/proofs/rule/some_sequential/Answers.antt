use mathlib.Core.Path.{ap}
use Prim.Native.Nat.{ℕ}
use lib.Dec.{leb}
use Rattle.chart_records.specs.Rules.{some_sequential}
use Rattle.chart_rules.proofs.rule.some_sequential.Goals as goal

pub returns : goal.returns
unfolding some_sequential
returns c = λ k S. ap (λ (n : ℕ). leb 1 n) (c.count_sequentials.ensures k S)
