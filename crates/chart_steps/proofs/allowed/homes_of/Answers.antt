use Prim.Native.Nat.{◌<◌}
use native.Mathlib.Omega.{arith}
use lib.ListN.{length}
use Rattle.chart_records.specs.Chart.{home}
use Rattle.lists.proofs.Images.{imaged_none, imaged_more, imaged_all}
use Rattle.steps.proofs.Moves.{known_few}
use Rattle.chart_steps.proofs.Choices.{chosen_at}
use borrow.Author.Rules.{rules}
use Rattle.chart_steps.proofs.allowed.homes_of.Goals as goal
use Rattle.chart_steps.proofs.allowed.homes_of.Goals.{In-loop-i}

inside : (c : In-loop-i) → (c.loop-i.i < length c.args.list.now) × (c.loop-i.i < 16)
inside c = (omega (arith, c.min-i-end.ensures, c.loop-i-test.true), omega (arith, c.min-i-end.ensures, c.loop-i-test.true))

pub loop-i-init : goal.loop-i-init
loop-i-init c = λ k L h. imaged_none _ _ 16 _ (search rules)

pub bounds-homes-i : goal.bounds-homes-i
bounds-homes-i c = omega (arith, (inside (goal.at.bounds-homes-i c).In-loop-i).1)

pub loop-i-preserved : goal.loop-i-preserved
loop-i-preserved c = λ k L h. imaged_more _ _ 16 _ _ (c.loop-i.invariant k L h) 0 (inside (goal.at.loop-i-preserved c).In-loop-i).0 (inside (goal.at.loop-i-preserved c).In-loop-i).1 (chosen_at L _ h _ (inside (goal.at.loop-i-preserved c).In-loop-i).0 c.chosen.ensures (home k) (c.home_of.ensures k L))

pub returns : goal.returns
returns c = λ k L h. imaged_all _ _ 16 _ _ (c.loop-i.invariant k L h) (omega (arith, c.min-i-end.ensures, c.loop-i-test.false, known_few _ _ h))
