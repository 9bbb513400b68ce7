use Rattle.std.proofs.Common.{ℕ, List, ◌+◌, ◌*◌, ◌-◌, ◌≡◌, true, false, ◌<◌}
use Rattle.chart_records.specs.Chart.{Chart, parallel}
use Rattle.chart_records.specs.Tree.{fixed}
use Rattle.flatten_alternatives.specs.Choosing.{Kept, Clear, Choosing}
use Rattle.flatten_alternatives.proofs.Chosen.{Adding, Multiplying}
use Rattle.flatten_alternatives.proofs.alternative.+choose_choose_parallel_choose_sequential.Given as goal

abbrev pub decreases-choose : goal.decreases-choose
decreases-choose l = 2 * (48 - l.x) + 1

abbrev pub decreases-choose_parallel : goal.decreases-choose_parallel
decreases-choose_parallel l = 2 * (48 - l.s)

abbrev pub decreases-choose_sequential : goal.decreases-choose_sequential
decreases-choose_sequential l = 2 * (48 - l.s)

abbrev pub invariant-choose_parallel-loop-x : goal.invariant-choose_parallel-loop-x
invariant-choose_parallel-loop-x l =
    (c : Chart) (xs : List ℕ) → Choosing c l.parents l.kinds l.exits l.numbers l.s → l.exit < 8 → fixed c l.s ≡ false → parallel c l.s ≡ true → Clear c l.s xs → Kept l.from l.size xs → Multiplying c l.exit l.s xs l.joined l.made l.x

abbrev pub invariant-choose_sequential-loop-x : goal.invariant-choose_sequential-loop-x
invariant-choose_sequential-loop-x l =
    (c : Chart) (xs ys : List ℕ) → Choosing c l.parents l.kinds l.exits l.numbers l.s → l.exit < 8 → fixed c l.s ≡ false → parallel c l.s ≡ false → Clear c l.s xs → Kept l.from l.size xs → Kept l.initial.to l.count ys → Adding c l.exit l.s xs ys l.to l.total l.x
