use Rattle.std.proofs.Common.{◌≡◌, ◌≤◌, length, drop}
use Rattle.lists.specs.Lists.{keep}
use Rattle.flatten_alternatives.specs.Choosing.{Kept}
use Rattle.paired_run.proofs.Carrying.{is_number}
use Rattle.paired_run.proofs.carry.tabled.Given as goal

abbrev pub invariant-loop-i : goal.invariant-loop-i
invariant-loop-i l = (l.i ≤ 16) × (length l.transitions ≡ 16 → length l.initial.items ≡ 1024 → Kept l.items l.count (keep is_number (drop l.i l.transitions)))
