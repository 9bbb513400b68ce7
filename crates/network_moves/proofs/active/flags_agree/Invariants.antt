use mathlib.Core.Path.{◌≡◌}
use mathlib.Core.Bool.{Bool, beq}
use mathlib.Core.List.{List}
use Prim.Native.Nat.{ℕ}
use lib.ListN.{get_or, drop}
use Rattle.lists.specs.Lists.{all, below, has, implies}
use Rattle.network_records.specs.Network.{Edge}
use Rattle.network_records.specs.Edges.{Kept}
use Rattle.network_records.specs.declared.header.Counts.{Counts}
use Rattle.network_moves.proofs.active.flags_agree.Given as goal

abbrev agrees : List ℕ → Edge → ℕ → Bool
agrees flags d b = implies (has d.tested b) (beq (has (get_or flags b 0) d.exit) (has d.needed b))

abbrev pub invariant-loop-a : goal.invariant-loop-a
invariant-loop-a l = (k : Counts) (s : List ℕ) (d : Edge) → Kept k s l.e d → all (agrees l.c.flags d) (below 16) ≡ all (agrees l.c.flags d) (drop l.a (below 16))
