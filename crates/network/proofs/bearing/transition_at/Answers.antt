use mathlib.Core.Path.{sym, ◌∙◌}
use mathlib.Core.List.{map}
use Prim.Native.Nat.{◌≤◌}
use native.Mathlib.Omega.{arith}
use lib.ListN.{length, length-map, get_or-eq_default}
use Rattle.lists.proofs.Lists.{get_d_map}
use Rattle.network.specs.Bearing.{transition_of}
use Rattle.network.proofs.bearing.transition_at.Goals as goal

pub returns-then-i-list : goal.returns-then-i-list
returns-then-i-list c = λ n L. c.transition_of.ensures n L ∙ sym (get_d_map (transition_of n) c.args.list.now c.args.i 0 255 c.if-i-list.true)

pub returns-else-i-list : goal.returns-else-i-list
returns-else-i-list c = λ n L. let past : length (map (transition_of n) c.args.list.now) ≤ c.args.i = omega (arith, c.if-i-list.false, length-map c.args.list.now (transition_of n)) in
    sym (get_or-eq_default (map (transition_of n) c.args.list.now) 255 past)
