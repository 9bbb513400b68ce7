use mathlib.Core.Path.{sym, ap, ◌∙◌}
use native.Mathlib.Omega.{arith}
use Prim.Native.Nat.{ℕ}
use lib.ListN.{length-replicate}
use Rattle.reading.specs.Answer.{Answer}
use Rattle.network_records.specs.Network.{Network}
use Rattle.network.specs.Bearing.{transitions_in}
use Rattle.network.proofs.Checking.{found}
use Rattle.network.proofs.bearing.transitions_of.Goals as goal

pub slice_bounds-transitions_at-count : goal.slice_bounds-transitions_at-count
slice_bounds-transitions_at-count c = omega (arith, c.in-Ok.ensures.within)

pub slice_bounds-transitions_at-start : goal.slice_bounds-transitions_at-start
slice_bounds-transitions_at-start c = omega (arith, c.in-Ok.ensures.within)

pub returns-in-Ok : goal.returns-in-Ok
returns-in-Ok c = let w = found _ _ (c.in-Ok.ensures.means (length-replicate {A = ℕ} 1024 0)) in
    c.transitions_at.ensures w.0 w.2 ∙ ap (λ (d : Answer Network). transitions_in d c.args.list.now) (sym w.1)

pub returns-in-Err : goal.returns-in-Err
returns-in-Err c = ap (λ (d : Answer Network). transitions_in d c.args.list.now) (sym (c.in-Err.ensures.means (length-replicate {A = ℕ} 1024 0)))
