use borrow.Author.Tests.{le-leb}
use Rattle.lists.proofs.Bools.{cond_yes}
use mathlib.Core.Path.{◌≡◌, ap, ap₂, ◌∙◌}
use lib.IntN.{ℤ, pos, ◌+ℤ◌}
use Prim.Native.Nat.{◌≤◌}
use mir.Syntax.{w32}
use mir.Val.{to_z, of_z}
use Rattle.numbers.specs.Integer.{floor_div, floor_mod}
use Rattle.numbers.specs.Value.{exactly}
use Rattle.numbers.proofs.Integers.{read_back}
use Rattle.updates.specs.Update.{stays, updated, steps_after, remainder_after, total}
use Rattle.updates.proofs.update.after_advance.Goals as goal
use Rattle.updates.proofs.update.after_advance.Goals.{After-remainder_after-kept, After-steps_after-steps}

-- the new steps, from the old pair
stepped : (c : After-steps_after-steps) → 1 ≤ c.args.a.denominator → c.steps_after-steps.result ≡ steps_after c.args.old c.args.a
unfolding steps_after total
stepped c h =
    c.steps_after-steps.ensures
    ∙ cond_yes _ _ (le-leb 1 c.args.a.denominator h)
    ∙ ap₂ (λ (x' y' : ℤ). exactly (x' +ℤ floor_div (y' +ℤ pos c.args.a.numerator) c.args.a.denominator))
    (read_back _ c.variable_value-before.type_inv ∙ c.variable_value-before.ensures) (read_back _ c.variable_value-rest.type_inv ∙ c.variable_value-rest.ensures)

-- and the new remainder
remained : (c : After-remainder_after-kept) → 1 ≤ c.args.a.denominator → to_z w32 (of_z w32 c.remainder_after-kept.result) ≡ remainder_after c.args.old c.args.a
unfolding remainder_after total
remained c h =
    read_back _ c.remainder_after-kept.type_inv
    ∙ c.remainder_after-kept.ensures
    ∙ cond_yes _ _ (le-leb 1 c.args.a.denominator h)
    ∙ ap (λ (y' : ℤ). floor_mod (y' +ℤ pos c.args.a.numerator) c.args.a.denominator) (read_back _ c.variable_value-rest.type_inv ∙ c.variable_value-rest.ensures)

pub returns : goal.returns
unfolding stays updated
returns c h =
    let s = stepped (goal.at.returns c).After-steps_after-steps h in
    let r = remained (goal.at.returns c).After-remainder_after-kept h in
    rw (c.stored.ensures, c.after_assignment-counted.ensures, r, s)
