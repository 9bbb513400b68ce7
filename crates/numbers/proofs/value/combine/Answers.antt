use borrow.Author.Rules.{rules}
use native.Mathlib.Omega.{arith}
use mathlib.Core.Path.{◌∙◌}
use lib.IntN.{◌+ℤ◌, ◌-ℤ◌, ◌*ℤ◌}
use mir.Syntax.{w32}
use mir.Val.{SFits}
use Rattle.numbers.specs.Value.{exactly}
use Rattle.numbers.proofs.Integers.{read_both}
use Rattle.numbers.proofs.Values.{exactly_if, combined_left, combined_right, combined_sum, combined_difference, combined_product}
use Rattle.numbers.proofs.value.combine.Goals as goal
use Rattle.numbers.proofs.value.combine.Goals.{In_ok-b}

-- the arguments are of 32 bits
fits : (c : In_ok-b) → SFits w32 c.in_ok-a.a × SFits w32 c.in_ok-b.b
fits c = (search rules, search rules)

pub returns-in_err-a : goal.returns-in_err-a
returns-in_err-a c = c.from_residual.ensures ∙ combined_left _ _ c.in_err-a.was

pub returns-in_err-b : goal.returns-in_err-b
returns-in_err-b c = c.from_residual-in_err-b.ensures ∙ combined_right _ _ c.in_ok-a.was c.in_err-b.was

pub returns-in-2 : goal.returns-in-2
returns-in-2 c =
    let f = fits (goal.at.returns-in-2 c).In_ok-b in
    exactly_if _ _ c.checked_add.ensures ∙ read_both (λ x y. exactly (x +ℤ y)) f.0 f.1 ∙ combined_sum c.in_ok-a.was c.in_ok-b.was c.in-2.is

pub returns-in-3 : goal.returns-in-3
returns-in-3 c =
    let f = fits (goal.at.returns-in-3 c).In_ok-b in
    exactly_if _ _ c.checked_sub.ensures ∙ read_both (λ x y. exactly (x -ℤ y)) f.0 f.1 ∙ combined_difference c.in_ok-a.was c.in_ok-b.was c.in-3.is

pub returns-in_default : goal.returns-in_default
returns-in_default c =
    let f = fits (goal.at.returns-in_default c).In_ok-b in
    exactly_if _ _ c.checked_mul.ensures ∙ read_both (λ x y. exactly (x *ℤ y)) f.0 f.1 ∙ combined_product c.in_ok-a.was c.in_ok-b.was (omega arith) (omega arith)
