-- Laws of tests: what a conjunction, a disjunction and an implication that hold say of their parts, and back.
use mathlib.Core.Path.{◌≡◌, refl, sym, ◌∙◌}
use mathlib.Core.Bool.{Bool, true, false, cond, not, ◌&&◌, ◌||◌, true≢false, beq}
use mathlib.Core.Logic.{◌⊎◌, inl, inr}
use Rattle.lists.specs.Lists.{implies}

-- a test that holds does not fail
pub clash : {X : Type 0} {b : Bool} → b ≡ true → b ≡ false → X
clash p q = absurd (true≢false (sym p ∙ q))

pub decided : (b : Bool) → (b ≡ true) ⊎ (b ≡ false)
decided true = inl refl
decided false = inr refl

-- what does not hold fails
pub fails : (b : Bool) → (b ≡ true → ⊥) → b ≡ false
fails true h = absurd (h refl)
fails false h = refl

pub and_l : (a b : Bool) → (a && b) ≡ true → a ≡ true
and_l true b h = refl
and_l false b h = h

pub and_r : (a b : Bool) → (a && b) ≡ true → b ≡ true
and_r true b h = h
and_r false b h = clash h refl

pub both : {a b : Bool} → a ≡ true → b ≡ true → (a && b) ≡ true
both {a} {b} p q = rw p q

pub or_l : {a : Bool} (b : Bool) → a ≡ true → (a || b) ≡ true
or_l b p = rw p

pub or_r : (a : Bool) {b : Bool} → b ≡ true → (a || b) ≡ true
or_r true q = refl
or_r false q = q

pub or_cases : (a b : Bool) → (a || b) ≡ true → (a ≡ true) ⊎ (b ≡ true)
or_cases true b h = inl refl
or_cases false b h = inr h

-- the second of two, where the first fails
pub or_else : (a b : Bool) → (a || b) ≡ true → a ≡ false → b ≡ true
or_else true b h e = clash refl e
or_else false b h e = h

-- neither of two tests holds
pub neither_l : (a b : Bool) → (a || b) ≡ false → a ≡ false
neither_l true b h = h
neither_l false b h = refl

pub neither_r : (a b : Bool) → (a || b) ≡ false → b ≡ false
neither_r true b h = clash refl h
neither_r false b h = h

pub not_yes : {a : Bool} → a ≡ false → not a ≡ true
not_yes p = rw p

pub not_no : {a : Bool} → a ≡ true → not a ≡ false
not_no p = rw p

pub implies_at : (a b : Bool) → implies a b ≡ true → a ≡ true → b ≡ true
unfolding implies
implies_at true b h e = h
implies_at false b h e = clash e refl

pub implies_by : (a b : Bool) → (a ≡ true → b ≡ true) → implies a b ≡ true
unfolding implies
implies_by true b h = h refl
implies_by false b h = refl

-- two tests are the same, if each holds where the other does
pub same : (a b : Bool) → (a ≡ true → b ≡ true) → (b ≡ true → a ≡ true) → a ≡ b
same true b f g = sym (f refl)
same false true f g = g refl
same false false f g = refl

-- the branch that is taken
pub cond_yes : {A : Type 0} {b : Bool} (x y : A) → b ≡ true → cond b x y ≡ x
cond_yes x y e = rw e

pub cond_no : {A : Type 0} {b : Bool} (x y : A) → b ≡ false → cond b x y ≡ y
cond_no x y e = rw e

-- a test compared with a truth value
pub beq_true : (b : Bool) → beq true b ≡ b
beq_true true = refl
beq_true false = refl

pub beq_false : (b : Bool) → beq false b ≡ not b
beq_false true = refl
beq_false false = refl

-- what a conjunction with a test that fails implies
pub implies_never : (a b : Bool) → implies (a && false) b ≡ true
unfolding implies
implies_never true b = refl
implies_never false b = refl

-- a part of a conjunction: `search parts`, with the conjunction in reach
pub ruleset parts = (and_l, and_r)
