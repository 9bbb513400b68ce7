use mathlib.Core.Path.{refl}
use mathlib.Core.Logic.{⊎_elim}
use native.Mathlib.Omega.{arith}
use borrow.Author.Tests.{ne_eqb}
use Rattle.console.specs.Script.{is_space}
use Rattle.console.proofs.script.is_space.Goals as goal

pub returns-in-32 : goal.returns-in-32
unfolding is_space
returns-in-32 c = ⊎_elim (λ e. rw e refl) (λ h. ⊎_elim (λ e. rw e refl) (λ e. rw e refl) h) c.in-32.is

pub returns-in_default : goal.returns-in_default
unfolding is_space
returns-in_default c = rw (ne_eqb c.args.b 32 (λ e. grind arith), ne_eqb c.args.b 9 (λ e. grind arith), ne_eqb c.args.b 13 (λ e. grind arith)) refl
