use mathlib.Core.Path.{◌≡◌, sym, ap}
use Prim.Native.Nat.{ℕ}
use native.Mathlib.Omega.{arith}
use lib.ListN.{length, set}
use lib.Seq.{set_out}
use borrow.Author.Rules.{rules}
use Rattle.network_moves.proofs.after.with_flags.Goals as goal

pub returns-then-i-lt16 : goal.returns-then-i-lt16
returns-then-i-lt16 c = ap (λ (v : ℕ). set c.args.flags c.args.automaton v) c.overwrite.ensures

pub returns-else-i-lt16 : goal.returns-else-i-lt16
returns-else-i-lt16 c = let e : length c.args.flags ≡ 16 = search rules in sym (set_out c.args.flags c.args.automaton _ (omega arith))
