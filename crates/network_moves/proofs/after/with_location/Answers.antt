use mathlib.Core.Path.{◌≡◌, sym}
use native.Mathlib.Omega.{arith}
use lib.ListN.{length}
use lib.Seq.{set_out}
use borrow.Author.Rules.{rules}
use Rattle.network_moves.proofs.after.with_location.Goals as goal

pub returns-else-i-lt16 : goal.returns-else-i-lt16
returns-else-i-lt16 c = let e : length c.args.locations ≡ 16 = search rules in sym (set_out c.args.locations c.args.automaton _ (omega arith))
