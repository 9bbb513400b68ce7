use mathlib.Core.Path.{sym}
use native.Mathlib.Omega.{arith}
use Rattle.lists.proofs.Bits.{subset_and}
use Rattle.lists.proofs.mark.subset.Goals as goal

pub returns : goal.returns
returns c = sym (subset_and 32 c.args.a c.args.b (omega arith))
