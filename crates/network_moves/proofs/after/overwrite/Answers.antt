use native.Mathlib.Omega.{arith}
use lib.Bits.{and_le_l}
use Rattle.lists.proofs.Bits.{bits_over}
use Rattle.network_moves.specs.Machine.{overwrite}
use Rattle.network_moves.proofs.after.overwrite.Goals as goal

pub overflow_sub-result : goal.overflow_sub-result
overflow_sub-result c = and_le_l c.args.flags c.args.written

pub returns : goal.returns
unfolding overwrite
returns c = bits_over 8 c.args.flags c.args.written c.args.values (omega arith) (omega arith)
