use mathlib.Core.Path.{◌≡◌, sym}
use native.Mathlib.Omega.{arith}
use lib.ListN.{length, get_or-eq_default}
use borrow.Author.Rules.{rules}
use Rattle.labels.proofs.guard.time_of.Goals as goal

pub returns-else-i-lt8 : goal.returns-else-i-lt8
returns-else-i-lt8 c =
    let l : length c.args.times ≡ 8 = search rules in
    record { means = sym (get_or-eq_default c.args.times 0 {n = c.args.clock} (omega arith)); within = omega arith }
