use mathlib.Core.Path.{◌≡◌}
use lib.ListN.{length}
use Rattle.flatten_places.proofs.Filling.{paired_room, paired_more}
use native.Mathlib.Omega.{arith}
use borrow.Author.Rules.{rules}
use Rattle.flatten_places.proofs.pair.with_pair.Goals as goal

pub returns-then-i-ge-COUNT : goal.returns-then-i-ge-COUNT
returns-then-i-ge-COUNT c = λ whole rest P f. absurd (omega (arith, paired_room whole _ _ rest P, f, c.if-i-ge-COUNT.true))

pub returns : goal.returns
returns c = λ whole rest P f.
    let z : length c.args.p.states ≡ 64 = search rules in
    let w : length c.args.p.marks ≡ 64 = search rules in
    paired_more whole _ _ rest P z w f
