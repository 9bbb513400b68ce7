use mathlib.Core.Path.{◌≡◌}
use native.Mathlib.Omega.{arith}
use lib.ListN.{length}
use Rattle.flatten_places.proofs.Filling.{automated_room, automated_more}
use borrow.Author.Rules.{rules}
use Rattle.flatten_places.proofs.automaton.with_automaton.Goals as goal

pub returns-then-i-ge-COUNT : goal.returns-then-i-ge-COUNT
returns-then-i-ge-COUNT c = λ k rest A f h. absurd (omega (arith, automated_room k _ _ rest A, f, c.if-i-ge-COUNT.true))

pub returns-then-j-ge48 : goal.returns-then-j-ge48
returns-then-j-ge48 c = λ k rest A f h. absurd (omega (arith, h, c.if-j-ge48.true))

pub returns : goal.returns
returns c = λ k rest A f h.
    let z : length c.args.a.states ≡ 16 = search rules in
    let w : length c.args.a.numbers ≡ 48 = search rules in
    automated_more k _ _ rest A z w f h
