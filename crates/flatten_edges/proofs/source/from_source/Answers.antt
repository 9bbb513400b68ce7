use Rattle.flatten_edges.proofs.Bears.{recalled_none}
use Rattle.flatten_edges.proofs.Departs.{source_none, source_more, source_past, source_all}
use native.Mathlib.Omega.{arith}
use Rattle.flatten_edges.proofs.source.from_source.Goals as goal

pub returns-then-j-places : goal.returns-then-j-places
returns-then-j-places c = λ d r T P L e f.
    let S = c.transitions_from-mine.ensures d T.transitions.source T.transitions.count T.transitions.few in
    source_all d _ T _ _ _ S _ _ (source_none d _ T _ _ _ S _ _ _ c.next_departure-j.ensures) e c.if-j-places.true

pub loop-j-init : goal.loop-j-init
loop-j-init c = λ d r T P L e f.
    let S = c.transitions_from-mine.ensures d T.transitions.source T.transitions.count T.transitions.few in
    (source_none d _ T _ _ _ S _ _ _ c.next_departure-j.ensures, recalled_none d _)

pub returns-then-n-gt1024 : goal.returns-then-n-gt1024
returns-then-n-gt1024 c = λ d r T P L e f.
    let S = c.transitions_from-mine.ensures d T.transitions.source T.transitions.count T.transitions.few in
    let w = c.loop-j.invariant d r T P L e f in
    source_past d _ T _ _ _ S _ _ w.0 e c.loop-j-test.true (λ q g m. (c.to_place-n.ensures d r _ q T P L S f g m w.1).0) c.if-n-gt1024.true

pub overflow_add-j : goal.overflow_add-j
overflow_add-j c =
    omega (arith, c.ranges.places)

pub loop-j-smaller : goal.loop-j-smaller
loop-j-smaller c = omega (arith, c.next_departure-j-in-loop-j.ensures.after)

pub loop-j-preserved : goal.loop-j-preserved
loop-j-preserved c = λ d r T P L e f.
    let S = c.transitions_from-mine.ensures d T.transitions.source T.transitions.count T.transitions.few in
    let w = c.loop-j.invariant d r T P L e f in
    source_more d _ T _ _ _ S _ _ _ w.0 e c.loop-j-test.true c.next_departure-j-in-loop-j.ensures (λ q g m. c.to_place-n.ensures d r _ q T P L S f g m w.1)

pub returns : goal.returns
returns c = λ d r T P L e f.
    let S = c.transitions_from-mine.ensures d T.transitions.source T.transitions.count T.transitions.few in
    source_all d _ T _ _ _ S _ _ (c.loop-j.invariant d r T P L e f).0 e c.loop-j-test.false
