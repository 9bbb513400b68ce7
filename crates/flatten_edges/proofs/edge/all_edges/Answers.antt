use Rattle.flattening.specs.Flatten.{all_places}
use Rattle.flatten_edges.proofs.Visits.{spread_of, place_more, edges_all, place_past}
use Rattle.flatten_edges.proofs.Gathers.{walk_none}
use Rattle.flatten_edges.proofs.edge.all_edges.Goals as goal

pub loop-i-init : goal.loop-i-init
loop-i-init c = λ d r T P L. walk_none _ (all_places d) _ _

pub returns-then-n-gt1024 : goal.returns-then-n-gt1024
returns-then-n-gt1024 c = λ d r T P L e.
    place_past d _ P _ _ _ _ (c.loop-i.invariant d r T P L) c.loop-i-test.true c.byte_at-kind.ensures
    c.byte_at-value.ensures c.byte_at-mark.ensures
    (λ p m f k v a. c.from_place-n.ensures d r p T (spread_of d _ P) L P.count m f k v a) c.if-n-gt1024.true e

pub loop-i-preserved : goal.loop-i-preserved
loop-i-preserved c = λ d r T P L.
    place_more d _ P _ _ _ _ (c.loop-i.invariant d r T P L) c.loop-i-test.true c.byte_at-kind.ensures
    c.byte_at-value.ensures c.byte_at-mark.ensures
    (λ p m f k v a. c.from_place-n.ensures d r p T (spread_of d _ P) L P.count m f k v a)

pub returns : goal.returns
returns c = λ d r T P L e. edges_all d _ P _ (c.loop-i.invariant d r T P L) c.loop-i-test.false e
