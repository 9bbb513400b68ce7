use native.Mathlib.Omega.{arith}
use mathlib.Core.Path.{◌∙◌}
use Rattle.flattening.specs.Flatten.{idle, location_of}
use Rattle.flattener.proofs.Records.{listing_none, listing_more, listing_all}
use Rattle.flattener.proofs.Locating.{place_at, place_mem, kind_at, value_at_lem, mark_at_lem, automaton_at, automaton_few, initial_at, location_at_lem, location_lt, located_end, located_few, located_clocks, for_location}
use Rattle.flattener.proofs.location.write_locations.Goals as goal

pub returns-then-places-gt192 : goal.returns-then-places-gt192
returns-then-places-gt192 c d L e = absurd (omega (arith, located_few L))

pub loop-i-init : goal.loop-i-init
loop-i-init c = λ d L e. listing_none _ _ _ _

pub loop-i-preserved : goal.loop-i-preserved
loop-i-preserved c = λ d L e.
    let p = place_at L _ c.loop-i-test.true in
    let kind = kind_at L _ c.loop-i-test.true in
    let bounds = c.place_bounds-bounds.ensures d p L.chartered L.bounded L.columned (place_mem L _ c.loop-i-test.true) kind (value_at_lem L _ c.loop-i-test.true) (mark_at_lem L _ c.loop-i-test.true) in
    let initial = c.initial_of-initial.ensures (automaton_few L _ c.loop-i-test.true) ∙ initial_at L _ c.loop-i-test.true in
    let l = location_at_lem L _ c.loop-i-test.true (automaton_at L _ c.loop-i-test.true) (c.urgent_of.ensures p kind) initial bounds in
    listing_more _ _ _ _ (location_of d (idle 0)) (c.loop-i.invariant d L e) (location_lt L _ c.loop-i-test.true) (for_location _ l (c.write_location-place.ensures (located_clocks L e)))

pub returns : goal.returns
returns c d L e = listing_all _ _ _ _ (c.loop-i.invariant d L e) (located_end L _ c.loop-i-test.false)
