use mathlib.Core.Path.{refl}
use Rattle.flattening.specs.Flatten.{all_places}
use Rattle.flattening.proofs.Counts.{all_places_few}
use Rattle.flatten_places.proofs.Chartered.{passed_of, ranges_of}
use Rattle.flatten_places.proofs.Placing.{listed_none, listed_by, listed_all, automaton_at, automata_next, automata_end}
use native.Mathlib.Omega.{arith}
use Rattle.flatten_places.proofs.place.places_of.Goals as goal

pub loop-a-init : goal.loop-a-init
unfolding all_places
loop-a-init c = λ k h T F C A P. listed_none k _ _ (record { kinds = refl; values = refl; marks = refl; automata = refl; exits = refl }) refl

pub loop-a-preserved : goal.loop-a-preserved
loop-a-preserved c = λ k h T F C A P.
    c.put_places.ensures k h T F C P (automaton_at A _ c.loop-a-test.true _ c.byte_at-q.ensures).1 _ _
    (listed_by k _ _ (automata_next A _ c.loop-a-test.true _ c.byte_at-q.ensures) (c.loop-a.invariant k h T F C A P)) (omega (arith, all_places_few k (passed_of h) (ranges_of h)))

pub returns : goal.returns
returns c = λ k h T F C A P. listed_all k _ _ (listed_by k _ _ (automata_end A _ c.loop-a-test.false) (c.loop-a.invariant k h T F C A P))
