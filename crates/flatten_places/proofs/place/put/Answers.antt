use native.Mathlib.Omega.{arith}
use Rattle.flatten_places.proofs.Placing.{listed_room, listed_more}
use Rattle.flatten_places.proofs.place.put.Goals as goal

pub returns-then-i-ge-COUNT : goal.returns-then-i-ge-COUNT
returns-then-i-ge-COUNT c = λ k x R whole rest L f. absurd (omega (arith, listed_room k whole _ x rest L, f, c.if-i-ge-COUNT.true))

pub returns : goal.returns
returns c = λ k x R whole rest L f. listed_more k whole _ x rest L f _ R
