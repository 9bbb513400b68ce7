-- The last tests of a step, of a chart or of a network: 20, 28 and 21, in this order.
use Rattle.std.specs.Prelude.{Bool, cond}
use Rattle.reading.specs.Answer.{Answer, done, refused}

unfoldable pub last_tests : Bool → Bool → Bool → Answer (Unit {0})
last_tests allowed within kept = cond allowed (cond within (cond kept (done tt) (refused 21)) (refused 28)) (refused 20)

-- what the answer of the tests says of a result
abbrev pub answer_by : {A : Type 0} → Answer (Unit {0}) → A → Answer A
answer_by (done u) x = done x
answer_by (refused k) x = refused k
