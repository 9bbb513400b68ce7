use native.Mathlib.Decide.{dec_lt}
use native.Mathlib.Omega.{arith}
use mathlib.Core.Path.{sym, ◌≡◌}
use Rattle.std.specs.Prelude.{ℕ, None}
use Rattle.std.proofs.lemmas.List.{get_or_past}
use Rattle.reading.specs.Verdict.{refusals}
use Rattle.reading.proofs.refusal.Refusal.of.Goals as goal

-- A number that is none of the 28 is 0 or 23, or past the table.
pub returns-in_default : goal.returns-in_default
returns-in_default c = elim (dec_lt c.args.number 30) [
  | no past ↦ sym (get_or_past refusals c.args.number None (omega arith))
  | yes below ↦ elim (dec_lt 0 c.args.number) [
    | no first ↦ rw (let e : ◌≡◌ {A = ℕ} c.args.number 0 = omega arith in e)
    | yes later ↦ rw (let e : ◌≡◌ {A = ℕ} c.args.number 23 = omega arith in e)
  ]
]
