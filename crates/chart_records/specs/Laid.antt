-- Where the transition records of a checked file stand.
use Rattle.std.specs.Prelude.{◌≡◌, Bool, not, ◌&&◌, List, ℕ, ◌<◌, eqb, get_or, length}
use Rattle.reading.specs.Reading.{got, byte2, recorded}
use Rattle.reading.specs.Places.{onward}
use Rattle.chart_records.specs.Chart.{Chart, Transition, no_transition, transition_at, home}
use Rattle.chart_records.specs.Tree.{under}
use Rattle.chart_records.specs.Layout.{Stated, transition_by}
use Rattle.chart_records.specs.declared.header.Counts.{Counts}

-- each transition's record stands at its offset
abbrev pub Placed : List ℕ → Counts → List ℕ → List Transition → Type 0
Placed rest n offsets ts = (i : ℕ) → i < n.transitions → (t : List ℕ) × (recorded byte2 (transition_by n) (onward rest (get_or offsets i 0)) ≡ got (get_or ts i no_transition) t)

-- the counts, the states and the transitions of c stand in the bytes
pub record Laid (rest : List ℕ) (n : Counts) (offsets : List ℕ) (c : Chart) : Type 0 where
  pub stated : Stated rest n c
  pub transitions : length c.transitions ≡ n.transitions
  pub placed : Placed rest n offsets c.transitions

-- rule 14 of two transitions
abbrev pub apart_from : Chart → ℕ → ℕ → Bool
apart_from c t u =
    not (not (eqb (transition_at c t).label.signal 0)
    && (not (eqb (transition_at c u).label.signal 0)
    && (eqb (transition_at c t).label.channel (transition_at c u).label.channel
    && (not (eqb (home c t) (home c u)) && under c (home c t) (home c u)))))
