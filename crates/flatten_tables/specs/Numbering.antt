-- The table of the places' numbers, by what each place stands for.
use Rattle.std.specs.Prelude.{ℕ, ◌+◌, ◌*◌, ◌<◌, ◌≡◌, Bool, cond, ◌&&◌, List, map, ltb, eqb, get_or, length}
use Rattle.lists.specs.Lists.{below}
use Rattle.chart_records.specs.Chart.{Chart}
use Rattle.chart_records.specs.Tree.{sequentials, entered}
use Rattle.flattening.specs.Flatten.{Place, idle, child, pre, post, all_places, number, initial_place}

-- where a place's number stands
abbrev pub slot_of : Place → ℕ
slot_of (idle q) = q
slot_of (child s) = 64 + s
slot_of (pre p) = 256 + p.state * 16 + p.mark
slot_of (post t) = 192 + t

-- the same by its kind, value and mark
unfoldable pub slot_at : ℕ → ℕ → ℕ → ℕ
slot_at kind value mark = cond (eqb kind 2) (256 + value * 16 + mark) (kind * 64 + value)

-- the table has the number of each place
pub record Numbered (c : Chart) (l : List ℕ) : Type 0 where
  pub at_slot : (x : Place) → number c x < length (all_places c) → get_or l (slot_of x) 0 ≡ number c x

-- the numbers of the places of each automaton: where it is idle, and where it starts
abbrev pub Idling : Chart → List ℕ → Type 0
Idling c l = (a : ℕ) → a < length (sequentials c) → get_or l a 0 ≡ number c (idle (get_or (sequentials c) a 0))

abbrev pub Starting : Chart → List ℕ → Type 0
Starting c l = (a : ℕ) → a < length (sequentials c) → get_or l a 0 ≡ number c (initial_place c (get_or (sequentials c) a 0))

-- the states that are active at the start, as a set
abbrev pub start_set : Chart → List Bool
start_set c = map (λ s. ltb s (length c.states) && entered c 0 0 s) (below 48)
