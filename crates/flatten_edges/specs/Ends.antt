-- The two ends of an edge, and the flags that it writes.
use Rattle.std.specs.Prelude.{ℕ, ◌<◌, ◌≡◌, not, List, map, get_or, length, take}
use Rattle.lists.specs.Lists.{bits_of}
use Rattle.labels.specs.Label.{Label}
use Rattle.chart_records.specs.Chart.{Chart}
use Rattle.chart_records.specs.Tree.{sequentials}
use Rattle.flattening.specs.Flatten.{Place, all_places, number, automaton, place_home, at_exit, initial_place, written_by, values_by}
use Rattle.flatten_places.specs.Tables.{Chartered, exits_at}
use Rattle.flatten_edges.specs.declared.flag.Ends.{Ends}
use Rattle.flatten_edges.specs.declared.flag.Signals.{Signals}

-- the exits that each place is at, its automaton, and the number of each automaton's initial place
pub record Flagged (c : Chart) (marks homes firsts : List ℕ) : Type 0 where
  pub chart : Chartered c
  pub exits : map (exits_at c) (all_places c) ≡ take (length (all_places c)) marks
  pub automata : map (λ x. automaton c (place_home c x)) (all_places c) ≡ take (length (all_places c)) homes
  pub initials : (a : ℕ) → a < length (sequentials c) → get_or firsts a 0 ≡ number c (initial_place c (get_or (sequentials c) a 0))

-- an edge goes from p to r
pub record Joins (c : Chart) (p r : Place) (e : Ends) : Type 0 where
  pub source : e.source ≡ number c p
  pub target : e.target ≡ number c r
  pub written : e.written ≡ written_by c p r
  pub values : e.values ≡ values_by c p r

-- a label, but for its body
pub record Signalled (l : Label) (s : Signals) : Type 0 where
  pub signal : s.signal ≡ l.signal
  pub channel : s.channel ≡ l.channel
  pub resets : s.resets ≡ l.resets

-- the automata whose initial place is not at an exit
unfoldable pub start_off : Chart → ℕ → ℕ
start_off c e = bits_of (λ a. not (at_exit c (initial_place c (get_or (sequentials c) a 0)) e)) (length (sequentials c))
