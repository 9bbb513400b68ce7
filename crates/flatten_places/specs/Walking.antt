-- The tables that the walk over a chart's places looks up.
use Rattle.std.specs.Prelude.{ℕ, ◌+◌, ◌<◌, ◌≡◌, ◌&&◌, get_or, length, take}
use mathlib.Core.List.{List, map, Memᴰ as Mem}
use Rattle.lists.specs.Lists.{has, any}
use Rattle.chart_records.specs.Chart.{Chart, states}
use Rattle.chart_records.specs.Tree.{under, sequentials}
use Rattle.chart_tree.specs.Table.{Tabled}
use Rattle.flattening.specs.Flatten.{Place, idle, child, enter_pairs, exit_pairs, all_places, number, automaton, place_home, initial_place, marks_below}
use Rattle.flatten_places.specs.Tables.{Chartered, FixedIn, Columned, Automated, Paired, Departing, Arriving, exits_at}
use Rattle.flatten_places.specs.declared.walk.Tables.{Tables}

-- the bits that states at or below each state have in a table
abbrev pub Gathered : Chart → List ℕ → List ℕ → Type 0
Gathered c marks l = (s e : ℕ) → s < length c.states → has (get_or l s 0) e ≡ any (λ b. under c s b && has (get_or marks b 0) e) (states c)

-- the exits that basic states at or below each state are marked with
abbrev pub MarkedBelow : Chart → List ℕ → Type 0
MarkedBelow c l = (s e : ℕ) → s < length c.states → has (get_or l s 0) e ≡ marks_below c e s

-- the numbers of the places of children
abbrev pub ChildNumbers : Chart → List ℕ → Type 0
ChildNumbers c l = (s : ℕ) → Mem (child s) (all_places c) → get_or l s 0 ≡ number c (child s)

-- the number of a place of each automaton
abbrev pub NumberOfEach : Chart → (ℕ → Place) → List ℕ → Type 0
NumberOfEach c place l = (a : ℕ) → a < length (sequentials c) → get_or l a 0 ≡ number c (place (get_or (sequentials c) a 0))

-- the tables are those of the chart
pub record Tabulated (c : Chart) (t : Tables) : Type 0 where
  pub chart : Chartered c
  pub tree : Tabled c t.tree
  pub fixed : FixedIn c t.fixed
  pub transitions : Columned c t.transitions
  pub automata : Automated c t.automata
  pub enters : Paired (enter_pairs c) t.enters
  pub leaves : Paired (exit_pairs c) t.leaves
  pub numbers : ChildNumbers c t.numbers
  pub below : MarkedBelow c t.below
  pub departures : Departing c t.departures
  pub arrivals : Arriving c t.arrivals
  pub firsts : NumberOfEach c idle t.firsts
  pub initials : NumberOfEach c (initial_place c) t.initials
  pub channels : t.channels ≡ c.rendezvous + c.broadcasts

-- the exits that each place is at, and its automaton
pub record Spread (c : Chart) (exits homes : List ℕ) : Type 0 where
  pub marks : map (exits_at c) (all_places c) ≡ take (length (all_places c)) exits
  pub owners : map (λ x. automaton c (place_home c x)) (all_places c) ≡ take (length (all_places c)) homes
