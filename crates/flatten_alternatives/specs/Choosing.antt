-- The sets of automata of an exit's alternatives, as the flattener gathers them.
use Rattle.std.specs.Prelude.{ℕ, ◌+◌, ◌≤◌, ◌<◌, min, ◌≡◌, Bool, true, false, get_or, length, take}
use mathlib.Core.List.{List, [], ◌∷◌, ◌++◌, Memᴰ as Mem}
use Rattle.std.specs.Int.Bits.{bit_or}
use Rattle.lists.specs.Lists.{has}
use Rattle.chart_records.specs.Chart.{Chart, sequential, parallel}
use Rattle.chart_records.specs.Tree.{under, sequentials, fixed, shares}
use Rattle.chart_tree.specs.Table.{Column, Tabled}
use Rattle.chart_tree.specs.declared.table.Tree.{Tree}
use Rattle.flattening.specs.Flatten.{automaton, sums, choices_from, sorted}
use Rattle.flatten_places.specs.Tables.{Chartered, Automated, FixedKinds, AtExits, FixedIn}
use Rattle.flatten_places.specs.declared.automaton.Automata.{Automata}
use Rattle.flatten_places.specs.declared.fixed.Fixed.{Fixed}

-- the choices from s down, with steps enough for any chart
abbrev pub choices : Chart → ℕ → ℕ → List ℕ
choices c e s = choices_from (length c.states) c e s

-- the choices that a state gives its parent: those from it down, or if it is fixed and shares the exit a set of its own
unfoldable pub given : ℕ → Chart → ℕ → ℕ → List ℕ
given own c e s = elim (fixed c s) [ true ↦ elim (shares c e s) [ true ↦ own ∷ [] | false ↦ [] ] | false ↦ choices c e s ]

-- these sets stand first in a table for 1,024, ascending, each once; past 1,024 they are only known to be too many
pub record Kept (items : List ℕ) (count : ℕ) (xs : List ℕ) : Type 0 where
  pub long : length items ≡ 1024
  pub counted : count ≡ min (length (sorted xs)) 1025
  pub stand : length (sorted xs) ≤ 1024 → take (length (sorted xs)) items ≡ sorted xs

-- numbers with the smaller ones than x before a place, and none of them from it on
pub record Splits (x : ℕ) (l : List ℕ) (i : ℕ) : Type 0 where
  pub fits : i ≤ length l
  pub before : (k : ℕ) → k < i → get_or l k 0 < x
  pub from : (k : ℕ) → i ≤ k → k < length l → x ≤ get_or l k 0

-- no automaton at or below s is in one of the sets
pub record Clear (c : Chart) (s : ℕ) (xs : List ℕ) : Type 0 where
  pub clear : (x : ℕ) → Mem x xs → (q : ℕ) → q < length c.states → sequential c q ≡ true → under c s q ≡ true → has x (automaton c q) ≡ false

-- a state of a chart with these tables
pub record Choosing (c : Chart) (above kinds marks numbers : List ℕ) (s : ℕ) : Type 0 where
  pub chartered : Chartered c
  pub few : length c.states ≤ 48
  pub parent : Column (λ x. x.parent) c above
  pub kind : FixedKinds c kinds
  pub exits : AtExits c marks
  pub number : (q : ℕ) → automaton c q < length (sequentials c) → get_or numbers q 0 ≡ automaton c q
  pub known : s < length c.states

-- what s gives, each joined with each set of one table, comes to the sets of another
abbrev pub Gives : List ℕ → List ℕ → List ℕ → List ℕ → ℕ → ℕ → ℕ → List ℕ → ℕ → List ℕ → ℕ → List ℕ → ℕ → Type 0
Gives above kinds marks numbers e s own from size to count after total =
    (c : Chart) (xs ys : List ℕ) → Choosing c above kinds marks numbers s → e < 8 → Clear c s xs → ((x : ℕ) → Mem x xs → bit_or x own ≡ x + own)
    → Kept from size xs → Kept to count ys → Kept after total (sums xs (given own c e s) ++ ys)

-- so do the choices from s down, which is not fixed, and parallel or not
abbrev pub Chooses : Bool → List ℕ → List ℕ → List ℕ → List ℕ → ℕ → ℕ → List ℕ → ℕ → List ℕ → ℕ → List ℕ → ℕ → Type 0
Chooses kind above kinds marks numbers e s from size to count after total =
    (c : Chart) (xs ys : List ℕ) → Choosing c above kinds marks numbers s → e < 8 → fixed c s ≡ false → parallel c s ≡ kind → Clear c s xs
    → Kept from size xs → Kept to count ys → Kept after total (sums xs (choices c e s) ++ ys)

-- the alternatives of an exit of m stand in a table, whatever it had before
abbrev pub Lists : Tree → Fixed → Automata → ℕ → ℕ → List ℕ → List ℕ → ℕ → Type 0
Lists t f a m e items after total =
    (c : Chart) → Chartered c → Tabled c t → FixedIn c f → Automated c a → m < length c.states → e < 8
    → length items ≡ 1024 → Kept after total (choices c e m)
