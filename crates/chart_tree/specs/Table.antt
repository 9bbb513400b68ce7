-- The states of a chart as tables of 48 places, and sets of its states.
use Rattle.std.specs.Prelude.{ℕ, ◌≤◌, ◌<◌, ◌≡◌, Bool, true, false, cond, ◌&&◌, ◌||◌, List, map, ltb, eqb, get_or, length}
use Rattle.lists.specs.Lists.{has, below}
use Rattle.chart_records.specs.Chart.{Chart, State, state_at}
use Rattle.chart_records.specs.Rules.{parents, entry_marks}
use Rattle.chart_tree.specs.declared.table.Tree.{Tree}

-- a list has a field of every state, and past the chart's states that of no state
abbrev pub Column : (State → ℕ) → Chart → List ℕ → Type 0
Column field c l = (s : ℕ) → s < 48 → get_or l s 0 ≡ field (state_at c s)

-- the tables hold the chart's states
pub record Tabled (c : Chart) (t : Tree) : Type 0 where
  pub count : t.states ≡ length c.states
  pub few : length c.states ≤ 48
  pub parent : Column (λ x. x.parent) c t.parents
  pub kind : Column (λ x. x.kind) c t.kinds
  pub entries : Column (λ x. x.entries) c t.entries
  pub exits : Column (λ x. x.exits) c t.exits

-- the same of the first n states; past them stands d
abbrev pub ColumnTo : ℕ → ℕ → (State → ℕ) → Chart → List ℕ → Type 0
ColumnTo n d field c l = (s : ℕ) → s < 48 → get_or l s 0 ≡ cond (ltb s n) (field (state_at c s)) d

-- the tables hold the first n states
pub record Begun (c : Chart) (t : Tree) (n : ℕ) : Type 0 where
  pub count : t.states ≡ length c.states
  pub few : length c.states ≤ 48
  pub parent : ColumnTo n 255 (λ x. x.parent) c t.parents
  pub kind : ColumnTo n 0 (λ x. x.kind) c t.kinds
  pub entries : ColumnTo n 0 (λ x. x.entries) c t.entries
  pub exits : ColumnTo n 0 (λ x. x.exits) c t.exits

-- the list has the parents of a chart that keeps rule 5
pub record Rooted (c : Chart) (above : List ℕ) : Type 0 where
  pub few : length c.states ≤ 48
  pub parent : Column (λ x. x.parent) c above
  pub rule : parents c ≡ true

-- a state that is marked with the entry e, in a chart with these tables that keeps rules 5 and 8
pub record Enters (c : Chart) (above kinds marks : List ℕ) (e s : ℕ) : Type 0 where
  pub rooted : Rooted c above
  pub kind : Column (λ x. x.kind) c kinds
  pub entries : Column (λ x. x.entries) c marks
  pub rule : entry_marks c ≡ true
  pub known : s < length c.states
  pub some : eqb e 255 ≡ false
  pub marked : has (state_at c s).entries e ≡ true

-- a set of states, and with it the states of the chart that pass a test
unfoldable pub adding : ℕ → Chart → (ℕ → Bool) → List Bool → List Bool
adding width c test set = map (λ s. get_or set s false || (ltb s (length c.states) && test s)) (below width)

-- the states of the chart that pass a test
unfoldable pub passing : ℕ → Chart → (ℕ → Bool) → List Bool
passing width c test = map (λ s. ltb s (length c.states) && test s) (below width)
