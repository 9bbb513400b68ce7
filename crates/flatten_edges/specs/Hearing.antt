-- The tables that the network's own edges are made from.
use Rattle.std.specs.Prelude.{ℕ, ◌+◌, ◌≤◌, ◌<◌, ◌≡◌, List, map, length, take}
use Rattle.lists.specs.Lists.{has}
use Rattle.chart_records.specs.Chart.{Chart, parent_of}
use Rattle.chart_tree.specs.Table.{Column, Rooted}
use Rattle.network_records.specs.Network.{Edge}
use Rattle.flattening.specs.Flatten.{Pair, idle, child, enter_pairs, exit_pairs, marks_below, enter_channel, exit_channel}
use Rattle.flattening.specs.Flatten.{signalling, own_edge, heard_entries, heard_exits}
use Rattle.flatten_places.specs.Tables.{Chartered}
use Rattle.flatten_edges.specs.Ends.{Joins}
use Rattle.flatten_edges.specs.declared.flag.Ends.{Ends}

-- the columns of pairs, n of them
pub record PairColumns (ps : List Pair) (states marks : List ℕ) (n : ℕ) : Type 0 where
  pub count : n ≡ length ps
  pub few : length ps ≤ 64
  pub state : map (λ x. x.state) ps ≡ take (length ps) states
  pub mark : map (λ x. x.mark) ps ≡ take (length ps) marks

-- the columns of states that say what an entry enters
pub record Entering (c : Chart) (parents entries : List ℕ) : Type 0 where
  pub rooted : Rooted c parents
  pub marks : Column (λ x. x.entries) c entries

-- e joins the idle place of q to that of its child s, and the pairs that enter are these
pub record HearsEntries (c : Chart) (e : Ends) (parents entries : List ℕ) (q s : ℕ) (states marks : List ℕ) (pairs before : ℕ) : Type 0 where
  pub chart : Chartered c
  pub tree : Entering c parents entries
  pub columns : PairColumns (enter_pairs c) states marks pairs
  pub channels : before ≡ c.rendezvous + c.broadcasts
  pub known : s < length c.states
  pub home_known : q < length c.states
  pub home_is : q ≡ parent_of c s
  pub joins : Joins c (idle q) (child s) e

-- e joins the place of the child s of q to the idle one, and the pairs that leave are these
pub record HearsExits (c : Chart) (s : ℕ) (e : Ends) (parents : List ℕ) (below q : ℕ) (states marks : List ℕ) (pairs before : ℕ) : Type 0 where
  pub chart : Chartered c
  pub tree : Rooted c parents
  pub columns : PairColumns (exit_pairs c) states marks pairs
  pub channels : before ≡ c.rendezvous + c.broadcasts + length (enter_pairs c)
  pub home_known : q < length c.states
  pub home_is : q ≡ parent_of c s
  pub marked : (x : ℕ) → has below x ≡ marks_below c x s
  pub joins : Joins c (child s) (idle q) e

-- the edges by which the child s of q hears that it is entered, and those by which it hears that it is left
abbrev pub entry_edges : Chart → ℕ → ℕ → List Edge
entry_edges c q s = map (λ p. own_edge c (idle q) (child s) (signalling 2 (enter_channel c p))) (heard_entries c s)

abbrev pub exit_edges : Chart → ℕ → ℕ → List Edge
exit_edges c s q = map (λ p. own_edge c (child s) (idle q) (signalling 2 (exit_channel c p))) (heard_exits c s)
