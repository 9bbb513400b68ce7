-- The channels of enter pairs and exit pairs: after the chart's channels and among the network's, no two pairs share one, and
-- they ascend along the pairs.
use mathlib.Core.Path.{◌≡◌, refl}
use mathlib.Core.Bool.{true}
use mathlib.Core.Logic.{◌≢◌}
use mathlib.Core.List.{Memᴰ as Mem}
use Prim.Native.Nat.{ℕ, ◌+◌, ◌≤◌, ◌<◌}
use native.Mathlib.Omega.{arith}
use borrow.Author.Tests.{eqb-true, eq-eqb}
use lib.ListN.{length}
use Rattle.lists.specs.Lists.{has, position}
use Rattle.lists.proofs.Bools.{parts, and_l, and_r, both}
use Rattle.lists.proofs.Lists.{keep_at, keep_by}
use Rattle.lists.proofs.Below.{any_below, below_any}
use Rattle.lists.proofs.Once.{Once, once_below}
use Rattle.lists.proofs.Position.{index_lt, index_injective}
use Rattle.lists.proofs.Pairwise.{Pairwise, pairwise_by, index_ascends}
use Rattle.chart_records.specs.Chart.{Chart, state_at, transition_at, states, parent_of}
use Rattle.chart_records.specs.Tree.{under, entered}
use Rattle.chart_records.proofs.Tree.{size, states_at, states_by}
use Rattle.flattening.specs.Flatten.{Pair, pre, same_pair, transitions, enters_by, leaves_by, enter_pairs, exit_pairs, enter_channel, exit_channel, marks_below, heard_exits, heard_entries, flatten}
use Rattle.flattening.proofs.Numbers.{IsPlace, same_pair_at, same_pair_by, pairs_at, pairs_by, pairs_once}

-- the transition that uses a pair
pub enters_at : (c : Chart) (d e : ℕ) → enters_by c d e ≡ true → (t : ℕ) × (t < length c.transitions) × ((transition_at c t).destination ≡ d) × ((transition_at c t).entry ≡ e)
unfolding enters_by transitions
enters_at c d e h = let r = any_below _ _ h in let k = r.2 in (r.0, r.1, eqb-true (transition_at c r.0).destination d (search parts), eqb-true (transition_at c r.0).entry e (search parts))

pub enters_by_lem : (c : Chart) (t : ℕ) → t < length c.transitions → enters_by c (transition_at c t).destination (transition_at c t).entry ≡ true
unfolding enters_by transitions
enters_by_lem c t h = below_any _ _ t h (both (eq-eqb (transition_at c t).destination _ refl) (eq-eqb (transition_at c t).entry _ refl))

pub leaves_at : (c : Chart) (m e : ℕ) → leaves_by c m e ≡ true → (t : ℕ) × (t < length c.transitions) × ((transition_at c t).source ≡ m) × ((transition_at c t).exit ≡ e)
unfolding leaves_by transitions
leaves_at c m e h = let r = any_below _ _ h in let k = r.2 in (r.0, r.1, eqb-true (transition_at c r.0).source m (search parts), eqb-true (transition_at c r.0).exit e (search parts))

pub leaves_by_lem : (c : Chart) (t : ℕ) → t < length c.transitions → leaves_by c (transition_at c t).source (transition_at c t).exit ≡ true
unfolding leaves_by transitions
leaves_by_lem c t h = below_any _ _ t h (both (eq-eqb (transition_at c t).source _ refl) (eq-eqb (transition_at c t).exit _ refl))

module _ (c : Chart) where
  -- the enter pairs, each once
  pub enter_pairs_at : {p : Pair} → Mem p (enter_pairs c) → (p.state < size c) × (p.mark < c.entries) × (enters_by c p.state p.mark ≡ true)
  unfolding enter_pairs
  enter_pairs_at m = let k = pairs_at (enters_by c) c.entries (states c) m in (states_at c k.0, k.1, k.2)

  pub enter_pairs_by : (p : Pair) → p.state < size c → p.mark < c.entries → enters_by c p.state p.mark ≡ true → Mem p (enter_pairs c)
  unfolding enter_pairs
  enter_pairs_by p h l k = pairs_by (enters_by c) c.entries (states c) p (states_by c h) l k

  pub enter_pairs_once : Once (enter_pairs c)
  unfolding enter_pairs states
  enter_pairs_once = pairs_once (enters_by c) c.entries (states c) (once_below _)

  -- the exit pairs, each once
  pub exit_pairs_at : {p : Pair} → Mem p (exit_pairs c) → (p.state < size c) × (p.mark < c.exits) × (leaves_by c p.state p.mark ≡ true)
  unfolding exit_pairs
  exit_pairs_at m = let k = pairs_at (leaves_by c) c.exits (states c) m in (states_at c k.0, k.1, k.2)

  pub exit_pairs_by : (p : Pair) → p.state < size c → p.mark < c.exits → leaves_by c p.state p.mark ≡ true → Mem p (exit_pairs c)
  unfolding exit_pairs
  exit_pairs_by p h l k = pairs_by (leaves_by c) c.exits (states c) p (states_by c h) l k

  pub exit_pairs_once : Once (exit_pairs c)
  unfolding exit_pairs states
  exit_pairs_once = pairs_once (leaves_by c) c.exits (states c) (once_below _)

  -- above the chart's channels come those of the enter pairs
  pub enter_channel_ge : (p : Pair) → c.rendezvous + c.broadcasts ≤ enter_channel c p
  unfolding enter_channel
  enter_channel_ge p = omega arith

  pub enter_channel_lt : {p : Pair} → Mem p (enter_pairs c) → enter_channel c p < c.rendezvous + c.broadcasts + length (enter_pairs c)
  unfolding enter_channel
  enter_channel_lt m = omega (arith, index_lt same_pair same_pair_at same_pair_by m)

  -- and then those of the exit pairs
  pub exit_channel_ge : (p : Pair) → c.rendezvous + c.broadcasts + length (enter_pairs c) ≤ exit_channel c p
  unfolding exit_channel
  exit_channel_ge p = omega arith

  pub exit_channel_lt : {p : Pair} → Mem p (exit_pairs c) → exit_channel c p < c.rendezvous + c.broadcasts + length (enter_pairs c) + length (exit_pairs c)
  unfolding exit_channel
  exit_channel_lt m = omega (arith, index_lt same_pair same_pair_at same_pair_by m)

  -- all are channels of the network
  pub enter_channel_known : {p : Pair} → Mem p (enter_pairs c) → enter_channel c p < (flatten c).rendezvous + (flatten c).broadcasts
  unfolding flatten
  enter_channel_known m = omega (arith, enter_channel_lt m)

  pub exit_channel_known : {p : Pair} → Mem p (exit_pairs c) → exit_channel c p < (flatten c).rendezvous + (flatten c).broadcasts
  unfolding flatten
  exit_channel_known m = omega (arith, exit_channel_lt m)

  -- no two pairs share one
  pub enter_exit_apart : {p : Pair} (r : Pair) → Mem p (enter_pairs c) → enter_channel c p ≢ exit_channel c r
  enter_exit_apart r m e = omega (arith, enter_channel_lt m, exit_channel_ge r)

  pub enter_channel_injective : {p r : Pair} → Mem p (enter_pairs c) → Mem r (enter_pairs c) → enter_channel c p ≡ enter_channel c r → p ≡ r
  unfolding enter_channel
  enter_channel_injective m n e = index_injective same_pair same_pair_at same_pair_by m n (omega arith)

  pub exit_channel_injective : {p r : Pair} → Mem p (exit_pairs c) → Mem r (exit_pairs c) → exit_channel c p ≡ exit_channel c r → p ≡ r
  unfolding exit_channel
  exit_channel_injective m n e = index_injective same_pair same_pair_at same_pair_by m n (omega arith)

  -- they ascend along the pairs
  pub enter_channels_ascend : Pairwise (λ p r. enter_channel c p < enter_channel c r) (enter_pairs c)
  unfolding enter_channel
  enter_channels_ascend = pairwise_by (λ p r. position (same_pair p) (enter_pairs c) < position (same_pair r) (enter_pairs c)) (λ p r. enter_channel c p < enter_channel c r) (enter_pairs c) (λ p r m n l. omega arith)
      (index_ascends same_pair same_pair_at same_pair_by (enter_pairs c) enter_pairs_once)

  pub exit_channels_ascend : Pairwise (λ p r. exit_channel c p < exit_channel c r) (exit_pairs c)
  unfolding exit_channel
  exit_channels_ascend = pairwise_by (λ p r. position (same_pair p) (exit_pairs c) < position (same_pair r) (exit_pairs c)) (λ p r. exit_channel c p < exit_channel c r) (exit_pairs c) (λ p r m n l. omega arith)
      (index_ascends same_pair same_pair_at same_pair_by (exit_pairs c) exit_pairs_once)

  -- the pairs that a child hears
  pub heard_entries_at : (s : ℕ) {p : Pair} → Mem p (heard_entries c s) → Mem p (enter_pairs c) × (entered c p.state p.mark (parent_of c s) ≡ true) × (has (state_at c s).entries p.mark ≡ true)
  unfolding heard_entries
  heard_entries_at s {p} m = let k = keep_at _ (enter_pairs c) m in let h = k.1 in (k.0, and_l (entered c p.state p.mark (parent_of c s)) _ h, and_r (entered c p.state p.mark (parent_of c s)) _ h)

  pub heard_entries_by : (s : ℕ) {p : Pair} → Mem p (enter_pairs c) → entered c p.state p.mark (parent_of c s) ≡ true → has (state_at c s).entries p.mark ≡ true → Mem p (heard_entries c s)
  unfolding heard_entries
  heard_entries_by s m e h = keep_by _ (enter_pairs c) m (both e h)

  pub heard_exits_at : (s : ℕ) {p : Pair} → Mem p (heard_exits c s) → Mem p (exit_pairs c) × (under c p.state (parent_of c s) ≡ true) × (marks_below c p.mark s ≡ true)
  unfolding heard_exits
  heard_exits_at s {p} m = let k = keep_at _ (exit_pairs c) m in let h = k.1 in (k.0, and_l (under c p.state (parent_of c s)) _ h, and_r (under c p.state (parent_of c s)) _ h)

  pub heard_exits_by : (s : ℕ) {p : Pair} → Mem p (exit_pairs c) → under c p.state (parent_of c s) ≡ true → marks_below c p.mark s ≡ true → Mem p (heard_exits c s)
  unfolding heard_exits
  heard_exits_by s m u h = keep_by _ (exit_pairs c) m (both u h)

  -- a pre is of an enter pair
  pub pre_enters : {p : Pair} → IsPlace c (pre p) → Mem p (enter_pairs c)
  pre_enters {p} k = let z = k.stands in enter_pairs_by p z.0.known z.1 z.2
