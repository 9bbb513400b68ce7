-- Laws of what automata hear: which pairs enter a state, and the channels of pairs by their places in the tables.
use mathlib.Core.Path.{◌≡◌, refl, sym, ap, ap₂, ◌∙◌, subst}
use mathlib.Core.Bool.{Bool, true, false, cond, ◌&&◌, and-true}
use mathlib.Core.Logic.{◌≢◌}
use mathlib.Core.List.{List, [], ◌∷◌, map}
use Prim.Native.Nat.{ℕ, ◌+◌, ◌≤◌, ◌<◌}
use native.Mathlib.Omega.{arith}
use native.Mathlib.Decide.{ℕ_discrete}
use borrow.Author.Tests.{eqb-true, eq-eqb, ne_eqb}
use lib.Dec.{eqb}
use lib.ListN.{length, get_or, take, drop, drop_of_length-le}
use Rattle.lists.specs.Lists.{has, concat, position}
use Rattle.lists.proofs.Bools.{and_l, and_r, both, same}
use Rattle.lists.proofs.Position.{index_of, position_end}
use Rattle.lists.proofs.Lists.{get_d_mem, position_next, position_stop}
use Rattle.lists.proofs.Parts.{drop_next}
use Rattle.chart_records.specs.Chart.{Chart, state_at, parent_of}
use Rattle.chart_records.specs.Tree.{under, entered}
use Rattle.chart_records.proofs.Tree.{size, Parents, parents_at, under_refl, under_up, under_down, under_le}
use Rattle.chart_records.proofs.Entered.{entered_at, entered_by}
use Rattle.chart_tree.proofs.Tables.{parent_at}
use Rattle.chart_tree.specs.Table.{Rooted}
use Rattle.network_records.specs.Network.{Edge}
use Rattle.flattening.specs.Flatten.{Pair, Place, idle, child, same_pair, enter_pairs, exit_pairs, enter_channel, exit_channel, signalling, own_edge, marks_below, heard_entries, heard_exits}
use Rattle.flattening.proofs.Numbers.{same_pair_at, same_pair_by}
use Rattle.flattening.proofs.Channels.{enter_pairs_at, enter_pairs_once, exit_pairs_once}
use Rattle.flattening.proofs.Counts.{enter_pairs_few}
use Rattle.flatten_places.proofs.Chartered.{ranges_of}
use Rattle.flatten_edges.specs.Adding.{Adds}
use Rattle.flatten_edges.specs.Ends.{Joins}
use Rattle.flatten_edges.specs.Hearing.{PairColumns, Entering, HearsEntries, HearsExits}
use Rattle.flatten_edges.specs.declared.flag.Ends.{Ends}
use Rattle.flatten_edges.proofs.Gathers.{walk_more, walk_all}
use Rattle.lists.proofs.Concat.{map_kept}
use Rattle.flatten_edges.proofs.Joining.{column_at}

-- the way up to what is entered
module _ (c : Chart) (parents entries : List ℕ) (E : Entering c parents entries) (d : ℕ) {e : ℕ} (some : e < 16) where
  tree : Parents c
  tree = parents_at c E.rooted.rule

  mark_at_lem : (x : ℕ) → x < size c → has (get_or entries x 0) e ≡ has (state_at c x).entries e
  mark_at_lem x h = ap (λ (m : ℕ). has m e) (E.marks x (omega (arith, E.rooted.few)))

  proper : e ≢ 255
  proper z = omega arith

  enter_up : (x : ℕ) → x < size c → d < x → (get_or parents x 0 < x) × (entered c d e x ≡ (has (get_or entries x 0) e && entered c d e (get_or parents x 0)))
  enter_up x h l =
      let n : x ≢ 0 = λ z. omega arith in
      let up : get_or parents x 0 ≡ parent_of c x = parent_at c parents E.rooted x (omega (arith, E.rooted.few)) in
      let less = tree.smaller x h n in (
        omega arith,
        same _ _ (λ k.
            let r = entered_at c d proper x k in
            let u = under_down c tree d x h (λ z. omega arith) r.below in
            both (mark_at_lem x h ∙ r.marks x r.below (under_refl c x))
            (ap (entered c d e) up ∙ entered_by c d proper (parent_of c x) (record { below = u.1; marks = λ p v w. r.marks p v (under_up c tree p x h n w) })))
            (λ k.
            let r = entered_at c d proper (parent_of c x) (sym (ap (entered c d e) up) ∙ and_r (has (get_or entries x 0) e) _ k) in
            entered_by c d proper x (record {
              below = under_up c tree d x h n r.below;
              marks = λ p v w. elim (ℕ_discrete x p) [
                | yes z ↦ subst (λ (y : ℕ). has (state_at c y).entries e ≡ true) z (sym (mark_at_lem x h) ∙ and_l (has (get_or entries x 0) e) _ k)
                | no z ↦ r.marks p v (under_down c tree p x h z w).1
              ];
            })),
      )

  pub enter_less : (x : ℕ) → x < size c → d < x → get_or parents x 0 < x
  enter_less x h l = (enter_up x h l).0

  pub enter_not : (x : ℕ) {m : ℕ} {b : Bool} → x < size c → d < x → m ≡ get_or entries x 0 → b ≡ has m e → b ≡ false → entered c d e x ≡ false
  enter_not x {m} {b} h l f g k = (enter_up x h l).1 ∙ rw (let z : has (get_or entries x 0) e ≡ false = ap (λ (y : ℕ). has y e) (sym f) ∙ sym g ∙ k in z)

  pub enter_on : (x : ℕ) {m above : ℕ} {b : Bool} → x < size c → d < x → m ≡ get_or entries x 0 → b ≡ has m e → b ≡ true → above ≡ get_or parents x 0 → entered c d e x ≡ entered c d e above
  enter_on x {m} {above} {b} h l f g k u = (enter_up x h l).1 ∙ rw (let z : has (get_or entries x 0) e ≡ true = ap (λ (y : ℕ). has y e) (sym f) ∙ sym g ∙ k in z) (ap (entered c d e) (sym u))

  pub enter_end : (x : ℕ) → x < size c → x ≤ d → entered c d e x ≡ (eqb x d && has (get_or entries x 0) e)
  enter_end x h l = same _ _ (λ k.
      let r = entered_at c d proper x k in
      let z : x ≡ d = omega (arith, under_le c tree d x h r.below) in
      both (eq-eqb x d z) (mark_at_lem x h ∙ r.marks x r.below (under_refl c x)))
      (λ k.
      let z = eqb-true x d (and_l (eqb x d) _ k) in
      let m = sym (mark_at_lem x h) ∙ and_r (eqb x d) _ k in
      entered_by c d proper x (record {
        below = ap (λ (y : ℕ). under c y x) (sym z) ∙ under_refl c x;
        marks = λ p v w. let y : x ≡ p = omega (arith, under_le c tree p x h w, lower p v w) in subst (λ (y : ℕ). has (state_at c y).entries e ≡ true) y m;
      }))
    where
      lower : (p : ℕ) → under c d p ≡ true → under c p x ≡ true → d ≤ p
      lower p v w = under_le c tree d p (omega (arith, under_le c tree p x h w)) v

  pub enter_end_yes : (x : ℕ) {m : ℕ} {b : Bool} → x < size c → x ≤ d → x ≡ d → m ≡ get_or entries x 0 → b ≡ has m e → b ≡ entered c d e x
  enter_end_yes x h l y f g = g ∙ ap (λ (i : ℕ). has i e) f ∙ sym (enter_end x h l ∙ rw (eq-eqb x d y))

  pub enter_end_no : (x : ℕ) → x < size c → x ≤ d → x ≢ d → eqb x d ≡ entered c d e x
  enter_end_no x h l n = ne_eqb x d n ∙ sym (enter_end x h l ∙ rw (ne_eqb x d n))

-- the columns of pairs at k
module _ (ps : List Pair) (states marks : List ℕ) (n : ℕ) (C : PairColumns ps states marks n) (k : ℕ) (h : k < n) (d : Pair) where
  pub pair_known : k < length ps
  pair_known = omega (arith, C.count)

  pub pair_state : get_or states k 0 ≡ (get_or ps k d).state
  pair_state = column_at (λ x. x.state) ps states k d C.state pair_known

  pub pair_mark : get_or marks k 0 ≡ (get_or ps k d).mark
  pair_mark = column_at (λ x. x.mark) ps marks k d C.mark pair_known

-- their channels
pub enter_channel_at : (c : Chart) (k : ℕ) (d : Pair) → k < length (enter_pairs c) → enter_channel c (get_or (enter_pairs c) k d) ≡ c.rendezvous + c.broadcasts + k
unfolding enter_channel
enter_channel_at c k d h = ap (λ (i : ℕ). c.rendezvous + c.broadcasts + i) (index_of same_pair same_pair_at same_pair_by (enter_pairs c) d k (enter_pairs_once c) h)

pub exit_channel_at : (c : Chart) (k : ℕ) (d : Pair) → k < length (exit_pairs c) → exit_channel c (get_or (exit_pairs c) k d) ≡ c.rendezvous + c.broadcasts + length (enter_pairs c) + k
unfolding exit_channel
exit_channel_at c k d h = ap (λ (i : ℕ). c.rendezvous + c.broadcasts + length (enter_pairs c) + i) (index_of same_pair same_pair_at same_pair_by (exit_pairs c) d k (exit_pairs_once c) h)

-- one of two tests, made first
pub unheard : (a : Bool) {b x : Bool} → x ≡ b → x ≡ false → false ≡ (a && b)
unheard true e f = sym f ∙ e
unheard false e f = refl

pub heard : {a b x r : Bool} → x ≡ b → x ≡ true → r ≡ a → r ≡ (a && b)
heard {a} {b} {x} {r} e f g = g ∙ sym (and-true a) ∙ ap (λ (y : Bool). a && y) (sym f ∙ e)

-- what is no pair
abbrev pub no_pair : Pair
no_pair = record { state = 0; mark = 0 }

-- the edge by which the child s of q is entered by a pair, if it is
abbrev pub entry_edge : Chart → ℕ → ℕ → Pair → List Edge
entry_edge c q s p = cond (entered c p.state p.mark (parent_of c s) && has (state_at c s).entries p.mark) (own_edge c (idle q) (child s) (signalling 2 (enter_channel c p)) ∷ []) []

-- the edge by which the child s of q goes idle by a pair, if it does
abbrev pub exit_edge : Chart → ℕ → ℕ → Pair → List Edge
exit_edge c q s p = cond (under c p.state (parent_of c s) && marks_below c p.mark s) (own_edge c (child s) (idle q) (signalling 2 (exit_channel c p)) ∷ []) []

heard_edge : (c : Chart) (p r : Place) {a b : Bool} {x y : ℕ} → a ≡ b → x ≡ y → ◌≡◌ {A = List Edge} (cond a (own_edge c p r (signalling 2 x) ∷ []) []) (cond b (own_edge c p r (signalling 2 y) ∷ []) [])
heard_edge c p r e f = ap₂ (λ (z : Bool) (i : ℕ). cond z (own_edge c p r (signalling 2 i) ∷ []) []) e f

module _ (c : Chart) (e : Ends) (parents entries : List ℕ) (q s : ℕ) (states marks : List ℕ) (pairs before : ℕ) (H : HearsEntries c e parents entries q s states marks pairs before) where
  -- one pair more is heard, or not
  pub entry_more : (k d mark own ch : ℕ) (b : Bool) {f l h : List ℕ} {n m j : ℕ} → Adds f n l m (concat (entry_edge c q s) (take k (enter_pairs c))) → k < pairs
      → d ≡ get_or states k 0 → mark ≡ get_or marks k 0 → own ≡ get_or entries s 0
      → ((c : Chart) → Entering c parents entries → q < size c → mark < 16 → b ≡ (entered c d mark q && has own mark)) → (before < 128 → k < 128 → ch ≡ before + k)
      → ((c : Chart) (p r : Place) → Joins c p r e → Adds l m h j (cond b (own_edge c p r (signalling 2 ch) ∷ []) [])) → Adds f n h j (concat (entry_edge c q s) (take (k + 1) (enter_pairs c)))
  entry_more k d mark own ch b {f} {l} {h} {n} {m} {j} W i ds ms os bs cs new =
      let ranges = ranges_of H.chart in
      let few = H.columns.few in
      let x = get_or (enter_pairs c) k no_pair in
      let known = pair_known (enter_pairs c) states marks pairs H.columns k i no_pair in
      let state : d ≡ x.state = ds ∙ pair_state (enter_pairs c) states marks pairs H.columns k i no_pair in
      let named : mark ≡ x.mark = ms ∙ pair_mark (enter_pairs c) states marks pairs H.columns k i no_pair in
      let small : mark < 16 = omega (arith, (enter_pairs_at c (get_d_mem (enter_pairs c) k no_pair known)).1, ranges.entries_few) in
      let marked : own ≡ (state_at c s).entries = os ∙ H.tree.marks s (omega (arith, H.known, ranges.states_few)) in
      let test : b ≡ (entered c x.state x.mark (parent_of c s) && has (state_at c s).entries x.mark) =
      bs c H.tree H.home_known small ∙ ap₂ ◌&&◌ (ap₂ (λ (y z : ℕ). entered c y z q) state named ∙ ap (entered c x.state x.mark) H.home_is) (ap₂ has marked named) in
      let channel : ch ≡ enter_channel c x = cs (omega (arith, H.channels, ranges.channels_few)) (omega (arith, H.columns.count)) ∙ ap (λ (y : ℕ). y + k) H.channels ∙ sym (enter_channel_at c k no_pair known) in
      walk_more (entry_edge c q s) (enter_pairs c) k no_pair W known (subst (Adds l m h j) (heard_edge c (idle q) (child s) test channel) (new c (idle q) (child s) H.joins))

  pub entry_all : (k : ℕ) {f l : List ℕ} {n m : ℕ} → Adds f n l m (concat (entry_edge c q s) (take k (enter_pairs c))) → pairs ≤ k → Adds f n l m (map (λ p. own_edge c (idle q) (child s) (signalling 2 (enter_channel c p))) (heard_entries c s))
  unfolding heard_entries
  entry_all k {f} {l} {n} {m} W i = subst (Adds f n l m)
      (map_kept (λ p. entered c p.state p.mark (parent_of c s) && has (state_at c s).entries p.mark) (λ p. own_edge c (idle q) (child s) (signalling 2 (enter_channel c p))) (enter_pairs c))
      (walk_all (entry_edge c q s) (enter_pairs c) k W (omega (arith, H.columns.count)))

module _ (c : Chart) (s : ℕ) (e : Ends) (parents : List ℕ) (below q : ℕ) (states marks : List ℕ) (pairs before : ℕ) (H : HearsExits c s e parents below q states marks pairs before) where
  pub exit_more : (k d mark ch : ℕ) (b : Bool) {f l h : List ℕ} {n m j : ℕ} → Adds f n l m (concat (exit_edge c q s) (take k (exit_pairs c))) → k < pairs
      → d ≡ get_or states k 0 → mark ≡ get_or marks k 0
      → ((c : Chart) → Rooted c parents → q < size c → b ≡ (under c d q && has below mark)) → (before < 128 → k < 128 → ch ≡ before + k)
      → ((c : Chart) (p r : Place) → Joins c p r e → Adds l m h j (cond b (own_edge c p r (signalling 2 ch) ∷ []) [])) → Adds f n h j (concat (exit_edge c q s) (take (k + 1) (exit_pairs c)))
  exit_more k d mark ch b {f} {l} {h} {n} {m} {j} W i ds ms bs cs new =
      let ranges = ranges_of H.chart in
      let few = H.columns.few in
      let x = get_or (exit_pairs c) k no_pair in
      let known = pair_known (exit_pairs c) states marks pairs H.columns k i no_pair in
      let state : d ≡ x.state = ds ∙ pair_state (exit_pairs c) states marks pairs H.columns k i no_pair in
      let named : mark ≡ x.mark = ms ∙ pair_mark (exit_pairs c) states marks pairs H.columns k i no_pair in
      let test : b ≡ (under c x.state (parent_of c s) && marks_below c x.mark s) =
      bs c H.tree H.home_known ∙ ap₂ ◌&&◌ (ap₂ (under c) state H.home_is) (H.marked mark ∙ ap (λ (y : ℕ). marks_below c y s) named) in
      let channel : ch ≡ exit_channel c x = cs (omega (arith, H.channels, ranges.channels_few, ranges.transitions_few, enter_pairs_few c)) (omega (arith, H.columns.count)) ∙ ap (λ (y : ℕ). y + k) H.channels ∙ sym (exit_channel_at c k no_pair known) in
      walk_more (exit_edge c q s) (exit_pairs c) k no_pair W known (subst (Adds l m h j) (heard_edge c (child s) (idle q) test channel) (new c (child s) (idle q) H.joins))

  pub exit_all : (k : ℕ) {f l : List ℕ} {n m : ℕ} → Adds f n l m (concat (exit_edge c q s) (take k (exit_pairs c))) → pairs ≤ k → Adds f n l m (map (λ p. own_edge c (child s) (idle q) (signalling 2 (exit_channel c p))) (heard_exits c s))
  unfolding heard_exits
  exit_all k {f} {l} {n} {m} W i = subst (Adds f n l m)
      (map_kept (λ p. under c p.state (parent_of c s) && marks_below c p.mark s) (λ p. own_edge c (child s) (idle q) (signalling 2 (exit_channel c p))) (exit_pairs c))
      (walk_all (exit_edge c q s) (exit_pairs c) k W (omega (arith, H.columns.count)))

-- a pair's position, as a search along the columns finds it
pub search_start : (ps : List Pair) (p : Pair) → position (same_pair p) ps ≡ 0 + position (same_pair p) (drop 0 ps)
search_start ps p = omega arith

module _ (ps : List Pair) (p : Pair) (states marks : List ℕ) (n : ℕ) (C : PairColumns ps states marks n) (k : ℕ) where
  pair_test : {state mark s m : ℕ} → state ≡ p.state → mark ≡ p.mark → s ≡ get_or states k 0 → m ≡ get_or marks k 0 → k < n → (eqb state s && eqb mark m) ≡ same_pair p (get_or ps k no_pair)
  unfolding same_pair
  pair_test e f g i h = ap₂ ◌&&◌ (ap₂ eqb e (g ∙ pair_state ps states marks n C k h no_pair)) (ap₂ eqb f (i ∙ pair_mark ps states marks n C k h no_pair))

  pub search_on : {state mark s m : ℕ} → state ≡ p.state → mark ≡ p.mark → s ≡ get_or states k 0 → m ≡ get_or marks k 0 → k < n → (eqb state s && eqb mark m) ≡ false
      → position (same_pair p) ps ≡ k + position (same_pair p) (drop k ps) → position (same_pair p) ps ≡ (k + 1) + position (same_pair p) (drop (k + 1) ps)
  search_on e f g i h b W = W ∙ omega (arith, position_next (same_pair p) (drop_next ps k no_pair (pair_known ps states marks n C k h no_pair)) (sym (pair_test e f g i h) ∙ b))

  pub search_found : {state mark s m : ℕ} → state ≡ p.state → mark ≡ p.mark → s ≡ get_or states k 0 → m ≡ get_or marks k 0 → k < n → (eqb state s && eqb mark m) ≡ true
      → position (same_pair p) ps ≡ k + position (same_pair p) (drop k ps) → k ≡ position (same_pair p) ps
  search_found e f g i h b W = omega (arith, W, position_stop (same_pair p) (drop_next ps k no_pair (pair_known ps states marks n C k h no_pair)) (sym (pair_test e f g i h) ∙ b))

  pub search_none : n ≤ k → position (same_pair p) ps ≡ k + position (same_pair p) (drop k ps) → k ≡ position (same_pair p) ps
  search_none h W = omega (arith, W, position_end (same_pair p) (drop_of_length-le ps {i = k} (omega (arith, C.count))))
