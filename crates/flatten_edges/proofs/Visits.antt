-- Laws of the walk over all places: a place by its numbers, and the edges from all.
use mathlib.Core.Path.{◌≡◌, refl, sym, ap, ◌∙◌, subst}
use mathlib.Core.List.{List, [], Memᴰ as Mem}
use Prim.Native.Nat.{ℕ, ◌+◌, ◌≤◌, ◌<◌}
use native.Mathlib.Omega.{arith}
use lib.ListN.{length, get_or, take}
use Rattle.lists.specs.Lists.{concat}
use Rattle.lists.proofs.Lists.{get_d_mem}
use Rattle.chart_records.specs.Chart.{Chart}
use Rattle.flattening.specs.Flatten.{Place, idle, child, pre, post, all_places, number, from_place, flatten}
use Rattle.flattening.proofs.Numbers.{number_of_place}
use Rattle.flatten_places.specs.Tables.{kind_of, value_of, mark_of, Listed}
use Rattle.flatten_places.specs.Walking.{Spread}
use Rattle.flatten_places.specs.declared.place.Places.{Places}
use Rattle.flatten_edges.specs.Gathering.{Gathered}
use Rattle.flatten_edges.specs.Adding.{Adds}
use Rattle.flatten_edges.proofs.Gathers.{walk_more, walk_all, walk_past}
use Rattle.flatten_edges.proofs.Joining.{column_at}

-- a place by its kind and its numbers
pub is_idle : (p : Place) {kind value : ℕ} → kind ≡ kind_of p → value ≡ value_of p → kind ≡ 0 → p ≡ idle value
is_idle (idle q) k v e = ap idle (sym v)
is_idle (child s) k v e = absurd (omega arith)
is_idle (pre r) k v e = absurd (omega arith)
is_idle (post t) k v e = absurd (omega arith)

pub is_child_lem : (p : Place) {kind value : ℕ} → kind ≡ kind_of p → value ≡ value_of p → kind ≡ 1 → p ≡ child value
is_child_lem (idle q) k v e = absurd (omega arith)
is_child_lem (child s) k v e = ap child (sym v)
is_child_lem (pre r) k v e = absurd (omega arith)
is_child_lem (post t) k v e = absurd (omega arith)

pub is_pre : (p : Place) {kind value mark : ℕ} → kind ≡ kind_of p → value ≡ value_of p → mark ≡ mark_of p → kind ≡ 2 → p ≡ pre (record { state = value; mark = mark })
is_pre (idle q) k v m e = absurd (omega arith)
is_pre (child s) k v m e = absurd (omega arith)
is_pre (pre r) k v m e = let a = sym v in let b = sym m in λ i. pre (record { state = a i; mark = b i })
is_pre (post t) k v m e = absurd (omega arith)

pub is_post : (p : Place) {kind value : ℕ} → kind ≡ kind_of p → value ≡ value_of p → (kind ≡ 0 → ⊥) → (kind ≡ 1 → ⊥) → (kind ≡ 2 → ⊥) → p ≡ post value
is_post (idle q) k v a b d = absurd (a k)
is_post (child s) k v a b d = absurd (b k)
is_post (pre r) k v a b d = absurd (d k)
is_post (post t) k v a b d = ap post (sym v)

-- the edges from it
pub same_edges : (c : Chart) {p r : Place} {i : ℕ} {b l : List ℕ} {n m : ℕ} → p ≡ r → Mem p (all_places c) → i ≡ number c p → (Mem r (all_places c) → i ≡ number c r → Adds b n l m (from_place c r)) → Adds b n l m (from_place c p)
same_edges c {p} {r} {i} {b} {l} {n} {m} e k f A = subst (λ (x : Place). Adds b n l m (from_place c x)) (sym e) (A (subst (λ (x : Place). Mem x (all_places c)) e k) (f ∙ ap (number c) e))

module _ (c : Chart) (places : Places) (L : Listed c (all_places c) places) where
  pub spread_of : Spread c places.exits places.automata
  spread_of = record { marks = L.exits; owners = L.automata }

  -- one place more
  pub place_more : (i kind value mark : ℕ) {b l g : List ℕ} {n m j : ℕ} → Adds b n l m (concat (from_place c) (take i (all_places c))) → i < places.count
      → kind ≡ get_or places.kinds i 0 → value ≡ get_or places.values i 0 → mark ≡ get_or places.marks i 0
      → ((p : Place) → Mem p (all_places c) → i ≡ number c p → kind ≡ kind_of p → value ≡ value_of p → mark ≡ mark_of p → Adds l m g j (from_place c p))
      → Adds b n g j (concat (from_place c) (take (i + 1) (all_places c)))
  place_more i kind value mark W h k v e A =
      let known : i < length (all_places c) = omega (arith, L.count) in
      walk_more (from_place c) (all_places c) i (idle 0) W known (A (get_or (all_places c) i (idle 0)) (get_d_mem (all_places c) i (idle 0) known) (sym (number_of_place c (idle 0) i known))
      (k ∙ column_at kind_of (all_places c) places.kinds i (idle 0) L.kinds known) (v ∙ column_at value_of (all_places c) places.values i (idle 0) L.values known) (e ∙ column_at mark_of (all_places c) places.marks i (idle 0) L.marks known))

  -- all of them
  pub edges_all : (i : ℕ) {b l : List ℕ} {m : ℕ} → Adds b 0 l m (concat (from_place c) (take i (all_places c))) → places.count ≤ i → length b ≡ 13312 → Gathered l m (flatten c).edges
  unfolding flatten concat
  edges_all i {b} {l} {m} W h e = (walk_all (from_place c) (all_places c) i W (omega (arith, L.count))).after e [] (record { counted = refl; stand = λ k. refl })

  -- too many of them before the last place
  pub place_past : (i kind value mark : ℕ) {b l g : List ℕ} {m j : ℕ} → Adds b 0 l m (concat (from_place c) (take i (all_places c))) → i < places.count
      → kind ≡ get_or places.kinds i 0 → value ≡ get_or places.values i 0 → mark ≡ get_or places.marks i 0
      → ((p : Place) → Mem p (all_places c) → i ≡ number c p → kind ≡ kind_of p → value ≡ value_of p → mark ≡ mark_of p → Adds l m g j (from_place c p))
      → 1024 < j → length b ≡ 13312 → Gathered g 1025 (flatten c).edges
  unfolding flatten concat
  place_past i kind value mark W h k v e A past z = (walk_past (from_place c) (all_places c) (i + 1) (place_more i kind value mark W h k v e A) past).after z [] (record { counted = refl; stand = λ k. refl })
