-- The transitions that edges bear: what the array of them holds, and what is left of it without 255.
use mathlib.Core.Path.{◌≡◌, refl, sym, ap, ◌∙◌}
use mathlib.Core.Bool.{Bool, false, cond}
use mathlib.Core.List.{List, [], ◌∷◌, ◌++◌, map}
use Prim.Native.Nat.{ℕ, zero, suc, ◌-◌, ◌≤◌, ◌<◌}
use native.Mathlib.Omega.{arith}
use lib.ListN.{length, get_or, take, replicate, length-append, length-take, length-map, length-replicate, get_or-eq_default}
use lib.Seq.{get_or-take, take_all}
use Rattle.lists.specs.Lists.{keep, padded}
use Rattle.lists.proofs.Lists.{take_map}
use Rattle.network_records.specs.Network.{Edge, Network, edge_at}
use Rattle.network.specs.Bearing.{transition_of, transitions_of}
use Rattle.network_records.specs.Layout.{Laid}
use Rattle.network_records.specs.declared.header.Counts.{Counts}

module _ {A : Type 0} (d : A) where
  -- past a list that is padded with d stands d, as past its end
  get_d_repeated : (k i : ℕ) → get_or (replicate k d) i d ≡ d
  get_d_repeated zero i = refl
  get_d_repeated (suc k) zero = refl
  get_d_repeated (suc k) (suc i) = get_d_repeated k i

  get_d_followed : (l : List A) (k i : ℕ) → get_or (l ++ replicate k d) i d ≡ get_or l i d
  get_d_followed [] k i = get_d_repeated k i
  get_d_followed (x ∷ l) k zero = refl
  get_d_followed (x ∷ l) k (suc i) = get_d_followed l k i

  pub get_d_padded : (n : ℕ) (l : List A) (i : ℕ) → get_or (padded n d l) i d ≡ get_or l i d
  unfolding padded
  get_d_padded n l i = get_d_followed l (n - length l) i

  pub length_padded : (n : ℕ) (l : List A) → length l ≤ n → length (padded n d l) ≡ n
  unfolding padded
  length_padded n l h = omega (arith, length-append l (replicate (n - length l) d), length-replicate (n - length l) d)

  -- what d fails is not kept of the padding
  module _ (p : A → Bool) (e : p d ≡ false) where
    keep_repeated : (k : ℕ) → keep p (replicate k d) ≡ []
    unfolding keep
    keep_repeated zero = refl
    keep_repeated (suc k) = rw e (keep_repeated k)

    keep_followed : (l : List A) (k : ℕ) → keep p (l ++ replicate k d) ≡ keep p l
    unfolding keep
    keep_followed [] k = keep_repeated k
    keep_followed (x ∷ l) k = ap (λ (m : List A). cond (p x) (x ∷ m) m) (keep_followed l k)

    pub keep_padded : (n : ℕ) (l : List A) → keep p (padded n d l) ≡ keep p l
    unfolding padded
    keep_padded n l = keep_followed l (n - length l)

-- the edge of a number that the network lacks
module _ {rest : List ℕ} {k : Counts} {offsets : List ℕ} {n : Network} (L : Laid rest k offsets n) (m : ℕ) where
  pub no_transition_lem : k.edges ≤ m → 255 ≡ transition_of n m
  unfolding edge_at
  no_transition_lem h = ap (λ (e : Edge). e.transition) (sym (get_or-eq_default n.edges _ (let z : length n.edges ≤ m = omega (arith, L.edges) in z)))

module _ (n : Network) (ms : List ℕ) where
  pub transitions_length : length (transitions_of n ms) ≡ 16
  unfolding transitions_of
  transitions_length = length_padded 255 16 _ (omega (arith, length-map (take 16 ms) (transition_of n), length-take 16 ms))

  pub transitions_at : (i : ℕ) → i < 16 → get_or (transitions_of n ms) i 255 ≡ get_or (map (transition_of n) ms) i 255
  unfolding transitions_of
  transitions_at i h = get_d_padded 255 16 _ i ∙ ap (λ (l : List ℕ). get_or l i 255) (sym (take_map (transition_of n) 16 ms)) ∙ get_or-take 16 (map (transition_of n) ms) i 255 h

  -- of a list that fits
  pub transitions_kept : (p : ℕ → Bool) → p 255 ≡ false → length ms ≤ 16 → keep p (transitions_of n ms) ≡ keep p (map (transition_of n) ms)
  unfolding transitions_of
  transitions_kept p e h = keep_padded 255 p e 16 _ ∙ ap (λ (l : List ℕ). keep p (map (transition_of n) l)) (take_all 16 ms h)
