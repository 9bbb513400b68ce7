-- What a step answers, by the first of its tests that fails.
use mathlib.Core.Path.{◌≡◌, ap, ◌∙◌}
use mathlib.Core.Bool.{true, false}
use mathlib.Core.List.{List, map, map-map}
use Prim.Native.Nat.{ℕ, ◌≤◌}
use borrow.Author.Tests.{leb-true}
use lib.Dec.{leb, ltb}
use lib.ListN.{length}
use Rattle.lists.specs.Lists.{all, any, implies}
use Rattle.reading.specs.Answer.{refused, unless}
use Rattle.steps.specs.Moves.{known, allowed, all_stay}
use Rattle.lists.proofs.Lists.{all_map, any_map}
use Rattle.reading.proofs.Answer.{unless_by}
use Rattle.network_records.specs.Network.{Edge, Network, urgent_at, edge_at}
use Rattle.network_moves.specs.Machine.{active_edge, urgent, is_configuration, after, tested, step}
use Rattle.network_moves.specs.Choices.{label_at, owner_at, active_at}
use Rattle.network_moves.specs.declared.configuration.Configuration.{Configuration}
use Rattle.lists.proofs.Bools.{parts}

-- known numbers are few, and each is below the count
module _ (k : ℕ) (ms : List ℕ) (h : known k ms ≡ true) where
  pub known_below : all (λ m. ltb m k) ms ≡ true
  unfolding known
  known_below = search parts

  pub known_few : length ms ≤ 16
  unfolding known
  known_few = let e : leb (length ms) 16 ≡ true = search parts in leb-true (length ms) 16 e

module _ (n : Network) (c : Configuration) (ms : List ℕ) where
  pub not_configuration : is_configuration n c ≡ false → step n c ms ≡ refused 26
  unfolding step unless
  not_configuration h = rw h

  module _ (h : is_configuration n c ≡ true) {k : ℕ} (q : length n.edges ≡ k) where
    pub not_known : known k ms ≡ false → step n c ms ≡ refused 18
    unfolding step unless
    not_known g = rw (h, ap (λ (j : ℕ). known j ms) q ∙ g)

    module _ (g : known k ms ≡ true) where
      all_known : known (length n.edges) ms ≡ true
      all_known = ap (λ (j : ℕ). known j ms) q ∙ g

      pub inactive : all (active_at n c) ms ≡ false → step n c ms ≡ refused 19
      unfolding step unless
      inactive a = rw (h, all_known, all_map (active_edge n c) (edge_at n) ms, a)

      module _ (a : all (active_at n c) ms ≡ true) where
        pub urgency : implies (urgent n c) (any (λ m. urgent_at n (edge_at n m).source) ms) ≡ false → step n c ms ≡ refused 27
        unfolding step unless
        urgency u = rw (h, all_known, all_map (active_edge n c) (edge_at n) ms, a, any_map (λ (e : Edge). urgent_at n e.source) (edge_at n) ms, u)

        module _ (u : implies (urgent n c) (any (λ m. urgent_at n (edge_at n m).source) ms) ≡ true) {r : ℕ} (z : n.rendezvous ≡ r) where
          -- what it answers past 27
          pub past_urgency : step n c ms
              ≡ unless 20 (allowed (label_at n) (owner_at n) (active_at n c) k r ms)
              (unless 28 (all_stay (map (label_at n) ms) c.variables) (tested n (after n (map (edge_at n) ms) c)))
          unfolding step
          past_urgency =
              unless_by 26 _ h
              ∙ (unless_by 18 _ all_known
              ∙ (unless_by 19 _ (all_map (active_edge n c) (edge_at n) ms ∙ a)
              ∙ (unless_by 27 _ (ap (implies (urgent n c)) (any_map (λ (e : Edge). urgent_at n e.source) (edge_at n) ms) ∙ u)
              ∙ rw (map-map (λ (e : Edge). e.label) (edge_at n) ms, q, z))))
