-- Which edges may be taken together, by what the code has of them.
use mathlib.Core.Path.{◌≡◌, sym, ap, ap₂, ◌∙◌}
use mathlib.Core.Bool.{Bool, true, false, cond, ◌&&◌, and-false}
use mathlib.Core.Logic.{◌≢◌}
use mathlib.Core.List.{List, map, map-map}
use Prim.Native.Nat.{ℕ}
use native.Mathlib.Omega.{arith}
use lib.ListN.{length, take}
use Rattle.lists.specs.Lists.{below}
use Rattle.labels.specs.Label.{receives}
use Rattle.steps.specs.Moves.{maximal, none_fits, allowed}
use Rattle.steps.specs.Cases.{member, case_of, case_allows, owner_of as member_owner}
use Rattle.steps.specs.declared.step.Member.{Member}
use Rattle.steps.specs.declared.step.Case.{Case}
use Rattle.lists.proofs.Lists.{take_map}
use Rattle.steps.proofs.Steps.{allowed_case, maximal_none}
use Rattle.network_records.specs.Network.{Network, edge_at, owner_of}
use Rattle.network_moves.specs.Choices.{label_at, owner_at, active_at, receiver_at}
use Rattle.network_records.specs.Layout.{Laid}
use Rattle.network_records.specs.declared.header.Counts.{Counts}
use Rattle.network_moves.specs.declared.configuration.Configuration.{Configuration}
use Rattle.network_records.proofs.Records.{few_owners}

module _ (n : Network) (c : Configuration) (channel m : ℕ) where
  pub not_heard : receives (label_at n m) channel ≡ false → receiver_at n c channel m ≡ 255
  not_heard h = rw h

  pub not_active : active_at n c m ≡ false → receiver_at n c channel m ≡ 255
  not_active h = ap (λ (b : Bool). cond (receives (label_at n m) channel && b) (owner_at n m) 255) h ∙ ap (λ (b : Bool). cond b (owner_at n m) 255) (and-false (receives (label_at n m) channel))

  pub receiver_active : receives (label_at n m) channel ≡ true → active_at n c m ≡ true → receiver_at n c channel m ≡ owner_at n m
  receiver_active h k = rw (h, k)

module _ {rest : List ℕ} {k : Counts} {offsets : List ℕ} {n : Network} (L : Laid rest k offsets n) (c : Configuration) where
  owner_known : (m : ℕ) → owner_at n m ≢ 255
  unfolding owner_of
  owner_known m e = absurd (omega (arith, few_owners L.located (edge_at n m).source, e))

  -- no further active receiver fits, by the owners of the active receivers and of the chosen edges
  pub none_fit : (channel : ℕ) (ms receivers : List ℕ) {owners : List ℕ} {b : Bool} → b ≡ none_fits (take k.edges receivers) owners → take k.edges receivers ≡ map (receiver_at n c channel) (below k.edges) → owners ≡ map (owner_at n) ms
      → b ≡ maximal (label_at n) (owner_at n) (active_at n c) k.edges channel ms
  none_fit channel ms receivers h p q =
      h ∙ ap₂ none_fits p q
      ∙ sym (maximal_none (label_at n) (owner_at n) (active_at n c) k.edges channel ms (λ m l. owner_known m))

  module _ (ms : List ℕ) (members : List Member) (e : take (length ms) members ≡ map (member (label_at n) (owner_at n)) ms) where
    -- a set is allowed as the case of its members says
    pub allowed_as : {x : Case} (y : Case) → x ≡ case_of k.rendezvous (take (length ms) members) → x ≡ y
        → case_allows y (λ ch. maximal (label_at n) (owner_at n) (active_at n c) k.edges ch ms) ≡ allowed (label_at n) (owner_at n) (active_at n c) k.edges k.rendezvous ms
    allowed_as y h q = ap (λ (v : Case). case_allows v (λ ch. maximal (label_at n) (owner_at n) (active_at n c) k.edges ch ms)) (sym q ∙ h ∙ ap (case_of k.rendezvous) e) ∙ sym (allowed_case (label_at n) (owner_at n) (active_at n c) k.edges k.rendezvous ms)

    -- the owners of its members
    pub owners_part : {owners : List ℕ} → owners ≡ map member_owner members → take (length ms) owners ≡ map (owner_at n) ms
    owners_part h = ap (take (length ms)) h ∙ take_map member_owner (length ms) members ∙ ap (map member_owner) e ∙ map-map member_owner (member (label_at n) (owner_at n)) ms
