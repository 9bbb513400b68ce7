-- What the choice of edges goes by, of each edge's number.
use Rattle.std.specs.Prelude.{ℕ, ◌≡◌, Bool, true, cond, ◌&&◌, List, map, ltb, length, take}
use Rattle.lists.specs.Lists.{all}
use Rattle.steps.specs.Moves.{allowed}
use Rattle.steps.specs.Cases.{member}
use Rattle.steps.specs.declared.step.Member.{Member}
use Rattle.labels.specs.Label.{Label, receives}
use Rattle.network_records.specs.Network.{Network, edge_at, owner_of}
use Rattle.network_moves.specs.Machine.{active_edge}
use Rattle.network_records.specs.declared.header.Counts.{Counts}
use Rattle.network_moves.specs.declared.configuration.Configuration.{Configuration}

abbrev pub label_at : Network → ℕ → Label
label_at n m = (edge_at n m).label

abbrev pub owner_at : Network → ℕ → ℕ
owner_at n m = owner_of n (edge_at n m)

abbrev pub active_at : Network → Configuration → ℕ → Bool
active_at n c m = active_edge n c (edge_at n m)

-- the owner of an active receiver of the channel, and else 255
abbrev pub receiver_at : Network → Configuration → ℕ → ℕ → ℕ
receiver_at n c channel m = cond (receives (label_at n m) channel && active_at n c m) (owner_at n m) 255

-- a list has numbers of edges only
abbrev pub Known : Counts → List ℕ → Type 0
Known k ms = all (λ m. ltb m k.edges) ms ≡ true

-- an array has in front what is known of the edges of a list
abbrev pub Members : Network → List ℕ → List Member → Type 0
Members n ms members = take (length ms) members ≡ map (member (label_at n) (owner_at n)) ms

abbrev pub allowed_in : Network → Configuration → Counts → List ℕ → Bool
allowed_in n c k ms = allowed (label_at n) (owner_at n) (active_at n c) k.edges k.rendezvous ms
