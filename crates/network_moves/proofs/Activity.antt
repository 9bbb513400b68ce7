-- Which edges are active, by what the code has of them.
use mathlib.Core.Path.{◌≡◌, sym, ap, ap₂, ◌∙◌}
use mathlib.Core.Bool.{Bool, beq, ◌&&◌}
use mathlib.Core.List.{List}
use Prim.Native.Nat.{ℕ}
use lib.Dec.{eqb}
use Rattle.lists.specs.Lists.{all, has, implies}
use Rattle.labels.specs.Label.{guards_hold}
use Rattle.labels.specs.Guard.{holds}
use Rattle.network_records.specs.Network.{Edge, Network, owner_of, location_at}
use Rattle.network_moves.specs.Machine.{place, flags_agree, active_edge}
use Rattle.network_records.specs.Edges.{Kept}
use Rattle.network_records.specs.declared.header.Counts.{Counts}
use Rattle.network_moves.specs.declared.configuration.Configuration.{Configuration}
use Rattle.network_records.specs.declared.edge.Edge as code

module _ {k : Counts} {s : List ℕ} {e : code.Edge} {d : Edge} (K : Kept k s e d) where
  -- one automaton's flag
  pub flag_kept : (flags a : ℕ) {b t x : Bool} → b ≡ implies t (beq (has flags e.exit) x) → t ≡ has e.tested a → x ≡ has e.needed a
      → implies (has d.tested a) (beq (has flags d.exit) (has d.needed a)) ≡ b
  flag_kept flags a h p q = sym (h ∙ ap₂ (λ (y z : Bool). implies y (beq (has flags e.exit) z)) (p ∙ ap (λ (m : ℕ). has m a) K.tested) (q ∙ ap (λ (m : ℕ). has m a) K.needed)
      ∙ ap (λ (m : ℕ). implies (has d.tested a) (beq (has flags m) (has d.needed a))) K.exit)

  pub active_kept : (n : Network) (c : Configuration) {o p : ℕ} {x y : Bool} → o ≡ (location_at n e.source).automaton → p ≡ place c o → x ≡ all (holds c.variables c.clocks) d.label.body.guards → y ≡ flags_agree c d
      → (eqb p e.source && (x && y)) ≡ active_edge n c d
  unfolding active_edge owner_of guards_hold
  active_kept n c f g h j = ap₂ ◌&&◌ (ap (λ (p : ℕ). eqb p e.source) (g ∙ ap (place c) f) ∙ ap (λ (z : ℕ). eqb (place c (location_at n z).automaton) z) K.source) (ap₂ ◌&&◌ h j)
