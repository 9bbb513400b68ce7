-- What one more edge of a list does to a configuration.
use mathlib.Core.Path.{◌≡◌, ap, ◌∙◌}
use mathlib.Core.List.{List, [], ◌∷◌, map}
use Prim.Native.Nat.{ℕ}
use lib.IntN.{ℤ}
use lib.ListN.{get_or, set}
use Rattle.lists.specs.Lists.{concat}
use Rattle.clocks.specs.Clocks.{reset}
use Rattle.updates.specs.Update.{assign}
use Rattle.updates.proofs.Updates.{assign_append}
use Rattle.steps.specs.Moves.{variables_after, clocks_after}
use Rattle.network_records.specs.Network.{Edge, Network, owner_of, location_at}
use Rattle.network_moves.specs.Machine.{overwrite, move, write, after}
use Rattle.network_moves.specs.Turns.{taken, taken_all}
use Rattle.network_records.specs.Edges.{Kept}
use Rattle.network_records.specs.declared.header.Counts.{Counts}
use Rattle.network_records.specs.declared.edge.Edge as code
use Rattle.network_moves.specs.declared.configuration.Configuration.{Configuration}

-- all edges of a step, by the first and those after it
module _ (n : Network) (old : List ℤ) (c : Configuration) where
  pub taken_all_lem : (es : List Edge) → c.variables ≡ old → after n es c ≡ taken_all n es old c
  unfolding after variables_after
  taken_all_lem es e = λ j. record {
    locations = move n es c.locations;
    flags = write n es c.flags;
    variables = assign (e j) (concat (λ l. l.body.updates) (map (λ x. x.label) es)) c.variables;
    clocks = clocks_after (map (λ x. x.label) es) c.clocks;
  }

  pub taken_next : (f : ℕ → Edge) {l rest : List ℕ} {m : ℕ} → l ≡ m ∷ rest → taken_all n (map f l) old c ≡ taken_all n (map f rest) old (taken n (f m) old c)
  unfolding move write clocks_after concat
  taken_next f {l} {rest} {m} h =
      let updates = assign_append old (f m).label.body.updates (concat (λ b. b.body.updates) (map (λ e. e.label) (map f rest))) c.variables in
      rw h (λ j. record {
        locations = move n (map f rest) (taken n (f m) old c).locations;
        flags = write n (map f rest) (taken n (f m) old c).flags;
        variables = updates j;
        clocks = clocks_after (map (λ e. e.label) (map f rest)) (taken n (f m) old c).clocks;
      })

  pub taken_none : (f : ℕ → Edge) {l : List ℕ} → l ≡ [] → taken_all n (map f l) old c ≡ c
  unfolding move write clocks_after concat assign
  taken_none f h = rw h

-- the same of the edge that the code has
module _ {k : Counts} {s : List ℕ} {c : code.Edge} {d : Edge} (K : Kept k s c d) (n : Network) {o : ℕ} (h : o ≡ (location_at n c.source).automaton) where
  pub owner_kept : o ≡ owner_of n d
  unfolding owner_of
  owner_kept = h ∙ ap (λ (i : ℕ). (location_at n i).automaton) K.source

  -- the configuration that the code makes
  pub taken_kept : (old : List ℤ) (a : Configuration) {ls fs cs : List ℕ} {vs : List ℤ} → ls ≡ set a.locations o c.target
      → fs ≡ set a.flags o (overwrite (get_or a.flags o 0) c.written c.values) → vs ≡ assign old d.label.body.updates a.variables → cs ≡ reset c.resets a.clocks
      → record { locations = ls; flags = fs; variables = vs; clocks = cs } ≡ taken n d old a
  taken_kept old a l f v t =
      let x = l ∙ (λ j. set a.locations (owner_kept j) (K.target j)) in
      let y = f ∙ (λ j. set a.flags (owner_kept j) (overwrite (get_or a.flags (owner_kept j) 0) (K.written j) (K.values j))) in
      let z = t ∙ ap (λ (b : ℕ). reset b a.clocks) K.resets in
      λ j. record { locations = x j; flags = y j; variables = v j; clocks = z j }
