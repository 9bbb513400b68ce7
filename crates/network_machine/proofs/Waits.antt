-- What waiting, and asking how long a wait may be, answers by the first of its tests that fails.
use mathlib.Core.Path.{◌≡◌, sym, ap, ◌∙◌}
use mathlib.Core.Bool.{true, false, cond}
use mathlib.Core.List.{List}
use Prim.Native.Nat.{ℕ}
use native.Mathlib.Omega.{arith}
use borrow.Author.Tests.{le-leb, lt-leb}
use Rattle.reading.specs.Answer.{done, refused, unless}
use Rattle.std.specs.Prelude.{Some, None}
use Rattle.lists.specs.Lists.{below}
use Rattle.lists.proofs.Options.{some_where, none_where}
use Rattle.clocks.specs.Clocks.{limit_left, later, in_limit}
use Rattle.network_records.specs.Network.{Network}
use Rattle.network_moves.specs.Machine.{is_configuration, urgent, bounds_kept, tested, wait, ticks_under, longest}
use Rattle.network_moves.specs.declared.configuration.Configuration.{Configuration}

abbrev pub with_clocks : Configuration → List ℕ → Configuration
with_clocks c cs = record { locations = c.locations; flags = c.flags; variables = c.variables; clocks = cs }

module _ (n : Network) (c : Configuration) (d : ℕ) where
  pub not_configuration : is_configuration n c ≡ false → wait n c d ≡ refused 26
  unfolding wait unless
  not_configuration h = rw h

  module _ (h : is_configuration n c ≡ true) where
    pub no_ticks : d ≡ 0 → wait n c d ≡ refused 22
    unfolding wait unless
    no_ticks e = rw (h, lt-leb 1 d (omega arith))

    module _ (l : d ≡ 0 → ⊥) {k : ℕ} (same : k ≡ n.clocks) where
      limit : in_limit n.clocks (later n.clocks d c.clocks) ≡ in_limit k (later k d c.clocks)
      limit = ap (λ (m : ℕ). in_limit m (later m d c.clocks)) (sym same)

      pub past_limit : None ≡ cond (in_limit k (later k d c.clocks)) (Some (later k d c.clocks)) None → wait n c d ≡ refused 22
      unfolding wait unless
      past_limit e = rw (h, le-leb 1 d (omega arith), limit ∙ none_where _ _ e)

      -- the clocks so much later, where they are within the limit
      module _ {cs : List ℕ} (e : Some cs ≡ cond (in_limit k (later k d c.clocks)) (Some (later k d c.clocks)) None) where
        pub urgency : urgent n c ≡ true → wait n c d ≡ refused 27
        unfolding wait unless
        urgency u = rw (h, le-leb 1 d (omega arith), limit ∙ (some_where _ e).0, u)

        pub waits : urgent n c ≡ false → wait n c d ≡ tested n (with_clocks c cs)
        unfolding wait unless
        waits u =
            let w = some_where _ e in
            rw (h, le-leb 1 d (omega arith), limit ∙ w.0, u) (ap (λ (ds : List ℕ). tested n (with_clocks c ds)) (ap (λ (m : ℕ). later m d c.clocks) (sym same) ∙ sym w.1))

-- the new bounds
module _ (n : Network) (c : Configuration) where
  pub bounds_broken : bounds_kept n c ≡ false → tested n c ≡ refused 21
  unfolding tested unless
  bounds_broken h = rw h

  pub bounds_right : bounds_kept n c ≡ true → tested n c ≡ done c
  unfolding tested unless
  bounds_right h = rw h

-- the longest wait
module _ (n : Network) (c : Configuration) where
  pub longest_elsewhere : is_configuration n c ≡ false → longest n c ≡ refused 26
  unfolding longest unless
  longest_elsewhere h = rw h

  pub longest_urgent : is_configuration n c ≡ true → urgent n c ≡ true → longest n c ≡ done 0
  unfolding longest unless
  longest_urgent h u = rw (h, u)

  pub longest_ticks : is_configuration n c ≡ true → urgent n c ≡ false
      → longest n c ≡ done (ticks_under n c (below n.automata) (limit_left n.clocks c.clocks))
  unfolding longest unless
  longest_ticks h u = rw (h, u)
