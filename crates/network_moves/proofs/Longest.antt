-- The longest wait of a network: a wait is accepted just where it is no longer (`longest_tells`; of files `network_tells`).
use mathlib.Core.Path.{◌≡◌, refl, sym, ap, ◌∙◌}
use mathlib.Core.Bool.{Bool, true, false, cond, not, ◌&&◌}
use mathlib.Core.List.{List, [], ◌∷◌, map}
use Prim.Native.Nat.{ℕ, ◌+◌, ◌≤◌, ◌<◌}
use native.Mathlib.Omega.{arith}
use lib.Dec.{leb}
use lib.ListN.{length, get_or}
use Rattle.lists.specs.Lists.{below}
use Rattle.reading.specs.Answer.{done, unless}
use Rattle.clocks.specs.Clocks.{clock_limit, all_ticks, keeps, row_left, limit_left, later, in_limit}
use Rattle.clocks.specs.Longest.{TellsLongest}
use Rattle.lists.proofs.Bools.{parts, clash, cond_no}
use Rattle.lists.proofs.Lists.{all_map}
use Rattle.reading.proofs.Answer.{unless_at, unless_by, done_injective}
use Rattle.clocks.proofs.Longest.{rows_left, keeps_all, rows_no_clock, rows_limited, tells_none, tells_unless, tells_then, tells_rows}
use Rattle.network_records.specs.Network.{Network, location_at, network_of}
use Rattle.network_records.proofs.Records.{network_located, few_clocks}
use Rattle.network_moves.specs.Machine.{place, bounds_kept, is_configuration, urgent, tested, wait, ticks_under, longest, wait_of, longest_of}
use Rattle.network_moves.specs.Longest.{LongestOfNetworks}
use Rattle.network_moves.specs.declared.configuration.Configuration.{Configuration}

-- a configuration keeps its bounds
configuration_bounds : (n : Network) (σ : Configuration) → is_configuration n σ ≡ true → bounds_kept n σ ≡ true
unfolding is_configuration
configuration_bounds n σ h = search parts

-- and its clocks are within the limit
configuration_limit : (n : Network) (σ : Configuration) → is_configuration n σ ≡ true → in_limit n.clocks σ.clocks ≡ true
unfolding is_configuration
configuration_limit n σ h = search parts

module _ (n : Network) (σ : Configuration) where
  -- the rows of the locations of some automata
  abbrev rows_of : List ℕ → List (List ℕ)
  rows_of qs = map (λ a. (location_at n (place σ a)).bounds) qs

  -- the ticks left under the bounds of their locations are those left under the rows
  under_rows : (qs : List ℕ) (m : ℕ) → ticks_under n σ qs m ≡ rows_left n.clocks (rows_of qs) σ.clocks m
  unfolding ticks_under rows_left
  under_rows [] m = refl
  under_rows (a ∷ qs) m = under_rows qs (row_left n.clocks (location_at n (place σ a)).bounds σ.clocks m)

  -- the configuration at other clocks, which keeps its bounds just where they keep the rows
  abbrev with_clocks : List ℕ → Configuration
  with_clocks cs = record { locations = σ.locations; flags = σ.flags; variables = σ.variables; clocks = cs }

  kept_rows : (cs : List ℕ) → bounds_kept n (with_clocks cs) ≡ keeps_all (rows_of (below n.automata)) cs
  unfolding bounds_kept place
  kept_rows cs = sym (all_map (λ r. keeps r cs) (λ a. (location_at n (place σ a)).bounds) (below n.automata))

  -- what is left under all rows, and to the limit; and a configuration so much later
  abbrev left : ℕ
  left = ticks_under n σ (below n.automata) (limit_left n.clocks σ.clocks)

  abbrev waited : ℕ → Configuration
  waited d = with_clocks (later n.clocks d σ.clocks)

  -- a wait, by whether an urgent location is occupied: then none is accepted
  tells_urgent : n.clocks ≤ 8 → bounds_kept n σ ≡ true → (b : Bool)
      → TellsLongest (done (cond b 0 left)) (λ d. unless 22 (leb 1 d && in_limit n.clocks (waited d).clocks) (unless 27 (not b) (tested n (waited d))))
  unfolding tested
  tells_urgent few k true = tells_none _ (λ d τ e. clash (unless_at 27 _ _ (unless_at 22 _ _ e).1).0 refl)
  tells_urgent few k false = unfold unless in
      tells_rows n.clocks (rows_of (below n.automata)) σ.clocks (λ cs. bounds_kept n (with_clocks cs)) waited left few kept_rows k
      (under_rows (below n.automata) (limit_left n.clocks σ.clocks))

  -- so the answer is the longest wait
  pub longest_tells : n.clocks ≤ 8 → TellsLongest (longest n σ) (wait n σ)
  unfolding longest wait
  longest_tells few = tells_unless 26 (is_configuration n σ) _ _ (λ h. tells_urgent few (configuration_bounds n σ h) (urgent n σ))

  -- without a clock, and with no urgent location occupied, it is as long as a wait can be
  pub longest_no_clock : is_configuration n σ ≡ true → urgent n σ ≡ false → n.clocks ≡ 0 → longest n σ ≡ done all_ticks
  unfolding longest
  longest_no_clock h u z =
      unless_by 26 _ h
      ∙ ap done (cond_no 0 left u ∙ under_rows (below n.automata) _
      ∙ ap (λ (k : ℕ). rows_left k (rows_of (below n.automata)) σ.clocks (limit_left k σ.clocks)) z ∙ rows_no_clock (rows_of (below n.automata)) σ.clocks)

  -- with one never longer than from the clock to the limit
  pub longest_limited : (m : ℕ) → n.clocks ≤ 8 → longest n σ ≡ done m → (i : ℕ) → i < n.clocks → i < length σ.clocks → get_or σ.clocks i 0 + m ≤ clock_limit
  unfolding longest
  longest_limited m few e i a b =
      let w = unless_at 26 _ _ e in
      omega (
        arith,
        done_injective w.1,
        at_most (urgent n σ),
        under_rows (below n.automata) (limit_left n.clocks σ.clocks),
        rows_limited n.clocks (rows_of (below n.automata)) σ.clocks few (configuration_limit n σ w.0) i a b,
      )
    where
      at_most : (b : Bool) → cond b 0 left ≤ left
      at_most true = omega arith
      at_most false = omega arith

-- of every file: one that passes has no more clocks
pub network_tells : LongestOfNetworks
unfolding longest_of wait_of
network_tells file σ = tells_then (network_of file) (λ n. longest n σ) (λ n. wait n σ) (λ n e.
    let L = (network_located file n e).2 in
    longest_tells n σ (omega (arith, L.clocks, few_clocks L)))
