-- What the tests of a step say: numbers that are known, numbers that differ, labels that signal, variables at 0.
use mathlib.Core.Path.{◌≡◌}
use mathlib.Core.Bool.{true}
use mathlib.Core.List.{List, map, Memᴰ as Mem}
use Prim.Native.Nat.{ℕ, ◌≤◌, ◌<◌}
use borrow.Author.Tests.{ltb-true, lt-ltb, leb-true, le-leb}
use native.Mathlib.Omega.{arith}
use lib.Dec.{ltb}
use lib.ListN.{length, get_or, take, length-map, length-take}
use Rattle.lists.specs.Lists.{ascending}
use Rattle.steps.specs.Moves.{known}
use Rattle.lists.proofs.Bools.{parts, both}
use Rattle.lists.proofs.Lists.{get_d_mem, all_at, all_by}

-- 18: one to sixteen known numbers, ascending
pub record Known (count : ℕ) (ms : List ℕ) : Type 0 where
  pub some : 1 ≤ length ms
  pub few : length ms ≤ 16
  pub ascends : ascending ms ≡ true
  pub each : (m : ℕ) → Mem m ms → m < count

pub known_at : (count : ℕ) (ms : List ℕ) → known count ms ≡ true → Known count ms
unfolding known
known_at count ms h = record {
  some = leb-true 1 (length ms) (search parts);
  few = leb-true (length ms) 16 (search parts);
  ascends = search parts;
  each = λ m k. ltb-true m count (all_at (λ m. ltb m count) ms (search parts) k);
}

pub known_each : (count : ℕ) (ms : List ℕ) → known count ms ≡ true → (i : ℕ) → i < length ms → get_or ms i 0 < count
known_each count ms h i l = (known_at count ms h).each _ (get_d_mem ms i 0 l)

-- at most sixteen are asked for, and those before one of them are fewer
pub known_few : (count : ℕ) (ms : List ℕ) → known count ms ≡ true → length ms ≤ 16
known_few count ms h = (known_at count ms h).few

pub before_few : {A : Type 0} (f : ℕ → A) (count : ℕ) (ms : List ℕ) → known count ms ≡ true → (i : ℕ) → i < length ms → length (map f (take i ms)) < 16
before_few f count ms h i l = omega (arith, length-map (take i ms) f, length-take i ms, l, known_few count ms h)

pub known_by : (count : ℕ) (ms : List ℕ) → Known count ms → known count ms ≡ true
unfolding known
known_by count ms h = both (le-leb 1 (length ms) h.some) (both (le-leb (length ms) 16 h.few) (both h.ascends (all_by (λ m. ltb m count) ms (λ m k. lt-ltb m count (h.each m k)))))
