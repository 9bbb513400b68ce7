-- A checksum byte by byte.
use mathlib.Core.Path.{◌≡◌, ap, sym}
use mathlib.Core.List.{List}
use Prim.Native.Nat.{ℕ, suc, ◌+◌, ◌≤◌, ◌<◌}
use native.Mathlib.Numerals.{add-one}
use lib.ListN.{length, get_or, drop, drop_of_length-le}
use lib.Seq.{drop-cons}
use Rattle.answers.specs.Checksum.{mixed, from}

pub from_more : (h i : ℕ) (s : List ℕ) {r : ℕ} → i < length s → r ≡ mixed h (get_or s i 0) → from h (drop i s) ≡ from r (drop (i + 1) s)
unfolding from
from_more h i s l e = rw (add-one, drop-cons s i 0 l) (ap (λ n. from n (drop (suc i) s)) (sym e))

pub from_end : (h i : ℕ) (s : List ℕ) → length s ≤ i → from h (drop i s) ≡ h
unfolding from
from_end h i s l = ap (from h) (drop_of_length-le s {i = i} l)
