-- The flags of an automaton after an edge: those of the place that it leads to.
use mathlib.Core.Path.{◌≡◌, refl}
use mathlib.Core.Bool.{Bool, true, false, cond, ◌&&◌, xor}
use Prim.Native.Nat.{ℕ, ◌<◌}
use Rattle.lists.specs.Lists.{has, bits_of}
use Rattle.lists.proofs.Bits.{has_bits_of, bits_same}
use Rattle.chart_records.specs.Chart.{Chart}
use Rattle.network_moves.specs.Machine.{overwrite}
use Rattle.flattening.specs.Flatten.{Place, place_home, at_exit, initial_place, flag_at, written_by, values_by}

-- an edge writes exactly the flags in which its ends differ
module _ (c : Chart) (q : ℕ) (p r : Place) (home_is : place_home c r ≡ q) where
  differs : (a b d : Bool) → cond (xor a b) (xor a b && xor d b) (xor d a) ≡ xor d b
  unfolding xor
  differs true true d = refl
  differs true false d = refl
  differs false true d = refl
  differs false false d = refl

  stays : (a b d : Bool) → cond (xor a b) (xor a b && xor d b) (xor d b) ≡ xor d b
  unfolding xor
  stays true true d = refl
  stays true false d = refl
  stays false true d = refl
  stays false false d = refl

  overwritten : (x : ℕ) → ((i : ℕ) → i < 8 → cond (has (written_by c p r) i) (has (values_by c p r) i) (has x i) ≡ flag_at c q r i) → overwrite x (written_by c p r) (values_by c p r) ≡ bits_of (flag_at c q r) 8
  unfolding overwrite
  overwritten x f = bits_same _ _ 8 f

  pub write_flags : overwrite (bits_of (flag_at c q p) 8) (written_by c p r) (values_by c p r) ≡ bits_of (flag_at c q r) 8
  unfolding written_by values_by flag_at
  write_flags = overwritten _ (λ i l. rw (has_bits_of _ 8 i l, has_bits_of _ 8 i l, has_bits_of _ 8 i l, home_is) (differs (at_exit c p i) (at_exit c r i) (at_exit c (initial_place c q) i)))

  pub write_again : overwrite (bits_of (flag_at c q r) 8) (written_by c p r) (values_by c p r) ≡ bits_of (flag_at c q r) 8
  unfolding written_by values_by flag_at
  write_again = overwritten _ (λ i l. rw (has_bits_of _ 8 i l, has_bits_of _ 8 i l, has_bits_of _ 8 i l, home_is) (stays (at_exit c p i) (at_exit c r i) (at_exit c (initial_place c q) i)))
