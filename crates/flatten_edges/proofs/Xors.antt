-- Laws of the exits that places are at, as bits: the flags that an edge writes, and their values.
use mathlib.Core.Path.{◌≡◌, ap, ◌∙◌}
use mathlib.Core.Bool.{xor}
use lib.Bits as Words
use Rattle.lists.specs.Lists.{bits_of}
use Rattle.lists.proofs.Bits.{xor_bits, and_bits}
use Rattle.chart_records.specs.Chart.{Chart}
use Rattle.flattening.specs.Flatten.{Place, at_exit, initial_place, place_home, flag_at, written_by, values_by}
use Rattle.flatten_places.specs.Tables.{exits_at}

module _ (c : Chart) (p r : Place) where
  pub written_bits : Words.bit_xor (exits_at c p) (exits_at c r) ≡ written_by c p r
  unfolding exits_at written_by
  written_bits = xor_bits (at_exit c p) (at_exit c r) 8

  pub values_bits : Words.bit_and (written_by c p r) (Words.bit_xor (exits_at c (initial_place c (place_home c r))) (exits_at c r)) ≡ values_by c p r
  unfolding exits_at written_by values_by flag_at
  values_bits = ap (Words.bit_and (bits_of (λ e. xor (at_exit c p e) (at_exit c r e)) 8)) (xor_bits (at_exit c (initial_place c (place_home c r))) (at_exit c r) 8)
      ∙ and_bits (λ e. xor (at_exit c p e) (at_exit c r e)) (λ e. xor (at_exit c (initial_place c (place_home c r)) e) (at_exit c r e)) 8
