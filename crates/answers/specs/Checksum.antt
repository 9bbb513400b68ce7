-- FNV-1a with 32 bits, over a list of bytes.
use Rattle.std.specs.Prelude.{ℕ, ◌*◌, ◌%◌, ◌^◌, List, [], ◌∷◌}
use Rattle.std.specs.Int.Bits.{bit_xor}

abbrev pub mixed : ℕ → ℕ → ℕ
mixed h b = bit_xor h b * 16777619 % 2 ^ 32

unfoldable pub from : ℕ → List ℕ → ℕ
from h [] = h
from h (b ∷ s) = from (mixed h b) s

abbrev pub checksum : List ℕ → ℕ
checksum s = from 2166136261 s
