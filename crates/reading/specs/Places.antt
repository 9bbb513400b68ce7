-- What the readers of the code answer: a place in s stands for the bytes from there on.
use Rattle.std.specs.Prelude.{ℕ, cond, List, ltb, drop, Result, Ok, Err}
use Rattle.std.specs.Borrow.{Bor}
use Rattle.reading.specs.Reading.{Read, got, fault, length_fault, range_fault}
use Rattle.reading.specs.Reading as reading
use Rattle.reading.specs.declared.field.Fault.{Fault}
use Rattle.reading.specs.declared.field.Fault.TheVariants as Fl

-- the bytes of s from a place on
unfoldable pub onward : List ℕ → ℕ → List ℕ
onward s at = drop at s

abbrev pub fault_of : Fault → reading.Fault
fault_of Fl.Length = length_fault
fault_of Fl.Range = range_fault

-- a value, and the bytes from the place after it on
abbrev pub read_of : {A : Type 0} → List ℕ → Result (A × ℕ) Fault → Read A
read_of s (Ok r) = got r.0 (onward s r.1)
read_of s (Err f) = fault (fault_of f)

-- the same of bytes that are lent
abbrev pub part_of : List ℕ → Result (Bor (List ℕ) × ℕ) Fault → Read (List ℕ)
part_of s (Ok r) = got r.0.now (onward s r.1)
part_of s (Err f) = fault (fault_of f)

-- the place after what was read
abbrev pub end_of : {A : Type 0} → Result (A × ℕ) Fault → ℕ
end_of (Ok r) = r.1
end_of (Err f) = 0

-- a value, and the place reached after it
abbrev pub reached : {A : Type 0} → List ℕ → A → Result ℕ Fault → Read A
reached s a (Ok n) = got a (onward s n)
reached s a (Err f) = fault (fault_of f)

abbrev pub reached_end : Result ℕ Fault → ℕ
reached_end (Ok n) = n
reached_end (Err f) = 0

-- the place after a record of `size` bytes that ends at `to`, where its reader has used so many of them
abbrev pub wholly : ℕ → ℕ → ℕ → Result ℕ Fault
wholly used size to = cond (ltb used size) (Err Fl.Length) (Ok to)
