-- What the code's reader of labels answers.
use Rattle.std.specs.Prelude.{ℕ, List, Result, Ok, Err}
use Rattle.reading.specs.Reading.{Read, got, fault}
use Rattle.labels.specs.Label.{Heading}
use Rattle.reading.specs.Places.{onward, fault_of}
use Rattle.reading.specs.declared.field.Fault.{Fault}
use Rattle.labels.specs.declared.label.Label as code

-- the place of a body stands for its bytes
abbrev pub heading_of : List ℕ → code.Label → Heading
heading_of s l = record { signal = l.signal; channel = l.channel; resets = l.resets; once = l.once; bytes = onward s l.body }

abbrev pub label_of : List ℕ → Result (code.Label × ℕ) Fault → Read Heading
label_of s (Ok r) = got (heading_of s r.0) (onward s r.1)
label_of s (Err f) = fault (fault_of f)
