-- What the operation answers, and what it leaves in the buffer lent.
use Rattle.std.specs.Prelude.{ℕ, ◌≡◌, List, ◌++◌, Result, leb, length, drop}
use Rattle.reading.specs.Answer.{Answer, done, refused, unless}
use Rattle.reading.specs.Verdict.{answer_of}
use Rattle.reading.specs.declared.refusal.Refusal.{Refusal}
use Rattle.chart_records.specs.Chart.{Chart}
use Rattle.flattening.specs.Flatten.{flatten}
use Rattle.flattening.specs.File.{network_bytes, fitted}

-- the network's length, or the number of the refusal
abbrev pub length_of : Answer (List ℕ) → Answer ℕ
length_of (done s) = done (length s)
length_of (refused k) = refused k

-- the network's bytes and then those that were there, or all as they were
abbrev pub lent_after : List ℕ → Answer (List ℕ) → List ℕ
lent_after out (done s) = s ++ drop (length s) out
lent_after out (refused k) = out

-- the network of a chart that passes, for a buffer of so many bytes
abbrev pub network_for : ℕ → Chart → Answer (List ℕ)
network_for room c = let n = flatten c in unless 15 (leb (length n.edges) 1024) (fitted room (network_bytes n))

pub record Answered (a : Answer (List ℕ)) (before : List ℕ) (r : Result ℕ Refusal) (after : List ℕ) : Type 0 where
  pub is : answer_of r ≡ length_of a
  pub bytes : after ≡ lent_after before a
