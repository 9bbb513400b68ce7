use Rattle.std.proofs.Common.{sym, refl, append-nil}
use Rattle.paired_run.proofs.run.refused.Goals as goal

pub returns : goal.returns
returns c = λ x S. record { stands = S; reads = sym (append-nil x.reading); accepted = refl; verdict = refl }
