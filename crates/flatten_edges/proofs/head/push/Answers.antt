use mathlib.Core.Path.{◌∙◌}
use native.Mathlib.Omega.{arith}
use Rattle.flatten_edges.proofs.Gathers.{adds_one, adds_full}
use Rattle.flatten_edges.proofs.head.push.Goals as goal

pub returns-then-count-ge1024 : goal.returns-then-count-ge1024
returns-then-count-ge1024 c = λ e h. adds_full _ _ e c.if-count-ge1024.true

pub returns : goal.returns
returns c = λ e h. adds_one _ _ _ _ _ e (c.copy_from_slice.ensures.after ∙ c.bytes_of.ensures) c.if-count-ge1024.false (omega arith) h
