use mathlib.Core.Path.{sym, ap, ◌∙◌}
use mathlib.Core.List.{List}
use Prim.Native.Nat.{ℕ}
use borrow.Author.Tests.{le-leb}
use Rattle.clocks.specs.Clocks.{keeps}
use Rattle.network_records.specs.Network.{Location}
use Rattle.network_records.proofs.Records.{no_location}
use Rattle.network_records.proofs.location.keeps_bounds.Goals as goal

pub returns-then-i-counts : goal.returns-then-i-counts
unfolding keeps
returns-then-i-counts c = λ n L. le-leb _ _ c.if-i-counts.true ∙ ap (λ (l : Location). keeps l.bounds c.args.clocks) (sym (no_location L c.if-i-counts.true))

pub returns-else-i-counts : goal.returns-else-i-counts
returns-else-i-counts c = λ n L. c.keeps.ensures ∙ ap (λ (b : List ℕ). keeps b c.args.clocks) (c.bounds_of.ensures n L c.if-i-counts.false)
