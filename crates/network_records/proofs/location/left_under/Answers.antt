use mathlib.Core.Path.{sym, ap, ap₂, ◌∙◌}
use mathlib.Core.List.{List}
use Prim.Native.Nat.{ℕ}
use Rattle.clocks.specs.Clocks.{left_where, keeps, row_left}
use Rattle.std.specs.Prelude.{Some}
use Rattle.clocks.proofs.Ticks.{row_left_none}
use Rattle.network_records.specs.Network.{Location}
use Rattle.network_records.proofs.Records.{no_location}
use Rattle.network_records.proofs.location.left_under.Goals as goal

pub returns-then-i-counts : goal.returns-then-i-counts
returns-then-i-counts c = λ n L. c.under_row.ensures
    ∙ ap₂ (λ (k : ℕ) (b : List ℕ). left_where (keeps b c.args.clocks) (row_left k b c.args.clocks c.args.ticks)) (sym L.clocks)
    (c.bounds_of-bounds.ensures n L c.if-i-counts.true)

pub returns-else-i-counts : goal.returns-else-i-counts
unfolding keeps
returns-else-i-counts c = λ n L. sym (ap (λ (l : Location). left_where (keeps l.bounds c.args.clocks) (row_left n.clocks l.bounds c.args.clocks c.args.ticks)) (no_location L c.if-i-counts.false)
    ∙ ap Some (row_left_none _ _ _))
