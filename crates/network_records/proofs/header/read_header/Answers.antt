use mathlib.Core.Path.{sym, ◌∙◌}
use native.Mathlib.Omega.{arith}
use Rattle.network_records.proofs.Headers.{not_headed, counts_got, counts_not, headed_fits}
use Rattle.network_records.proofs.header.read_header.Goals as goal

pub returns-then-not-headed : goal.returns-then-not-headed
returns-then-not-headed c = record { means = not_headed _ (sym c.headed.ensures ∙ c.if-not-headed.true); within = tt }

pub returns-then-in_range : goal.returns-then-in_range
returns-then-in_range c = let h = sym c.headed.ensures ∙ c.if-not-headed.false in
    record { means = counts_got _ h c.counts_at-counts.ensures (sym c.in_range.ensures ∙ c.if-in_range.true); within = headed_fits _ h (omega (arith, c.type_inv.file 1)) (omega (arith, c.type_inv.file 2)) (omega (arith, c.type_inv.file 3)) (omega (arith, c.type_inv.file 4)) }

pub returns-else-in_range : goal.returns-else-in_range
returns-else-in_range c = let h = sym c.headed.ensures ∙ c.if-not-headed.false in
    record { means = counts_not _ h c.counts_at-counts.ensures (sym c.in_range.ensures ∙ c.if-in_range.false); within = tt }
