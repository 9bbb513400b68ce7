use Rattle.std.proofs.Common.{sym, ◌∙◌}
use Rattle.chart_moves.specs.Machine.{wait_of}
use Rattle.library.specs.Flags.{wait_lent}
use Rattle.library.proofs.Lending.{lent_flags, lent_no_flags}
use Rattle.library.proofs.charts.figrummy_wait_chart.Goals as goal

pub returns-then-not-are_flags : goal.returns-then-not-are_flags
unfolding wait_lent
returns-then-not-are_flags c =
    let q = lent_no_flags _ _ (λ σ. wait_of c.args.file.now σ c.args.ticks) (sym c.are_flags.ensures ∙ c.if-not-are_flags.true) c.no_flags.ensures in
    record { number = q.0; after = q.1 }

pub returns : goal.returns
unfolding wait_lent
returns c =
    let q = lent_flags _ _ (λ σ. wait_of c.args.file.now σ c.args.ticks) (sym c.are_flags.ensures ∙ c.if-not-are_flags.false) c.flags_of.ensures (c.store.ensures _ c.wait.ensures) in
    record { number = q.0; after = q.1 }
