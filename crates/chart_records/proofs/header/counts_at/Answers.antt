use Rattle.chart_records.specs.Chart.{counts_at}
use Rattle.chart_records.proofs.header.counts_at.Goals as goal

pub returns : goal.returns
unfolding counts_at
returns c =
    rw (
      c.byte_at.ensures,
      c.byte_at-2.ensures,
      c.byte_at-3.ensures,
      c.byte_at-4.ensures,
      c.byte_at-5.ensures,
      c.byte_at-6.ensures,
      c.byte_at-7.ensures,
      c.byte_at-8.ensures,
      c.byte_at-9.ensures,
    )
