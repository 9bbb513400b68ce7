use borrow.Author.Tests.{le-leb, lt-leb}
use mathlib.Core.Path.{sym, ◌∙◌}
use Rattle.chart_records.specs.Chart.{headed}
use Rattle.chart_records.proofs.header.is_headed.Goals as goal

pub returns-then-file-lt11 : goal.returns-then-file-lt11
unfolding headed
returns-then-file-lt11 c = rw (lt-leb 11 _ c.if-file-lt11.true)

pub returns-then-file-gt65536 : goal.returns-then-file-gt65536
unfolding headed
returns-then-file-gt65536 c = rw (le-leb 11 _ c.if-file-lt11.false, lt-leb _ 65536 c.if-file-gt65536.true)

pub returns-then-not-is_version : goal.returns-then-not-is_version
unfolding headed
returns-then-not-is_version c =
    rw (
      le-leb 11 _ c.if-file-lt11.false,
      le-leb _ 65536 c.if-file-gt65536.false,
      sym c.is_version.ensures ∙ c.if-not-is_version.true,
    )

pub returns : goal.returns
unfolding headed
returns c =
    rw (
      le-leb 11 _ c.if-file-lt11.false,
      le-leb _ 65536 c.if-file-gt65536.false,
      sym c.is_version.ensures ∙ c.if-not-is_version.false,
      c.short_of-size.ensures,
    )
