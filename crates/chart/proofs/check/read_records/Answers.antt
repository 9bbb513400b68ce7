use mathlib.Core.Path.{sym}
use Rattle.reading.specs.Reading.{mapped}
use Rattle.reading.proofs.Reading.{mapped_fault}
use Rattle.chart.proofs.Files.{mapped_err, records_unstated, records_unread, records_longer, records_whole, records_laid}
use Rattle.chart.proofs.check.read_records.Goals as goal

pub returns-in_err-at-clause-read : goal.returns-in_err-at-clause-read
returns-in_err-at-clause-read c = mapped_err _ _ _ _ c.from_residual.ensures.1
    (mapped_fault _ (records_unstated _ _ (sym c.in_err-at.ensures)))

pub returns-in_err-transitions-clause-read : goal.returns-in_err-transitions-clause-read
unfolding mapped
returns-in_err-transitions-clause-read c = mapped_err _ _ _ _ c.from_residual-in_err-transitions.ensures.1
    (mapped_fault _ (records_unread _ _ _ (sym c.in_ok-at.ensures) (sym c.in_err-transitions.ensures.read)))

pub returns-then-to-rest-clause-read : goal.returns-then-to-rest-clause-read
unfolding mapped
returns-then-to-rest-clause-read c = sym (mapped_fault _ (records_longer _ _ _ (sym c.in_ok-at.ensures) _ (sym c.in_ok-transitions.ensures.read) c.if-to-rest.true))

pub returns : goal.returns
unfolding mapped
returns c = let h = sym c.in_ok-at.ensures in record {
  read = sym (records_whole _ _ _ h _ (sym c.in_ok-transitions.ensures.read) c.if-to-rest.false);
  laid = λ k u l r. records_laid _ _ _ h c.requires _ (λ ts v e. c.in_ok-transitions.ensures.placed ts v l e) r;
}
