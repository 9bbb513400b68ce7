use Rattle.chart_records.specs.Tree.{entered}
use Rattle.flatten_edges.proofs.Hears.{unheard, heard}
use Rattle.flatten_edges.proofs.hear.hears_entry.Goals as goal

pub returns-then-not-has : goal.returns-then-not-has
returns-then-not-has c = λ d E h l. unheard (entered d _ _ _) c.has.ensures (c.if-not-has.true)

pub returns : goal.returns
returns c = λ d E h l. heard c.has.ensures (c.if-not-has.false) (c.enters.ensures d E h l)
