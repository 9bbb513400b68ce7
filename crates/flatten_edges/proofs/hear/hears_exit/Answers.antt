use Rattle.chart_records.specs.Tree.{under}
use Rattle.flatten_edges.proofs.Hears.{unheard, heard}
use Rattle.flatten_edges.proofs.hear.hears_exit.Goals as goal

pub returns-then-not-has : goal.returns-then-not-has
returns-then-not-has c = λ d E h. unheard (under d _ _) c.has.ensures (c.if-not-has.true)

pub returns : goal.returns
returns c = λ d E h. heard c.has.ensures (c.if-not-has.false) (c.under.ensures d E h)
