use Rattle.flatten_places.proofs.Underneath.{exits_below}
use Rattle.flatten_places.proofs.Chartered.{parents_of}
use Rattle.chart_tree.proofs.Tables.{rooted_of}
use Rattle.flatten_places.proofs.below.marked_below.Goals as goal

pub returns : goal.returns
returns c = λ d K T. exits_below K T c.gathered.result (c.gathered.ensures d (rooted_of d _ T (parents_of K)) T.count)
