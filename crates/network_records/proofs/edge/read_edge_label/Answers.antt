use mathlib.Core.Path.{◌≡◌, sym, ◌∙◌}
use mathlib.Core.Bool.{true}
use Rattle.reading.specs.Reading.{mapped}
use Rattle.reading.specs.Places.{onward}
use Rattle.reading.proofs.Places.{read_err}
use Rattle.labels.specs.Label.{label, heading}
use Rattle.network_records.specs.Network.{in_range}
use Rattle.network_records.specs.Edges.{label_in}
use Rattle.network_records.proofs.Edges.{label_kept, label_faulty}
use Rattle.network_records.proofs.edge.read_edge_label.Goals as goal
use Rattle.network_records.proofs.edge.read_edge_label.Goals.{After-read_label}

-- what is read is what the counts say
same : (c : After-read_label) → in_range c.args.counts ≡ true
    → mapped heading (label c.limits.result c.channels_of.result (onward c.args.s.now c.args.at)) ≡ mapped heading (label_in c.args.counts (onward c.args.s.now c.args.at))
same c g = λ j. mapped heading (label (c.limits.ensures j) (c.channels_of.ensures g j) (onward c.args.s.now c.args.at))

pub returns-in_err-label : goal.returns-in_err-label
returns-in_err-label c = λ g. read_err _ _ _ c.from_residual.ensures.1 (sym (label_faulty _ (c.in_err-label.ensures ∙ same (goal.at.returns-in_err-label c).After-read_label g)))

pub returns : goal.returns
returns c = λ g. label_kept _ _ c.in_ok-label.label (c.in_ok-label.ensures ∙ same (goal.at.returns c).After-read_label g)
