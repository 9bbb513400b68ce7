use mathlib.Core.Path.{◌≡◌, sym, ap, ◌∙◌}
use Rattle.lists.specs.Lists.{all}
use Rattle.reading.specs.Reading.{got, skipped, mapped}
use Rattle.reading.specs.Places.{onward, reached, read_of}
use Rattle.reading.specs.Answer.{refused}
use Rattle.reading.specs.declared.refusal.Refusal.{Refusal}
use Rattle.reading.proofs.Places.{answered}
use Rattle.network_records.specs.Edges.{keeps_once}
use Rattle.network.proofs.Checking.{Locations, EdgesFrom, mapped_ok, mapped_err, refused_as, locations_fault, edges_fault, rest_fault, rules_broken, rules_kept}
use Rattle.network.proofs.check.check_rest.Goals as goal
use Rattle.network.proofs.check.check_rest.Goals.{In_ok-at, In_ok-once}

-- the locations are read, and the edges
ls : (c : In_ok-at) → skipped (Locations c.args.counts c.args.rest.now) ≡ got tt (onward c.args.rest.now c.in_ok-at.at)
ls c = answered (reached _ tt) c.read_locations.ensures (mapped_ok Refusal _ _ c.in_ok-at.ensures.cases)

es : (c : In_ok-once) → mapped (all keeps_once) (EdgesFrom c.args.counts c.args.rest.now c.in_ok-at.at) ≡ got c.in_ok-once.once (onward c.args.rest.now c.in_ok-once.to)
es c = answered (read_of _) c.read_edges.ensures.means (mapped_ok Refusal _ _ c.in_ok-once.ensures.cases)

pub returns-in_err-at : goal.returns-in_err-at
returns-in_err-at c = let w = mapped_err Refusal _ _ _ c.in_err-at.ensures.cases in
    λ f. refused_as _ _ _ _ c.from_residual.ensures.1
    (locations_fault c.args.counts c.args.rest.now w.0 (answered (reached _ tt) c.read_locations.ensures w.1) ∙ ap refused (sym w.2))

pub returns-in_err-once : goal.returns-in_err-once
returns-in_err-once c = let w = mapped_err Refusal _ _ _ c.in_err-once.ensures.cases in
    λ f. refused_as _ _ _ _ c.from_residual-in_err-once.ensures.1
    (edges_fault c.args.counts c.args.rest.now _ (ls (goal.at.returns-in_err-once c).In_ok-at) w.0 (answered (read_of _) c.read_edges.ensures.means w.1) ∙ ap refused (sym w.2))

pub returns-then-to-rest : goal.returns-then-to-rest
returns-then-to-rest c = let k = goal.at.returns-then-to-rest c in
    λ f. rest_fault c.args.counts c.args.rest.now _ (ls k.In_ok-at) _ _ (es k.In_ok-once) c.if-to-rest.true

pub returns-then-not-keeps_rules : goal.returns-then-not-keeps_rules
returns-then-not-keeps_rules c = let k = goal.at.returns-then-not-keeps_rules c in
    λ f. rules_broken c.args.counts c.args.rest.now _ (ls k.In_ok-at) _ _ (es k.In_ok-once) c.if-to-rest.false c.requires.0 _
    (c.read_edges.ensures.placed f) _ c.keeps_rules.ensures c.if-not-keeps_rules.true

pub returns : goal.returns
returns c = let k = goal.at.returns c in
    λ f. rules_kept c.args.counts c.args.rest.now _ (ls k.In_ok-at) _ _ (es k.In_ok-once) c.if-to-rest.false c.requires.0 _
    (c.read_edges.ensures.placed f) _ c.keeps_rules.ensures c.if-not-keeps_rules.false
