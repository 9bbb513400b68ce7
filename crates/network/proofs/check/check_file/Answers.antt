use mathlib.Core.Path.{◌≡◌, sym, ap, ◌∙◌, subst}
use Rattle.reading.specs.Answer.{done, refused}
use Rattle.reading.specs.Verdict.{number}
use Rattle.reading.specs.declared.refusal.Refusal.{Refusal}
use Rattle.reading.proofs.Places.{answered}
use Rattle.network_records.specs.Network.{counts_of}
use Rattle.network_records.specs.Headers.{header_of, HeaderFits}
use Rattle.network_records.proofs.Headers.{counts_at_lem}
use Rattle.network.proofs.Checking.{some_of, none_of, refused_as, header_refused, checked_file, rest_fits}
use Rattle.network.proofs.check.check_file.Goals as goal
use Rattle.network.proofs.check.check_file.Goals.{In_ok-counts}

counted : (c : In_ok-counts) → counts_of c.args.file.now ≡ done c.in_ok-counts.counts
counted c = answered header_of c.read_header.ensures.means (some_of _ _ _ c.in_ok-counts.ensures.value)

pub returns-in_err-counts-clause-means : goal.returns-in_err-counts-clause-means
returns-in_err-counts-clause-means c = let w = none_of _ _ _ c.in_err-counts.ensures.value in
    λ f. refused_as _ _ _ _ c.from_residual.ensures.1
    (header_refused _ (answered header_of c.read_header.ensures.means w.0) ∙ ap (λ (r : Refusal). refused (number r)) (sym w.1))

pub check_rest-requires : goal.check_rest-requires
check_rest-requires c = let k = (goal.at.check_rest-requires c).In_ok-counts in
    ((counts_at_lem _ (counted k)).1, rest_fits c.args.file.now (subst (HeaderFits c.args.file.now) (some_of _ _ _ c.in_ok-counts.ensures.value) c.read_header.ensures.within))

pub returns-clause-means : goal.returns-clause-means
returns-clause-means c = λ f. checked_file _ (counted (goal.at.returns-clause-means c).In_ok-counts) _ c.check_rest.result (c.check_rest.ensures f)
