-- Laws of the charts of files that pass the check.
use mathlib.Core.Path.{◌≡◌, subst}
use mathlib.Core.Bool.{true}
use Rattle.reading.proofs.Answer.{then_at, unless_at}
use Rattle.chart_records.specs.Chart.{Chart, read_chart}
use Rattle.chart_records.specs.Rules.{parents, state_rules, keeps_rules, chart_of}
use Rattle.chart_records.proofs.Rules.{passed_at, Passed}
use Rattle.chart_records.proofs.Ranges.{Ranges, chart_at_lem}
use Rattle.flatten_places.specs.Tables.{Chartered}

pub passed_of : {c : Chart} → Chartered c → Passed c
passed_of k = (chart_at_lem k.0 k.1).0

pub ranges_of : {c : Chart} → Chartered c → Ranges c
ranges_of k = (chart_at_lem k.0 k.1).1

-- rule 5
pub parents_of : {c : Chart} → Chartered c → parents c ≡ true
unfolding chart_of keeps_rules state_rules
parents_of {c} k =
    let r = then_at (read_chart k.0) keeps_rules k.1 in
    let s = then_at (state_rules r.0) _ r.2 in
    subst (λ (d : Chart). parents d ≡ true) (passed_at r.0 r.2).1 (unless_at 5 _ _ s.1).0
