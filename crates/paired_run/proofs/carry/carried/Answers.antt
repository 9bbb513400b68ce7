use Rattle.std.proofs.Common.{ℕ, List, length, take, ap, ◌∙◌, ap₂, arith}
use lib.ListN.{length-replicate}
use Rattle.reading.specs.Answer.{Answer}
use Rattle.network_records.specs.Network.{Network}
use Rattle.network.specs.Bearing.{transitions_in}
use Rattle.network.proofs.Borne.{transitions_length}
use Rattle.paired_run.proofs.Carrying.{carried_list}
use Rattle.paired_run.proofs.carry.carried.Goals as goal

pub returns : goal.returns
returns c =
    record {
      means = λ n h few.
          let is = c.transitions_of-transitions.ensures ∙ ap (λ (d : Answer Network). transitions_in d c.args.list.now) h in
          let kept = c.tabled-count.ensures (ap length is ∙ transitions_length n _) (length-replicate {A = ℕ} 1024 0) in
          ap₂ (λ (k : ℕ) (l : List ℕ). take k l) c.min.ensures (c.first_sixteen.ensures kept.long) ∙ carried_list n _ is few kept;
      few = omega (arith, c.min.ensures);
    }
