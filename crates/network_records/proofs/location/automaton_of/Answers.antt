use mathlib.Core.Path.{sym, ap, ◌∙◌}
use Prim.Native.Nat.{ℕ}
use lib.ListN.{get_or}
use Rattle.network_records.specs.Network.{Location}
use Rattle.network_records.proofs.Records.{no_location, automaton_byte}
use Rattle.network_records.proofs.location.automaton_of.Goals as goal

pub returns-then-i-counts : goal.returns-then-i-counts
returns-then-i-counts c = λ n L. c.byte_at.ensures ∙ ap (λ (p : ℕ). get_or c.args.rest.now p 0) c.location_place.ensures ∙ automaton_byte L c.if-i-counts.true

pub returns-else-i-counts : goal.returns-else-i-counts
returns-else-i-counts c = λ n L. ap (λ (l : Location). l.automaton) (sym (no_location L c.if-i-counts.false))
