use mathlib.Core.Path.{sym, ap, ◌∙◌}
use Prim.Native.Nat.{ℕ}
use borrow.Author.Tests.{le-ltb}
use lib.Dec.{eqb}
use lib.ListN.{get_or}
use Rattle.network_records.specs.Network.{Location}
use Rattle.network_records.proofs.Records.{no_location, initial_byte}
use Rattle.network_records.proofs.location.is_initial.Goals as goal

pub returns-then-i-counts : goal.returns-then-i-counts
returns-then-i-counts c = λ n L. ap (λ (x : ℕ). eqb x 1) (c.byte_at.ensures ∙ ap (λ (p : ℕ). get_or c.args.rest.now p 0) c.location_place.ensures ∙ initial_byte L c.if-i-counts.true)

pub returns-else-i-counts : goal.returns-else-i-counts
returns-else-i-counts c = λ n L. le-ltb _ _ c.if-i-counts.false ∙ ap (λ (l : Location). eqb l.initial 1) (sym (no_location L c.if-i-counts.false))
