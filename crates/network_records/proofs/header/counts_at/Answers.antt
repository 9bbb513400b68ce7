use mathlib.Core.Path.{ap₂, ◌∙◌}
use Prim.Native.Nat.{ℕ, ◌+◌, ◌*◌}
use Rattle.network_records.proofs.header.counts_at.Goals as goal

pub returns : goal.returns
returns c = λ j. record {
  version = c.byte_at.ensures j;
  automata = c.byte_at-2.ensures j;
  locations = c.byte_at-3.ensures j;
  edges = (c.short_of.ensures ∙ ap₂ (λ (a b : ℕ). 256 * a + b) c.byte_at-4.ensures c.byte_at-5.ensures) j;
  clocks = c.byte_at-6.ensures j;
  variables = c.byte_at-7.ensures j;
  rendezvous = c.byte_at-8.ensures j;
  broadcasts = c.byte_at-9.ensures j;
}
