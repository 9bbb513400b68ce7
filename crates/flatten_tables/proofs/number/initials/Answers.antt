use mathlib.Core.Path.{refl, sym, ap, ◌∙◌, subst}
use Prim.Native.Nat.{ℕ}
use Rattle.flattening.specs.Flatten.{number, initial_place}
use Rattle.flattening.proofs.Automata.{Region, region_at_lem}
use Rattle.lists.proofs.Loops.{filled_among_none, filled_among_more}
use Rattle.flatten_places.proofs.Placing.{state_column}
use Rattle.flatten_tables.proofs.Slots.{rules_of}
use native.Mathlib.Omega.{arith}
use Rattle.flatten_tables.proofs.number.initials.Goals as goal

pub loop-a-init : goal.loop-a-init
loop-a-init c = λ k h T A N e. filled_among_none _ _ _ _ refl

pub loop-a-preserved : goal.loop-a-preserved
loop-a-preserved c =
    λ k h T A N e. filled_among_more (c.loop-a.invariant k h T A N e) c.loop-a-test.true (λ j.
    let g = subst (Region k) (sym (state_column A _ j)) (region_at_lem k _ j) in
    c.initial_number.ensures k h T N g.is_sequential g.known e ∙ ap (λ (q : ℕ). number k (initial_place k q)) (state_column A _ j))

pub returns : goal.returns
returns c = λ k h T A N a j.
    let r = rules_of h in
    (c.loop-a.invariant k h T A N (c.start_active-active.ensures k T r.0 r.1)).filled a (omega (arith, j, A.few, c.loop-a-test.false)) j
