use mathlib.Core.Path.{◌≡◌, refl}
use Prim.Native.Nat.{◌<◌}
use lib.ListN.{get_or}
use Rattle.chart_records.specs.Chart.{Chart}
use Rattle.flattening.specs.Flatten.{all_places}
use Rattle.flatten_places.specs.Tables.{Chartered, Listed}
use Rattle.flatten_tables.proofs.Slots.{inverse_none, keys_of, key_at, keys_more, keys_all}
use native.Mathlib.Omega.{arith}
use Rattle.flatten_tables.proofs.number.numbers_of.Goals as goal
use Rattle.flatten_tables.proofs.number.numbers_of.Goals.{then-at-lt1024, else-at-lt1024}

pub loop-i-init : goal.loop-i-init
loop-i-init c = λ k h L. inverse_none 1024 _ _ refl

pub loop-i-preserved : goal.loop-i-preserved
loop-i-preserved c =
    let key : (k : Chart) (h : Chartered k) (L : Listed k (all_places k) c.args.places)
    → (c.slot-at.result ≡ get_or (keys_of k) c.loop-i.i 0) × (c.slot-at.result < 1024) =
    λ k h L. key_at k h _ L _ c.loop-i-test.true _ _ _ _ c.byte_at-kind.ensures c.byte_at-value.ensures
    c.byte_at-mark.ensures c.slot-at.ensures in
    elim c.if-at-lt1024.branch [
      | then-at-lt1024 w ↦
          rw w.numbers-is (λ k h L. keys_more k h _ L _ c.loop-i-test.true _ _ (c.loop-i.invariant k h L) (key k h L).0 (key k h L).1)
      | else-at-lt1024 w ↦ rw w.numbers-is (λ k h L. absurd (omega (arith, w.if-at-lt1024.false, (key k h L).1)))
    ]

pub returns : goal.returns
returns c = λ k h L. keys_all k h _ L _ _ c.loop-i-test.false (c.loop-i.invariant k h L)
