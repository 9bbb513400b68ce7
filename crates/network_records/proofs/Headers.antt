-- What a header that is read says of the file.
use mathlib.Core.Path.{◌≡◌, sym, ap, ◌∙◌}
use mathlib.Core.Bool.{Bool, true, false, ◌&&◌}
use mathlib.Core.List.{List}
use Prim.Native.Nat.{ℕ, ◌+◌, ◌*◌, ◌-◌, ◌≤◌, ◌<◌, ◌^◌}
use native.Mathlib.Omega.{arith}
use borrow.Author.Tests.{leb-true, eqb-true}
use lib.Dec.{leb, eqb}
use lib.ListN.{length, get_or}
use Rattle.reading.specs.Answer.{done, refused, unless}
use Rattle.lists.proofs.Bools.{parts, and_l, and_r, both}
use Rattle.reading.proofs.Answer.{unless_at}
use Rattle.network_records.specs.Network.{headed, counts_at, in_range, counts_of}
use Rattle.network_records.specs.declared.header.Counts.{Counts}

module _ (file : List ℕ) where
  -- refused, or the counts
  pub not_headed : headed file ≡ false → refused 24 ≡ counts_of file
  unfolding counts_of unless
  not_headed h = rw h

  module _ {k : Counts} (h : headed file ≡ true) (e : k ≡ counts_at file) where
    pub counts_got : in_range k ≡ true → done k ≡ counts_of file
    unfolding counts_of unless
    counts_got r = ap done e ∙ sym (ap (λ (b : Bool). unless 24 b (done (counts_at file))) (both h (ap in_range (sym e) ∙ r)))

    pub counts_not : in_range k ≡ false → refused 24 ≡ counts_of file
    unfolding counts_of unless
    counts_not r = sym (ap (λ (b : Bool). unless 24 (b && in_range (counts_at file)) (done (counts_at file))) h ∙ ap (λ (b : Bool). unless 24 b (done (counts_at file))) (ap in_range (sym e) ∙ r))

  -- the length that is given is a number of four bytes
  pub headed_fits : headed file ≡ true → get_or file 1 0 < 256 → get_or file 2 0 < 256 → get_or file 3 0 < 256 → get_or file 4 0 < 256 → (13 ≤ length file) × (length file - 5 < 2 ^ 32)
  unfolding headed
  headed_fits h a b c d =
      let l : leb 13 (length file) ≡ true = search parts in
      let e : eqb (256 * (256 * (256 * get_or file 1 0 + get_or file 2 0) + get_or file 3 0) + get_or file 4 0) (length file - 5) ≡ true = search parts in
      (leb-true 13 (length file) l, omega (arith, eqb-true (256 * (256 * (256 * get_or file 1 0 + get_or file 2 0) + get_or file 3 0) + get_or file 4 0) (length file - 5) e))

  -- counts that are answered are those that stand in the file, and in range
  pub counts_at_lem : {k : Counts} → counts_of file ≡ done k → (headed file ≡ true) × (in_range k ≡ true) × (k ≡ counts_at file)
  unfolding counts_of
  counts_at_lem {k} h =
      let w = unless_at 24 (headed file && in_range (counts_at file)) (done (counts_at file)) h in
      let e : k ≡ counts_at file = let q = w.1 in cc in
      (and_l (headed file) (in_range (counts_at file)) w.0, ap in_range e ∙ and_r (headed file) (in_range (counts_at file)) w.0, e)
