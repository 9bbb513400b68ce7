-- Rows of bounds: what it says that clocks keep a row, that resets break none, and the row that is read.
use mathlib.Core.Path.{◌≡◌, refl, ap, ◌∙◌}
use mathlib.Core.Bool.{Bool, true, false, cond}
use mathlib.Core.List.Memᴰ.{head as here}
use mathlib.Core.List.Memᴰ.{tail as there}
use mathlib.Core.List.{List, [], ◌∷◌, Memᴰ as Mem}
use Prim.Native.Nat.{ℕ, zero, suc, ◌+◌, ◌-◌, ◌≤◌, min, ◌*◌}
use native.Mathlib.Omega.{arith}
use native.Mathlib.Decide.{dec_lt}
use native.Mathlib.Nat.{min-eq_left}
use borrow.Author.Tests.{leb-true, le-leb, eqb-true}
use lib.Dec.{leb, eqb}
use lib.IntN.{pos}
use lib.ListN.{length, get_or, drop, replicate, length-drop}
use lib.Seq.{get_or-drop}
use Rattle.lists.specs.Lists.{has, padded, all}
use Rattle.reading.specs.Reading.{Fault, got, fault, Reader, yield, byte4, such, many, skipped}
use Rattle.clocks.specs.Clocks.{is_bound, clock_limit, no_bound, free, join, keeps, row, reset_from, reset, in_limit, zero_past, later, zeros_past, is_zero}
use Rattle.lists.proofs.Bools.{both}
use Rattle.lists.proofs.Lists.{all_at, get_d_mem, mem_get_d, all_past, zeros_at}
use Rattle.lists.proofs.Below.{all_below, below_all}
use Rattle.clocks.proofs.Ticks.{kept_is}
use Rattle.clocks.proofs.Clocks.{length_join}
use Rattle.reading.proofs.Places.{bind_got, bind_fault}
use Rattle.reading.specs.Places.{onward}
use Rattle.reading.proofs.InFront.{InFront, yield_front, bind_front, such_front, many_front, byte4_front}
use Rattle.reading.proofs.Sizes.{Takes, yield_takes, bind_takes, byte4_takes, such_takes, many_takes}
use Rattle.reading.proofs.Reading.{mapped_yield}

-- clocks as they are kept, in 32 bits: each is at most what stands for no bound
abbrev pub ClockValues : List ℕ → Type 0
ClockValues cs = (x : ℕ) → Mem x cs → x ≤ no_bound

-- a row has a bound for each of eight clocks
abbrev pub IsRow : List ℕ → Type 0
IsRow r = length r ≡ 8

pub free_row : IsRow free
free_row = refl

pub join_row : (a b : List ℕ) → IsRow a → IsRow b → IsRow (join a b)
join_row a b h k = omega (arith, length_join a b)

-- no bounds are kept
keeps_unbounded : (n : ℕ) (cs : List ℕ) → ClockValues cs → keeps (replicate n no_bound) cs ≡ true
unfolding keeps
keeps_unbounded zero cs v = refl
keeps_unbounded (suc n) [] v = refl
keeps_unbounded (suc n) (c ∷ cs) v = both (kept_is no_bound c ∙ le-leb c no_bound (v c (here refl))) (keeps_unbounded n cs (λ x m. v x (there m)))

pub keeps_free : (cs : List ℕ) → ClockValues cs → keeps free cs ≡ true
keeps_free cs v = keeps_unbounded 8 cs v

-- the resets of a step keep clocks in range, and break no bound
module _ (m : ℕ) where
  reset_le : (i c : ℕ) → cond (has m i) 0 c ≤ c
  reset_le i c = go (has m i)
    where
      go : (b : Bool) → cond b 0 c ≤ c
      go true = omega arith
      go false = omega arith

  values_reset_from : (i : ℕ) (cs : List ℕ) → ClockValues cs → ClockValues (reset_from m i cs)
  unfolding reset_from
  values_reset_from i (c ∷ cs) v x (here e) = omega (arith, reset_le i c, v c (here refl))
  values_reset_from i (c ∷ cs) v x (there n) = values_reset_from (suc i) cs (λ y k. v y (there k)) x n
  values_reset_from i [] v x m = elim m [ ]

  pub values_reset : (cs : List ℕ) → ClockValues cs → ClockValues (reset m cs)
  unfolding reset
  values_reset cs v = values_reset_from 0 cs v

-- clocks within the limit, and 0 where none is declared
pub values_in_limit : (n : ℕ) (cs : List ℕ) → in_limit n cs ≡ true → zero_past n cs ≡ true → ClockValues cs
unfolding in_limit zero_past
values_in_limit n cs h z x m = let r = mem_get_d 0 m in elim (dec_lt r.0 n) [
  | yes l ↦ omega (arith, r.2, leb-true (get_or cs r.0 0) clock_limit (all_below (λ i. leb (get_or cs i 0) clock_limit) n h r.0 l))
  | no l ↦
      let i = r.0 - n in
      let k = all_at (λ x. eqb x 0) (drop n cs) z (get_d_mem (drop n cs) i 0 (omega (arith, length-drop n cs, r.1))) in
      omega (arith, r.2, ap (λ (j : ℕ). get_or cs j 0) (let e : n + i ≡ r.0 = omega arith in e), get_or-drop n cs i 0, eqb-true (get_or (drop n cs) i 0) 0 k)
]

-- what is later leaves the undeclared clocks as they are
drop_later : (n d : ℕ) (cs : List ℕ) → drop n (later n d cs) ≡ drop n cs
unfolding later
drop_later zero d cs = refl
drop_later (suc n) d [] = refl
drop_later (suc n) d (c ∷ cs) = drop_later n d cs

pub zero_past_later : (n d : ℕ) (cs : List ℕ) → zero_past n (later n d cs) ≡ zero_past n cs
unfolding zero_past
zero_past_later n d cs = ap (all (λ x. eqb x 0)) (drop_later n d cs)

-- clocks at 0 keep every bound
pub keeps_zeros : (b : List ℕ) (n : ℕ) → keeps b (replicate n 0) ≡ true
unfolding keeps
keeps_zeros [] n = refl
keeps_zeros (b ∷ bs) zero = refl
keeps_zeros (b ∷ bs) (suc n) = both (kept_is b 0 ∙ le-leb 0 b (omega arith)) (keeps_zeros bs n)

pub values_zeros : (n : ℕ) → ClockValues (replicate n 0)
values_zeros (suc n) x (here e) = omega arith
values_zeros (suc n) x (there m) = values_zeros n x m
values_zeros zero x m = elim m [ ]

-- and they are within the limit, and 0 past any number of them
pub in_limit_zeros : (n m : ℕ) → in_limit n (replicate m 0) ≡ true
unfolding in_limit
in_limit_zeros n m = below_all _ n (λ i l. le-leb (get_or (replicate m 0) i 0) clock_limit (omega (arith, zeros_at m i)))

pub zero_past_zeros : (n m : ℕ) → zero_past n (replicate m 0) ≡ true
unfolding zero_past
zero_past_zeros = all_past (λ x. eqb x 0) 0 refl

-- as are variables
pub zeros_past_zeros : (n m : ℕ) → zeros_past n (replicate m (pos 0)) ≡ true
unfolding zeros_past is_zero
zeros_past_zeros = all_past is_zero (pos 0) refl

-- the row that is read
abbrev pub bounds : ℕ → Reader (List ℕ)
bounds n = many n (such byte4 is_bound)

pub row_got : (n : ℕ) (s : List ℕ) (bs t : List ℕ) → bounds n s ≡ got bs t → length bs ≡ n → row n s ≡ got (padded 8 no_bound bs) t
unfolding row padded yield
row_got n s bs t h e = bind_got _ _ s h ∙ rw e

pub row_fault : (n : ℕ) (s : List ℕ) {f : Fault} → bounds n s ≡ fault f → row n s ≡ fault f
unfolding row
row_fault n s h = bind_fault _ _ s h

-- of at most eight clocks none is left out
pub row_few : (n : ℕ) (s : List ℕ) → n ≤ 8 → row (min n 8) s ≡ row n s
row_few n s h = ap (λ (k : ℕ). row k s) (min-eq_left h)

pub row_takes : (n : ℕ) → Takes (row n) (4 * n)
unfolding row
row_takes n s r t h =
    bind_takes (bounds n) _ (n * 4) 0 (many_takes _ 4 (such_takes byte4 is_bound 4 byte4_takes) n) (λ bs. yield_takes _) s r
    t h
    ∙ ap (onward s) (let z : n * 4 + 0 ≡ 4 * n = omega arith in z)

pub row_front : (n : ℕ) → InFront (row n)
unfolding row
row_front n = bind_front (bounds n) _ (many_front n _ (such_front byte4 is_bound byte4_front)) (λ bs. yield_front _)

-- a row of which only the end is looked at
pub skipped_row : (n : ℕ) (s : List ℕ) → skipped (row n s) ≡ skipped (bounds n s)
unfolding row skipped
skipped_row n s = mapped_yield _ _ (bounds n) s
