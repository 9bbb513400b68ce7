-- Laws of clocks and bounds, by index.
use mathlib.Core.Path.{◌≡◌, refl, sym, ap, ◌∙◌, ap₂}
use mathlib.Core.Bool.{Bool, true, false, cond, ◌&&◌}
use mathlib.Core.List.{List, [], ◌∷◌, zip_with}
use Prim.Native.Nat.{ℕ, zero, suc, ◌+◌, ◌≤◌, ◌<◌, min}
use native.Mathlib.Omega.{arith}
use native.Mathlib.Numerals.{add-one}
use native.Mathlib.Nat.{zero-min, min-zero, suc-min-suc, min_comm, min-le_left, min-le_right, le-min}
use native.Mathlib.Decide.{dec_lt}
use borrow.Author.Tests.{leb-true, le-leb, ne_eqb}
use lib.Dec.{leb, eqb}
use lib.ListN.{length, get_or, set, get_or-eq_default}
use lib.Seq.{ext_get_or}
use Rattle.lists.specs.Lists.{has}
use Rattle.clocks.specs.Clocks.{clock_limit, join, join_tables, ticks_left, is_kept, keeps, reset_from, reset, later, in_limit, is_zero}
use Rattle.lists.proofs.Bools.{fails, and_l, and_r, both, same, cond_no}
use Rattle.lists.proofs.Lists.{length_zip_with, get_d_zip_with}
use Rattle.lists.proofs.Below.{all_below, below_all}
use mir.Syntax.{w32}
use mir.Val.{of_z, SFits}
use lib.IntN.{ℤ, pos, negsuc}
use Rattle.lists.proofs.Bits.{has_zero}
use Rattle.clocks.proofs.Ticks.{kept_is}

-- join
pub length_join : (a b : List ℕ) → length (join a b) ≡ min (length a) (length b)
unfolding join
length_join a b = length_zip_with min a b

pub get_d_join : (a b : List ℕ) (i : ℕ) → get_or (join a b) i 0 ≡ min (get_or a i 0) (get_or b i 0)
unfolding join
get_d_join a b i = get_d_zip_with min 0 0 0 zero-min min-zero a b i

pub join_comm : (a b : List ℕ) → join a b ≡ join b a
join_comm a b =
    ext_get_or 0 (join a b) (join b a) (length_join a b ∙ min_comm (length a) (length b) ∙ sym (length_join b a))
    (λ i h. get_d_join a b i ∙ min_comm (get_or a i 0) (get_or b i 0) ∙ sym (get_d_join b a i))

-- tables of rows
pub length_join_tables : (a b : List (List ℕ)) → length (join_tables a b) ≡ min (length a) (length b)
unfolding join_tables
length_join_tables a b = length_zip_with join a b

nil_join : (b : List ℕ) → join [] b ≡ []
unfolding join zip_with
nil_join b = refl

pub get_d_join_tables : (a b : List (List ℕ)) (i : ℕ) → get_or (join_tables a b) i [] ≡ join (get_or a i []) (get_or b i [])
unfolding join_tables
get_d_join_tables a b i = get_d_zip_with join [] [] [] nil_join (λ x. join_comm x [] ∙ nil_join x) a b i

-- keeps: each clock that has a bound
pub keeps_at : (bs cs : List ℕ) → keeps bs cs ≡ true → (i : ℕ) → i < length bs → get_or cs i 0 ≤ get_or bs i 0
unfolding keeps
keeps_at [] cs h i l = absurd (omega arith)
keeps_at (b ∷ bs) [] h i l = omega arith
keeps_at (b ∷ bs) (c ∷ cs) h zero l = leb-true c b (sym (kept_is b c) ∙ and_l (is_kept (ticks_left b c)) (keeps bs cs) h)
keeps_at (b ∷ bs) (c ∷ cs) h (suc i) l = keeps_at bs cs (and_r (is_kept (ticks_left b c)) (keeps bs cs) h) i (omega arith)

pub keeps_by : (bs cs : List ℕ) → ((i : ℕ) → i < length bs → get_or cs i 0 ≤ get_or bs i 0) → keeps bs cs ≡ true
unfolding keeps
keeps_by [] cs f = refl
keeps_by (b ∷ bs) [] f = refl
keeps_by (b ∷ bs) (c ∷ cs) f = both (kept_is b c ∙ le-leb c b (f 0 (omega arith))) (keeps_by bs cs (λ i l. f (suc i) (omega arith)))

pub keeps_not : (bs cs : List ℕ) (i : ℕ) → i < length bs → get_or bs i 0 < get_or cs i 0 → keeps bs cs ≡ false
keeps_not bs cs i l h = fails (keeps bs cs) (λ e. omega (arith, keeps_at bs cs e i l))

-- joined bounds are kept where both are
pub keeps_join : (a b cs : List ℕ) → length a ≡ length b → keeps (join a b) cs ≡ (keeps a cs && keeps b cs)
keeps_join a b cs e =
    same (keeps (join a b) cs) (keeps a cs && keeps b cs) (λ h.
    both (keeps_by a cs (λ i l. omega (arith, least h i l, min-le_left (get_or a i 0) (get_or b i 0))))
    (keeps_by b cs (λ i l. omega (arith, least h i (omega arith), min-le_right (get_or a i 0) (get_or b i 0)))))
    (λ h.
    keeps_by (join a b) cs (λ i l.
    rw (get_d_join a b i)
    (le-min (keeps_at a cs (and_l (keeps a cs) (keeps b cs) h) i (omega (arith, length_join a b)))
    (keeps_at b cs (and_r (keeps a cs) (keeps b cs) h) i (omega (arith, length_join a b))))))
  where
    least : keeps (join a b) cs ≡ true → (i : ℕ) → i < length a → get_or cs i 0 ≤ min (get_or a i 0) (get_or b i 0)
    least h i l = rw get_d_join at (keeps_at (join a b) cs h i (omega (arith, length_join a b)))

-- reset
length_from : (m j : ℕ) (cs : List ℕ) → length (reset_from m j cs) ≡ length cs
unfolding reset_from
length_from m j [] = refl
length_from m j (c ∷ cs) = ap suc (length_from m (suc j) cs)

get_d_from : (m j : ℕ) (cs : List ℕ) (i : ℕ) → get_or (reset_from m j cs) i 0 ≡ cond (has m (j + i)) 0 (get_or cs i 0)
unfolding reset_from
get_d_from m j [] i = always (has m (j + i))
  where
    always : (b : Bool) → ◌≡◌ {A = ℕ} 0 (cond b 0 0)
    always true = refl
    always false = refl
get_d_from m j (c ∷ cs) zero = ap (λ (k : ℕ). cond (has m k) 0 c) (omega arith)
get_d_from m j (c ∷ cs) (suc i) = get_d_from m (suc j) cs i ∙ ap (λ (k : ℕ). cond (has m k) 0 (get_or cs i 0)) (omega arith)

pub length_reset : (m : ℕ) (cs : List ℕ) → length (reset m cs) ≡ length cs
unfolding reset
length_reset m cs = length_from m 0 cs

pub get_d_reset : (m : ℕ) (cs : List ℕ) (i : ℕ) → get_or (reset m cs) i 0 ≡ cond (has m i) 0 (get_or cs i 0)
unfolding reset
get_d_reset m cs i = get_d_from m 0 cs i ∙ ap (λ (k : ℕ). cond (has m k) 0 (get_or cs i 0)) (omega arith)

-- a reset breaks no bound
pub reset_keeps : (m : ℕ) (bs cs : List ℕ) → keeps bs cs ≡ true → keeps bs (reset m cs) ≡ true
reset_keeps m bs cs h = keeps_by bs (reset m cs) (λ i l. rw (get_d_reset m cs i) (go (has m i) (keeps_at bs cs h i l)))
  where
    go : (b : Bool) {x y : ℕ} → x ≤ y → cond b 0 x ≤ y
    go true h = omega arith
    go false h = h

-- later
pub length_later : (n d : ℕ) (cs : List ℕ) → length (later n d cs) ≡ length cs
unfolding later
length_later zero d cs = refl
length_later (suc n) d [] = refl
length_later (suc n) d (c ∷ cs) = ap suc (length_later n d cs)

pub later_moved : (n d : ℕ) (cs : List ℕ) (i : ℕ) → i < n → i < length cs → get_or (later n d cs) i 0 ≡ get_or cs i 0 + d
unfolding later
later_moved zero d cs i h l = absurd (omega arith)
later_moved (suc n) d [] i h l = absurd (omega arith)
later_moved (suc n) d (c ∷ cs) zero h l = refl
later_moved (suc n) d (c ∷ cs) (suc i) h l = later_moved n d cs i (omega arith) (omega arith)

pub later_stays : (n d : ℕ) (cs : List ℕ) (i : ℕ) → n ≤ i → get_or (later n d cs) i 0 ≡ get_or cs i 0
unfolding later
later_stays zero d cs i h = refl
later_stays (suc n) d [] i h = refl
later_stays (suc n) d (c ∷ cs) zero h = absurd (omega arith)
later_stays (suc n) d (c ∷ cs) (suc i) h = later_stays n d cs i (omega arith)

-- one clock more
pub later_more : (i d : ℕ) (cs : List ℕ) → i < length cs → set (later i d cs) i (get_or cs i 0 + d) ≡ later (i + 1) d cs
unfolding later
later_more i d cs h = rw add-one (go i cs h)
  where
    go : (i : ℕ) (cs : List ℕ) → i < length cs → set (later i d cs) i (get_or cs i 0 + d) ≡ later (suc i) d cs
    go zero [] l = absurd (omega arith)
    go zero (c ∷ cs) l = refl
    go (suc i) [] l = absurd (omega arith)
    go (suc i) (c ∷ cs) l = ap (λ (l : List ℕ). (c + d) ∷ l) (go i cs (omega arith))

-- no more clocks than there are
pub later_min : (n d : ℕ) (cs : List ℕ) {w : ℕ} → length cs ≡ w → later (min n w) d cs ≡ later n d cs
unfolding later
later_min zero d cs {w} e = rw (zero-min w)
later_min (suc n) d [] e = rw (← e, min-zero)
later_min (suc n) d (c ∷ cs) e = rw (← e, suc-min-suc n (length cs)) (ap (λ (l : List ℕ). (c + d) ∷ l) (later_min n d cs refl))

-- the limit: each of the first n clocks
pub limit_at : (n : ℕ) (cs : List ℕ) → in_limit n cs ≡ true → (i : ℕ) → i < n → get_or cs i 0 ≤ clock_limit
unfolding in_limit
limit_at n cs h i l = leb-true (get_or cs i 0) clock_limit (all_below (λ k. leb (get_or cs k 0) clock_limit) n h i l)

pub limit_by : (n : ℕ) (cs : List ℕ) → ((i : ℕ) → i < n → i < length cs → get_or cs i 0 ≤ clock_limit) → in_limit n cs ≡ true
unfolding in_limit
limit_by n cs f =
    below_all (λ k. leb (get_or cs k 0) clock_limit) n
    (λ i l. le-leb (get_or cs i 0) clock_limit (elim (dec_lt i (length cs)) [ yes h ↦ f i l h | no h ↦ omega (arith, get_or-eq_default cs 0 {n = i} (omega arith)) ]))

pub limit_not : (n : ℕ) (cs : List ℕ) (i : ℕ) → i < n → clock_limit < get_or cs i 0 → in_limit n cs ≡ false
limit_not n cs i l h = fails (in_limit n cs) (λ e. omega (arith, limit_at n cs e i l))

-- the same of clocks that are later
pub limit_later : (n d : ℕ) (cs : List ℕ) → ((i : ℕ) → i < n → i < length cs → get_or cs i 0 + d ≤ clock_limit) → in_limit n (later n d cs) ≡ true
limit_later n d cs f = limit_by n (later n d cs) (λ i l h. let k : i < length cs = omega (arith, length_later n d cs) in rw (later_moved n d cs i l k) (f i l k))

pub limit_later_not : (n d : ℕ) (cs : List ℕ) (i : ℕ) → i < n → i < length cs → clock_limit < get_or cs i 0 + d → in_limit n (later n d cs) ≡ false
limit_later_not n d cs i l k h = limit_not n (later n d cs) i l (rw (later_moved n d cs i l k) h)

-- an i32 is 0 where its bits are
pub zero_bits : (z : ℤ) → SFits w32 z → eqb (of_z w32 z) 0 ≡ is_zero z
unfolding is_zero
zero_bits (pos n) f = refl
zero_bits (negsuc n) f = ne_eqb (of_z w32 (negsuc n)) 0 (λ e. omega (arith, f.sfits))

-- a clock is reset to 0, or left
pub reset_at_most : (m : ℕ) (cs : List ℕ) (i : ℕ) → get_or (reset m cs) i 0 ≤ get_or cs i 0
reset_at_most m cs i = omega (arith, get_d_reset m cs i, either (has m i))
  where
    either : (b : Bool) → cond b 0 (get_or cs i 0) ≤ get_or cs i 0
    either true = omega arith
    either false = omega arith

pub reset_none : (i : ℕ) (cs : List ℕ) → reset_from 0 i cs ≡ cs
unfolding reset_from
reset_none i [] = refl
reset_none i (x ∷ xs) = ap₂ ◌∷◌ (cond_no 0 x (has_zero i)) (reset_none (suc i) xs)
