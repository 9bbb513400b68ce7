-- What a step keeps of variables and clocks: what is not declared stays 0, and declared clocks stay within the limit.
use mathlib.Core.Path.{◌≡◌, refl, sym, ap, ◌∙◌, ap₂}
use mathlib.Core.Bool.{true}
use mathlib.Core.List.Memᴰ.{head as here}
use mathlib.Core.List.Memᴰ.{tail as there}
use mathlib.Core.List.{List, [], ◌∷◌, Memᴰ as Mem, ◌++◌}
use Prim.Native.Nat.{ℕ, ◌+◌, ◌<◌}
use native.Mathlib.Omega.{arith}
use borrow.Author.Tests.{eqb-true, eq-eqb, leb-true, le-leb}
use lib.Dec.{eqb, leb}
use lib.IntN.{ℤ}
use lib.ListN.{length, get_or, drop, length-drop}
use lib.Seq.{get_or-drop, drop-set-lt}
use Rattle.lists.specs.Lists.{all, concat}
use Rattle.updates.specs.Update.{Update, assignment, advance, form_of, writes, stays, updated, assign}
use Rattle.labels.specs.Label.{Label}
use Rattle.clocks.specs.Clocks.{clock_limit, reset, in_limit, zero_past, keeps, is_zero, zeros_past}
use Rattle.steps.specs.Moves.{all_stay, variables_after, clocks_after}
use Rattle.lists.proofs.Lists.{all_at, all_by, get_d_mem, mem_get_d}
use Rattle.lists.proofs.Below.{all_below, below_all}
use Rattle.lists.proofs.Concat.{concat_at, concat_none}
use Rattle.clocks.proofs.Clocks.{length_reset, reset_keeps, reset_at_most, reset_none}
use Rattle.clocks.proofs.Rows.{values_reset, ClockValues}

-- an update that writes declared variables leaves the others
zeros_past_updated : (n : ℕ) (old : List ℤ) (u : Update) (new : List ℤ) → ((v : ℕ) → Mem v (writes (form_of u)) → v < n) → zeros_past n (updated old u new) ≡ zeros_past n new
unfolding updated zeros_past
zeros_past_updated n old (assignment v e) new f = ap (all is_zero) (drop-set-lt n new v _ (f v (here refl)))
zeros_past_updated n old (advance a) new f =
    ap (all is_zero) (drop-set-lt n _ a.remainder _ (f a.remainder (there (here refl))) ∙ drop-set-lt n new a.steps _ (f a.steps (here refl)))

zeros_past_assign : (n : ℕ) (old : List ℤ) (us : List Update) (new : List ℤ) → ((u : Update) → Mem u us → (v : ℕ) → Mem v (writes (form_of u)) → v < n)
    → zeros_past n (assign old us new) ≡ zeros_past n new
unfolding assign
zeros_past_assign n old [] new f = refl
zeros_past_assign n old (u ∷ us) new f = zeros_past_assign n old us _ (λ v m. f v (there m)) ∙ zeros_past_updated n old u new (f u (here refl))

-- so a step leaves undeclared variables as they are
pub zeros_past_after : (n : ℕ) (ls : List Label) (vs : List ℤ) →
    ((l : Label) → Mem l ls → (u : Update) → Mem u l.body.updates → (v : ℕ) → Mem v (writes (form_of u)) → v < n) →
    zeros_past n (variables_after ls vs) ≡ zeros_past n vs
unfolding variables_after
zeros_past_after n ls vs f = zeros_past_assign n vs _ vs (λ u m. let r = concat_at (λ (l : Label). l.body.updates) ls m in f r.0 r.1 u r.2)

pub in_limit_after : (n : ℕ) (ls : List Label) (cs : List ℕ) → in_limit n cs ≡ true → in_limit n (clocks_after ls cs) ≡ true
unfolding clocks_after
in_limit_after n [] cs h = h
in_limit_after n (l ∷ ls) cs h = in_limit_after n ls _ kept
  where
    kept : in_limit n (reset l.resets cs) ≡ true
    kept = unfold in_limit in below_all _ n (λ i k.
        le-leb (get_or (reset l.resets cs) i 0) clock_limit (omega (
          arith,
          reset_at_most l.resets cs i,
          leb-true (get_or cs i 0) clock_limit (all_below (λ i. leb (get_or cs i 0) clock_limit) n h i k),
        )))

pub zero_past_after : (n : ℕ) (ls : List Label) (cs : List ℕ) → zero_past n cs ≡ true → zero_past n (clocks_after ls cs) ≡ true
unfolding clocks_after
zero_past_after n [] cs h = h
zero_past_after n (l ∷ ls) cs h = zero_past_after n ls _ kept
  where
    past : (i : ℕ) → i < length (drop n cs) → get_or cs (n + i) 0 ≡ 0
    past i k = sym (get_or-drop n cs i 0) ∙ eqb-true (get_or (drop n cs) i 0) 0 (all_at (λ x. eqb x 0) (drop n cs) (unfold zero_past in h) (get_d_mem (drop n cs) i 0 k))

    kept : zero_past n (reset l.resets cs) ≡ true
    kept =
        unfold zero_past in all_by (λ x. eqb x 0) (drop n (reset l.resets cs)) (λ x m.
        let r = mem_get_d 0 m in
        let long = length-drop n (reset l.resets cs) in
        eq-eqb x 0 (omega (
          arith,
          r.2,
          get_or-drop n (reset l.resets cs) r.0 0,
          reset_at_most l.resets cs (n + r.0),
          past r.0 (omega (arith, r.1, long, length_reset l.resets cs, length-drop n cs)),
        )))

-- labels without assignments leave the variables as they are, and so within the range; labels without resets leave the clocks
pub variables_stay : (ls : List Label) (vs : List ℤ) → ((l : Label) → Mem l ls → l.body.updates ≡ []) → variables_after ls vs ≡ vs
unfolding variables_after concat assign
variables_stay ls vs h = ap (λ (us : List Update). assign vs us vs) (none ls h)
  where
    none : (ls : List Label) → ((l : Label) → Mem l ls → l.body.updates ≡ []) → concat (λ l. l.body.updates) ls ≡ []
    none [] h = refl
    none (l ∷ ls) h = ap₂ ◌++◌ (h l (here refl)) (none ls (λ x m. h x (there m)))

pub none_leaves : (ls : List Label) (vs : List ℤ) → ((l : Label) → Mem l ls → l.body.updates ≡ []) → all_stay ls vs ≡ true
unfolding all_stay all
none_leaves ls vs h = ap (all (stays vs)) (concat_none (λ (l : Label). l.body.updates) ls h)

pub clocks_stay : (ls : List Label) (cs : List ℕ) → ((l : Label) → Mem l ls → l.resets ≡ 0) → clocks_after ls cs ≡ cs
unfolding clocks_after reset
clocks_stay [] cs h = refl
clocks_stay (l ∷ ls) cs h = ap (clocks_after ls) (ap (λ (n : ℕ). reset n cs) (h l (here refl)) ∙ reset_none 0 cs) ∙ clocks_stay ls cs (λ x m. h x (there m))

pub keeps_clocks_after : (ls : List Label) (b cs : List ℕ) → keeps b cs ≡ true → keeps b (clocks_after ls cs) ≡ true
unfolding clocks_after
keeps_clocks_after [] b cs h = h
keeps_clocks_after (l ∷ ls) b cs h = keeps_clocks_after ls b (reset l.resets cs) (reset_keeps l.resets b cs h)

pub values_clocks_after : (ls : List Label) (cs : List ℕ) → ClockValues cs → ClockValues (clocks_after ls cs)
unfolding clocks_after
values_clocks_after [] cs v = v
values_clocks_after (l ∷ ls) cs v = values_clocks_after ls (reset l.resets cs) (values_reset l.resets cs v)
