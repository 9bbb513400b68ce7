-- Bytes that stand for active states, and what the functions that are lent them answer.
use mathlib.Core.Path.{◌≡◌, refl, sym, ap, ◌∙◌}
use mathlib.Core.Bool.{Bool, true, false, cond, ◌&&◌}
use mathlib.Core.List.{List}
use Prim.Native.Nat.{ℕ, ◌+◌, ◌≤◌, ◌<◌}
use native.Mathlib.Omega.{arith}
use native.Mathlib.Numerals.{add-one}
use lib.Dec.{eqb}
use lib.ListN.{length, get_or, drop, length-map, drop_of_length-le}
use lib.Seq.{drop-cons}
use Rattle.lists.specs.Lists.{all}
use Rattle.lists.proofs.Lists.{get_d_map}
use Rattle.lists.proofs.Bools.{cond_yes, cond_no}
use Rattle.reading.specs.Answer.{Answer, done, refused}
use Rattle.std.specs.Prelude.{Result, Ok, Err}
use Rattle.reading.specs.Verdict.{number, answer_of, verdict_of, verdict_number, or_kept}
use Rattle.reading.specs.declared.refusal.Refusal.{Refusal}
use Rattle.reading.proofs.Verdicts.{was_done, was_refused, verdict_done_at, verdict_refused_at}
use Rattle.clocks.specs.Longest.{Tells}
use Rattle.chart_records.specs.Rules.{chart_of}
use Rattle.chart_moves.specs.declared.configuration.Configuration.{Configuration}
use Rattle.library.specs.Numbers.{number_of}
use Rattle.library.specs.Flags.{are_flags, flags_of, bytes_of, Lent, lent, configuration_of, lent_after, number_or, no_flags, flagged}

-- so many states have a byte
abbrev pub states : ℕ
states = 48

-- a test of all elements that does not stop at the first that fails: xs has n elements, those before i pass if `good`
pub record Tested {A : Type 0} (p : A → Bool) (n : ℕ) (xs : List A) (i : ℕ) (good : Bool) : Type 0 where
  pub long : length xs ≡ n
  pub left : all p xs ≡ (good && all p (drop i xs))

both_more : (good b r : Bool) → (good && (b && r)) ≡ ((good && b) && r)
both_more true b r = refl
both_more false b r = refl

both_all : (good : Bool) → (good && true) ≡ good
both_all true = refl
both_all false = refl

module _ {A : Type 0} (p : A → Bool) (n : ℕ) (xs : List A) where
  pub tested_none : length xs ≡ n → Tested p n xs 0 true
  tested_none e = record { long = e; left = refl }

  module _ (i : ℕ) (good : Bool) (T : Tested p n xs i good) where
    pub tested_more : (d : A) → i < n → Tested p n xs (i + 1) (good && p (get_or xs i d))
    unfolding all
    tested_more d h = record {
      long = T.long;
      left = rw add-one (T.left ∙ ap (λ (l : List A). good && all p l) (drop-cons xs i d (omega (arith, T.long))) ∙ both_more good _ _);
    }

    pub tested_all : n ≤ i → good ≡ all p xs
    unfolding all
    tested_all h = sym (T.left ∙ ap (λ (l : List A). good && all p l) (drop_of_length-le xs {i = i} (omega (arith, T.long))) ∙ both_all good)

-- the elements of the lists that the loops fill, and their lengths
pub length_flags : (bytes : List ℕ) → length (flags_of bytes) ≡ length bytes
unfolding flags_of
length_flags bytes = length-map bytes _

pub flag_at_lem : (bytes : List ℕ) (i : ℕ) {n : ℕ} → length (flags_of bytes) ≡ n → i < n → eqb (get_or bytes i 0) 1 ≡ get_or (flags_of bytes) i false
unfolding flags_of
flag_at_lem bytes i e h = sym (get_d_map _ bytes i 0 false (omega (arith, e, length_flags bytes)))

pub length_bytes : (flags : List Bool) → length (bytes_of flags) ≡ length flags
unfolding bytes_of
length_bytes flags = length-map flags _

pub byte_at_lem : (flags : List Bool) (i : ℕ) {n : ℕ} → length (bytes_of flags) ≡ n → i < n → cond (get_or flags i false) 1 0 ≡ get_or (bytes_of flags) i 0
unfolding bytes_of
byte_at_lem flags i e h = sym (get_d_map _ flags i false 0 (omega (arith, e, length_bytes flags)))

-- the refusal of bytes that are no flags, by what the check says
module _ (file : List ℕ) where
  pub no_flags_passed : done tt ≡ verdict_of (chart_of file) → 17 ≡ no_flags file
  unfolding no_flags
  no_flags_passed e = sym (ap (number_or 17) (verdict_done_at (chart_of file) (sym e)).1)

  pub no_flags_refused : {k : ℕ} → refused k ≡ verdict_of (chart_of file) → k ≡ no_flags file
  unfolding no_flags
  no_flags_refused e = sym (ap (number_or 17) (verdict_refused_at (chart_of file) (sym e)))

-- what is answered to what is lent
module _ {A : Type 0} (file : List ℕ) (l : Lent) (a : Answer A) where
  pub flagged_yes : are_flags l.active ≡ true → flagged file l a ≡ a
  unfolding flagged
  flagged_yes h = cond_yes a _ h

  pub flagged_no : are_flags l.active ≡ false → flagged file l a ≡ refused (no_flags file)
  unfolding flagged
  flagged_no h = cond_no a _ h

-- an operation on the configuration that is lent, whose active states are made of the bytes
module _ {A : Type 0} (file : List ℕ) (l : Lent) (op : Configuration → Answer A) where
  on_flags : are_flags l.active ≡ true → {flags : List Bool} → flags ≡ flags_of l.active
      → op (record { active = flags; variables = l.variables; clocks = l.clocks }) ≡ flagged file l (op (configuration_of l))
  on_flags h e =
      ap (λ (f : List Bool). op (record { active = f; variables = l.variables; clocks = l.clocks })) e
      ∙ sym (flagged_yes file l (op (configuration_of l)) h)

-- the number, and what is lent to a call that leads to a configuration
module _ (file : List ℕ) (l : Lent) (op : Configuration → Answer Configuration) where
  pub lent_flags : are_flags l.active ≡ true → {flags : List Bool} → flags ≡ flags_of l.active → {r : ℕ} {after : Lent}
      → (r ≡ number_of (op (record { active = flags; variables = l.variables; clocks = l.clocks }))) × (after ≡ lent_after l (op (record { active = flags; variables = l.variables; clocks = l.clocks })))
      → (r ≡ number_of (flagged file l (op (configuration_of l)))) × (after ≡ lent_after l (flagged file l (op (configuration_of l))))
  lent_flags h e q = let w = on_flags file l op h e in (q.0 ∙ ap number_of w, q.1 ∙ ap (lent_after l) w)

  pub lent_no_flags : are_flags l.active ≡ false → {r : ℕ} → r ≡ no_flags file
      → (r ≡ number_of (flagged file l (op (configuration_of l)))) × (l ≡ lent_after l (flagged file l (op (configuration_of l))))
  unfolding number_of lent_after
  lent_no_flags h e = let w = sym (flagged_no file l (op (configuration_of l)) h) in (e ∙ ap number_of w, ap (lent_after l) w)

-- the number, and the ticks that are lent to a longest wait
module _ (file : List ℕ) (l : Lent) (op : Configuration → Answer ℕ) (before : ℕ) where
  pub told_flags : are_flags l.active ≡ true → {flags : List Bool} → flags ≡ flags_of l.active → {after r : ℕ}
      → Tells before (op (record { active = flags; variables = l.variables; clocks = l.clocks })) after r → Tells before (flagged file l (op (configuration_of l))) after r
  told_flags h e q = let w = on_flags file l op h e in
      (q.0 ∙ ap (λ (a : Answer ℕ). verdict_number (verdict_of a)) w, q.1 ∙ ap (or_kept before) w)

  pub told_no_flags : are_flags l.active ≡ false → {r : ℕ} → r ≡ no_flags file → Tells before (flagged file l (op (configuration_of l))) before r
  told_no_flags h e = let w = sym (flagged_no file l (op (configuration_of l)) h) in
      (e ∙ ap (λ (a : Answer ℕ). verdict_number (verdict_of a)) w, ap (or_kept before) w)

-- of what a call answers: what is stored of it
module _ (a : Answer Configuration) (r : Result Configuration Refusal) (h : answer_of r ≡ a) (l : Lent) where
  pub stored_done : {σ : Configuration} → r ≡ Ok σ → {bytes : List ℕ} → bytes ≡ bytes_of σ.active
      → (0 ≡ number_of a) × (lent bytes σ.variables σ.clocks ≡ lent_after l a)
  unfolding number_of lent_after
  stored_done {σ} e b =
      let w = was_done a r h e in
      (sym (ap number_of w), ap (λ (bs : List ℕ). lent bs σ.variables σ.clocks) b ∙ sym (ap (lent_after l) w))

  pub stored_refused : {k : Refusal} → r ≡ Err k → {m : ℕ} → m ≡ number k → (m ≡ number_of a) × (l ≡ lent_after l a)
  unfolding number_of lent_after
  stored_refused e q = let w = was_refused a r h e in (q ∙ sym (ap number_of w), sym (ap (lent_after l) w))
