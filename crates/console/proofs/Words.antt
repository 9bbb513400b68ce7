-- The words of a line, one after the other.
use mathlib.Core.Path.{◌≡◌, refl, sym, ap, ap₂, ◌∙◌}
use mathlib.Core.Bool.{Bool, true, false, cond, not, ◌&&◌}
use mathlib.Core.List.{List, [], ◌∷◌, ◌++◌, append_assoc, append-nil}
use Prim.Native.Nat.{ℕ, suc, ◌-◌, ◌≤◌, ◌<◌}
use native.Mathlib.Omega.{arith}
use borrow.Author.Tests.{leb-true, ne_eqb}
use lib.Dec.{leb, eqb}
use lib.Pointwise.{pointwise}
use lib.ListN.{length, take, drop, length-take, length-drop}
use lib.Seq.{drop-drop}
use Rattle.std.specs.Prelude.{Some}
use Rattle.lists.specs.Lists.{position}
use Rattle.reading.specs.Places.{onward}
use Rattle.lists.proofs.Bools.{and_l, cond_yes, cond_no}
use Rattle.lists.proofs.Position.{position_le}
use Rattle.console.specs.Script.{is_space, is_digit, ended, words_after, words, same_word}
use Rattle.console.specs.Places.{place_of, ends_run, words_found, WordFits}

-- a word from `from` to `to` is the first from a place on, and lies in the line
abbrev pub FirstWord : List ℕ → List (List ℕ) → ℕ → ℕ → Type 0
FirstWord s ws from to = ws ≡ take (to - from) (drop from s) ∷ words (onward s to)

-- the words that are left, after a space and after another byte
pub after_space : (w : List ℕ) (b : ℕ) (s : List ℕ) → is_space b ≡ true → words_after w (b ∷ s) ≡ ended w ++ words_after [] s
unfolding words_after
after_space w b s h = cond_yes (ended w ++ words_after [] s) (words_after (w ++ (b ∷ [])) s) h

pub after_byte : (w : List ℕ) (b : ℕ) (s : List ℕ) → is_space b ≡ false → words_after w (b ∷ s) ≡ words_after (w ++ (b ∷ [])) s
unfolding words_after
after_byte w b s h = cond_no (ended w ++ words_after [] s) (words_after (w ++ (b ∷ [])) s) h

-- a digit is no space
pub digit_no_space : (b : ℕ) → is_digit b ≡ true → is_space b ≡ false
unfolding is_space
digit_no_space b h =
    let l = leb-true 48 b (and_l (leb 48 b) _ h) in
    rw (ne_eqb b 32 (λ e. omega arith), ne_eqb b 9 (λ e. omega arith), ne_eqb b 13 (λ e. omega arith)) refl

-- spaces in front are no part of a word
words_skip : (t : List ℕ) → words (drop (position (ends_run true) t) t) ≡ words t
unfolding words words_after ended position
words_skip [] = refl
words_skip (b ∷ t) = go (is_space b) refl (words_skip t)
  where
    go : (x : Bool) → is_space b ≡ x → words (drop (position (ends_run true) t) t) ≡ words t → words (drop (cond (not x) 0 (suc (position (ends_run true) t))) (b ∷ t)) ≡ words (b ∷ t)
    go true e r = r ∙ sym (rw e)
    go false e r = refl

-- where no word follows the spaces, nothing follows them
skip_all : (t : List ℕ) → position (ends_run false) (drop (position (ends_run true) t) t) ≡ 0 → drop (position (ends_run true) t) t ≡ []
unfolding position
skip_all [] h = refl
skip_all (b ∷ t) h = go (is_space b) refl (λ k. skip_all t k) h
  where
    go : (x : Bool) → is_space b ≡ x → (position (ends_run false) (drop (position (ends_run true) t) t) ≡ 0 → drop (position (ends_run true) t) t ≡ [])
        → position (ends_run false) (drop (cond (not x) 0 (suc (position (ends_run true) t))) (b ∷ t)) ≡ 0
        → drop (cond (not x) 0 (suc (position (ends_run true) t))) (b ∷ t) ≡ []
    go true e r k = r k
    go false e r k = absurd (let z : suc (position (ends_run false) t) ≡ 0 = rw e at k in omega arith)

-- a word goes up to the next space
words_after_lem : (w t : List ℕ) → words_after w t ≡ ended (w ++ take (position (ends_run false) t) t) ++ words (drop (position (ends_run false) t) t)
unfolding words words_after ended position
words_after_lem w [] = sym (rw (append-nil w, append-nil (ended w)))
words_after_lem w (b ∷ t) = go (is_space b) refl (words_after_lem (w ++ (b ∷ [])) t)
  where
    go : (x : Bool) → is_space b ≡ x
        → words_after (w ++ (b ∷ [])) t ≡ ended ((w ++ (b ∷ [])) ++ take (position (ends_run false) t) t) ++ words (drop (position (ends_run false) t) t)
        → cond x (ended w ++ words_after [] t) (words_after (w ++ (b ∷ [])) t)
        ≡ ended (w ++ take (cond x 0 (suc (position (ends_run false) t))) (b ∷ t)) ++ words (drop (cond x 0 (suc (position (ends_run false) t))) (b ∷ t))
    go true e r = sym (rw (append-nil w, e))
    go false e r = r ∙ rw (append_assoc w (b ∷ []) (take (position (ends_run false) t) t))

ended_some : (w : List ℕ) → 1 ≤ length w → ended w ≡ w ∷ []
unfolding ended
ended_some [] h = absurd (omega arith)
ended_some (b ∷ w) h = refl

words_first : (t : List ℕ) → 1 ≤ position (ends_run false) t → words t ≡ take (position (ends_run false) t) t ∷ words (drop (position (ends_run false) t) t)
unfolding words
words_first t h = words_after_lem [] t ∙ ap (λ (l : List (List ℕ)). l ++ words (drop (position (ends_run false) t) t)) (ended_some (take (position (ends_run false) t) t) (omega (arith, length-take (position (ends_run false) t) t, position_le (ends_run false) t)))

-- what is found between the end of the spaces and the end of what follows them
module _ (s : List ℕ) (at : ℕ) {from to : ℕ} (f : from ≡ place_of (ends_run true) s at) (g : to ≡ place_of (ends_run false) s from) where
  skipped : words (onward s from) ≡ words (onward s at)
  unfolding onward
  skipped = ap (λ (n : ℕ). words (drop n s)) f ∙ ap words (sym (drop-drop (position (ends_run true) (drop at s)) at s)) ∙ words_skip (drop at s)

  pub word_found : from < to → words_found s (Some (from, to)) ≡ words (onward s at)
  unfolding onward
  word_found h =
      let m : ℕ = position (ends_run false) (drop from s) in
      let size : to - from ≡ m = omega arith in
      sym (sym skipped ∙ words_first (drop from s) (omega arith)
      ∙ ap₂ (λ (w : List ℕ) (ws : List (List ℕ)). w ∷ ws) (ap (λ (n : ℕ). take n (drop from s)) (sym size))
      (ap words (drop-drop m from s) ∙ ap (λ (n : ℕ). words (drop n s)) (sym g)))

  pub word_fits : from < to → WordFits s at (Some (from, to))
  unfolding onward
  word_fits h = (omega arith, omega arith, omega (arith, position_le (ends_run false) (drop from s), length-drop from s))

  pub word_none : to ≤ from → [] ≡ words (onward s at)
  unfolding onward words words_after ended
  word_none h =
      let skip : ℕ = position (ends_run true) (drop at s) in
      let here : drop from s ≡ drop skip (drop at s) = ap (λ (n : ℕ). drop n s) f ∙ sym (drop-drop skip at s) in
      let none : position (ends_run false) (drop from s) ≡ 0 = omega arith in
      let end : drop from s ≡ [] = here ∙ skip_all (drop at s) (ap (position (ends_run false)) (sym here) ∙ none) in
      sym (sym skipped ∙ ap words end)

-- two words are the same where they are equal
pub same_is : (a b : List ℕ) → pointwise eqb a b ≡ same_word a b
unfolding same_word
same_is [] [] = refl
same_is [] (y ∷ b) = refl
same_is (x ∷ a) [] = refl
same_is (x ∷ a) (y ∷ b) = ap (λ (t : Bool). eqb x y && t) (same_is a b)
