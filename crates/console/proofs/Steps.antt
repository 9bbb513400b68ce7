-- The lines that the words after `step`, `wait`, `start` and `longest` make.
use mathlib.Core.Path.{◌≡◌, refl, sym, ap, ◌∙◌}
use mathlib.Core.Bool.{true, false, cond}
use mathlib.Core.Logic.{⊎_elim}
use mathlib.Core.List.{List, [], ◌∷◌, ◌++◌, map, append_assoc, append-nil, map-append}
use Prim.Native.Nat.{ℕ, ◌+◌, ◌≤◌, ◌<◌, min}
use native.Mathlib.Omega.{arith}
use lib.Dec.{ltb}
use lib.ListN.{length, take, set, length-append, length-map}
use lib.Seq.{take_all, take-append-le}
use borrow.Author.Tests.{ltb-true, ltb-false, lt-ltb, le-ltb}
use Rattle.lists.specs.Lists.{all, padded}
use Rattle.lists.proofs.Bools.{decided}
use Rattle.lists.proofs.Loops.{padded_more}
use Rattle.console.specs.Script.{decimal, is_number, plain_line, shortened, listed, step_line, wait_line, alone_line, step_word, wait_word, start_word, longest_word, call_line, same_word}
use Rattle.console.specs.Places.{with_number}
use Rattle.console.specs.declared.script.Line.{Line}
use Rattle.console.specs.declared.script.Call.TheVariants as Ca

-- one number more of a step
module _ (ns : List ℕ) (n : ℕ) where
  size : length (ns ++ (n ∷ [])) ≡ length ns + 1
  size = length-append ns (n ∷ [])

  room : length ns < 17 → with_number (listed ns) n ≡ listed (ns ++ (n ∷ []))
  unfolding with_number listed
  room h =
      let count : min (length ns) 17 ≡ length ns = omega arith in
      let before : take 17 ns ≡ ns = take_all 17 ns (omega arith) in
      let after : take 17 (ns ++ (n ∷ [])) ≡ ns ++ (n ∷ []) = take_all 17 (ns ++ (n ∷ [])) (omega (arith, size)) in
      let list : set (padded 17 0 (map shortened (take 17 ns))) (min (length ns) 17) (shortened n) ≡ padded 17 0 (map shortened (take 17 (ns ++ (n ∷ [])))) =
      rw (count, before, after, map-append shortened ns (n ∷ [])) (padded_more 17 0 (map shortened ns) (shortened n) (length-map ns shortened) h) in
      let more : min (length ns) 17 + 1 ≡ min (length (ns ++ (n ∷ []))) 17 = omega (arith, size) in
      rw (lt-ltb (min (length ns) 17) 17 (omega arith)) (λ j. record { call = Ca.Step; list = list j; count = more j })

  full : 17 ≤ length ns → with_number (listed ns) n ≡ listed (ns ++ (n ∷ []))
  unfolding with_number listed
  full h =
      let same : min (length ns) 17 ≡ min (length (ns ++ (n ∷ []))) 17 = omega (arith, size) in
      rw (le-ltb (min (length ns) 17) 17 (omega arith)) (λ j. record { call = Ca.Step; list = padded 17 0 (map shortened (sym (take-append-le 17 ns (n ∷ []) h) j)); count = same j })

  with_listed : with_number (listed ns) n ≡ listed (ns ++ (n ∷ []))
  with_listed = ⊎_elim (λ e. room (ltb-true (length ns) 17 e)) (λ e. full (ltb-false (length ns) 17 e)) (decided (ltb (length ns) 17))

-- the line of a step after the numbers `seen`, where these words are left of all
pub record Stepping (line : Line) (left whole : List (List ℕ)) : Type 0 where
  pub seen : List ℕ
  pub so_far : line ≡ listed seen
  pub onwards : cond (all is_number left) (listed (seen ++ map decimal left)) (plain_line Ca.Number) ≡ step_line whole

pub step_none : (ws : List (List ℕ)) {line : Line} → line ≡ plain_line Ca.Step → Stepping line ws ws
unfolding step_line listed plain_line padded
step_none ws e = record { seen = []; so_far = e; onwards = refl }

module _ (line : Line) (w : List ℕ) (ws : List (List ℕ)) {left whole : List (List ℕ)} (S : Stepping line left whole) (f : left ≡ w ∷ ws) where
  pub step_more : {n : ℕ} {after : Line} → (is_number w ≡ true) × (n ≡ decimal w) → after ≡ with_number line n → Stepping after ws whole
  unfolding all
  step_more {n} (e, d) g =
      record {
        seen = S.seen ++ (n ∷ []);
        so_far = g ∙ ap (λ (l : Line). with_number l n) S.so_far ∙ with_listed S.seen n;
        onwards = rw (append_assoc S.seen (n ∷ []) (map decimal ws), d) (rw (f, e) at S.onwards);
      }

  pub step_bad : is_number w ≡ false → plain_line Ca.Number ≡ step_line whole
  unfolding all
  step_bad e = rw (f, e) at S.onwards

pub step_end : (line : Line) {left whole : List (List ℕ)} → Stepping line left whole → left ≡ [] → line ≡ step_line whole
unfolding all
step_end line {whole = whole} S f = S.so_far ∙ ap listed (sym (append-nil S.seen)) ∙ (rw f at S.onwards)

-- the words after `wait`
module _ (w : List ℕ) (rest : List (List ℕ)) {ws : List (List ℕ)} (f : ws ≡ w ∷ rest) where
  pub wait_bad : is_number w ≡ false → wait_line ws ≡ plain_line Ca.Number
  unfolding wait_line
  wait_bad e = rw f (go rest)
    where
      go : (vs : List (List ℕ)) → wait_line (w ∷ vs) ≡ plain_line Ca.Number
      go [] = rw e
      go (v ∷ vs) = refl

  pub wait_more : {v : List ℕ} {vs : List (List ℕ)} → rest ≡ v ∷ vs → wait_line ws ≡ plain_line Ca.Number
  unfolding wait_line
  wait_more g = rw (f, g)

  pub wait_one : {n : ℕ} → rest ≡ [] → (is_number w ≡ true) × (n ≡ decimal w) → wait_line ws ≡ plain_line (Ca.Wait n)
  unfolding wait_line
  wait_one g (e, d) = rw (f, g, e, d)

-- the call by its first word
module _ (w : List ℕ) (rest : List (List ℕ)) {ws : List (List ℕ)} (f : ws ≡ w ∷ rest) where
  pub call_step : same_word w step_word ≡ true → call_line ws ≡ step_line rest
  unfolding call_line
  call_step a = rw (f, a)

  module _ (a : same_word w step_word ≡ false) where
    pub call_wait : same_word w wait_word ≡ true → call_line ws ≡ wait_line rest
    unfolding call_line
    call_wait b = rw (f, a, b)

    module _ (b : same_word w wait_word ≡ false) where
      pub call_start : same_word w start_word ≡ true → call_line ws ≡ alone_line Ca.Start rest
      unfolding call_line
      call_start d = rw (f, a, b, d)

      module _ (d : same_word w start_word ≡ false) where
        pub call_longest : same_word w longest_word ≡ true → call_line ws ≡ alone_line Ca.Longest rest
        unfolding call_line
        call_longest e = rw (f, a, b, d, e)

        pub call_unknown : same_word w longest_word ≡ false → call_line ws ≡ plain_line Ca.Unknown
        unfolding call_line
        call_unknown e = rw (f, a, b, d, e)
