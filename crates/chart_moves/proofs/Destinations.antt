-- What the moves of a step enter.
use mathlib.Core.Path.{◌≡◌, refl, sym, ap, ◌∙◌}
use mathlib.Core.Bool.{Bool, ◌||◌}
use mathlib.Core.List.{List, map}
use Prim.Native.Nat.{ℕ, ◌+◌, ◌≤◌, ◌<◌, min}
use native.Mathlib.Nat.{min-eq_left}
use native.Mathlib.Numerals.{add-one}
use lib.ListN.{length, get_or, take}
use lib.Seq.{get_or-take, take-suc, take_all}
use Rattle.lists.specs.Lists.{any}
use Rattle.lists.proofs.Lists.{any_more, get_d_map}
use Rattle.chart_records.specs.Chart.{Chart, Transition, transition_at}
use Rattle.chart_records.specs.Tree.{entered}
use Rattle.chart_tree.specs.Table.{adding}
use Rattle.chart_moves.specs.Active.{Moved}
use Rattle.chart_moves.specs.declared.moves.Moves.{Moves}
use Rattle.chart_tree.proofs.Tables.{adding_same, adding_none, adding_more}

-- the destinations of several transitions
abbrev pub some_entered : Chart → List Transition → ℕ → Bool
some_entered c ts s = any (λ t. entered c t.destination t.entry s) ts

module _ (w : ℕ) (c : Chart) (ts : List Transition) (m : Moves) (M : Moved ts m) where
  field_at : (f : Transition → ℕ) (l : List ℕ) → map f ts ≡ take (length ts) l → (i : ℕ) (d : Transition) → i < length ts → get_or l i 0 ≡ f (get_or ts i d)
  field_at f l e i d h = sym (get_or-take (length ts) l i 0 h) ∙ ap (λ (k : List ℕ). get_or k i 0) (sym e) ∙ get_d_map f ts i d 0 h

  pub entered_first : (l : List Bool) → length l ≡ w → l ≡ adding w c (some_entered c (take 0 ts)) l
  unfolding any
  entered_first l h = adding_none w c _ l h (λ s k. refl)

  pub entered_next : (i : ℕ) (first l next : List Bool) → i < length ts → l ≡ adding w c (some_entered c (take i ts)) first → next ≡ adding w c (entered c (get_or m.destinations i 0) (get_or m.entries i 0)) l → next ≡ adding w c (some_entered c (take (i + 1) ts)) first
  entered_next i first l next h g n = n ∙ ap (adding w c _) g ∙ adding_more w c _ _ first ∙ adding_same w c _ _ first (λ s k. sym (one s))
    where
      t : Transition
      t = get_or ts i (transition_at c 0)

      one : (s : ℕ) → some_entered c (take (i + 1) ts) s ≡ (some_entered c (take i ts) s || entered c (get_or m.destinations i 0) (get_or m.entries i 0) s)
      one s = rw (add-one, take-suc ts i (transition_at c 0) h, field_at (λ t. t.destination) m.destinations M.destinations i (transition_at c 0) h, field_at (λ t. t.entry) m.entries M.entries i (transition_at c 0) h)
          (any_more (λ t. entered c t.destination t.entry s) (take i ts) t)

  pub entered_last : (i : ℕ) (first l : List Bool) → length ts ≤ i → l ≡ adding w c (some_entered c (take i ts)) first → l ≡ adding w c (some_entered c ts) first
  entered_last i first l h g = g ∙ ap (λ (k : List Transition). adding w c (some_entered c k) first) (take_all i ts h)

  pub count_is : {n : ℕ} → n ≡ min m.count 16 → n ≡ length ts
  count_is e = e ∙ ap (λ (k : ℕ). min k 16) M.count ∙ min-eq_left M.few
