-- Where the picture of a chart configuration has the automaton of a sequential state: at its active child, or idle.
use mathlib.Core.Path.{◌≡◌, refl, sym, ap, ◌∙◌, subst}
use mathlib.Core.Bool.{Bool, true, false, cond}
use mathlib.Core.Logic.{◌⊎◌, inl, inr, ⊎_elim}
use Prim.Native.Nat.{ℕ}
use native.Mathlib.Omega.{arith}
use Rattle.lists.proofs.Bools.{clash, decided, fails, and_l, and_r, both, same, cond_yes, cond_no}
use Rattle.chart_records.specs.Chart.{Chart}
use Rattle.chart_records.specs.Tree.{fixed, shares}
use Rattle.chart_moves.specs.Machine.{is_active, is_tree}
use Rattle.chart_moves.specs.declared.configuration.Configuration.{Configuration}
use Rattle.chart_records.proofs.Tree.{Child}
use Rattle.chart_moves.proofs.Active.{tree_at}
use Rattle.flattening.specs.Flatten.{Place, idle, child, at_exit, urgent_place}
use Rattle.flattening.specs.Picture.{pictured}
use Rattle.flattening.proofs.Automata.{Region}
use Rattle.flattening.proofs.Alternatives.{is_at, is_at_ready, ready_is_at}
use Rattle.flattening.proofs.Numbers.{PlaceOf, idle_place, child_place}
use Rattle.flattening.proofs.Bounds.{active_child_lem}

-- it is idle, or at the active child, and at no urgent place
pub pictured_idle : (c : Chart) (σ : Configuration) (q : ℕ) → is_active σ q ≡ false → pictured c σ q ≡ idle q
unfolding pictured
pictured_idle c σ q h = cond_no _ _ h

pub pictured_not_urgent : (c : Chart) (σ : Configuration) (q : ℕ) → urgent_place (pictured c σ q) ≡ 0
unfolding pictured urgent_place
pictured_not_urgent c σ q = go (is_active σ q) _
  where
    go : (b : Bool) (s : ℕ) → urgent_place (cond b (child s) (idle q)) ≡ 0
    go true s = refl
    go false s = refl

module _ (c : Chart) (σ : Configuration) (tree : is_tree c σ ≡ true) where
  pub pictured_child : {q s : ℕ} → Region c q → Child c q s → is_active σ s ≡ true → pictured c σ q ≡ child s
  unfolding pictured
  pictured_child {q} {s} g k a =
      let t = tree_at c σ tree in
      let up = ap (is_active σ) (sym k.parent_is) ∙ t.up s k.known k.below_root a in
      let o = t.one q g.known g.is_sequential up in
      cond_yes _ _ up ∙ ap child (active_child_lem c (is_active σ) q o ∙ sym (o.alone s k a))

  pub pictured_cases : {q : ℕ} → Region c q → ((is_active σ q ≡ false) × (pictured c σ q ≡ idle q)) ⊎ ((s : ℕ) × Child c q s × (is_active σ s ≡ true) × (pictured c σ q ≡ child s))
  pictured_cases {q} g = ⊎_elim
      (λ a. let o = (tree_at c σ tree).one q g.known g.is_sequential a in inr (o.child, o.is_child_lem, o.passes, pictured_child g o.is_child_lem o.passes))
      (λ a. inl (a, pictured_idle c σ q a))
      (decided (is_active σ q))

  pub pictured_fits : (q : ℕ) → Region c q → PlaceOf c q (pictured c σ q)
  pictured_fits q g = ⊎_elim
      (λ h. subst (PlaceOf c q) (sym h.1) (idle_place c g))
      (λ h. subst (PlaceOf c q) (sym h.3) (child_place c g h.1))
      (pictured_cases g)

  pub active_of_pictured : {q s : ℕ} → Region c q → pictured c σ q ≡ child s → is_active σ s ≡ true
  active_of_pictured {q} {s} g e = ⊎_elim
      (λ h. absurd (let z : ◌≡◌ {A = Place} (idle q) (child s) = sym h.1 ∙ e in let y : ◌≡◌ {A = ℕ} 0 1 = cc in omega arith))
      (λ h. ap (is_active σ) (sym (let z : ◌≡◌ {A = Place} (child h.0) (child s) = sym h.3 ∙ e in let y : h.0 ≡ s = cc in y)) ∙ h.2)
      (pictured_cases g)

  -- it is at an exit, just if its active child is
  pub at_exit_pictured : {q : ℕ} (e : ℕ) → Region c q → at_exit c (pictured c σ q) e ≡ is_at c σ e q
  unfolding at_exit
  at_exit_pictured {q} e g = ⊎_elim
      (λ h. ap (λ (p : Place). at_exit c p e) h.1 ∙ sym (fails (is_at c σ e q) (λ k. clash (is_at_ready c σ e q k).is_active_lem h.0)))
      (λ h. ap (λ (p : Place). at_exit c p e) h.3 ∙ same _ _
      (λ k. ready_is_at c σ e q (record { is_active_lem = above h; child = h.0; is_child_lem = h.1; child_active = h.2; child_fixed = and_l (fixed c h.0) _ k; child_shares = and_r (fixed c h.0) _ k }))
      (λ k. let r = is_at_ready c σ e q k in
      let s = one h r.child r.is_child_lem r.child_active in
      both (ap (fixed c) (sym s) ∙ r.child_fixed) (ap (shares c e) (sym s) ∙ r.child_shares)))
      (pictured_cases g)
    where
      above : ((s : ℕ) × Child c q s × (is_active σ s ≡ true) × (pictured c σ q ≡ child s)) → is_active σ q ≡ true
      above h = ap (is_active σ) (sym h.1.parent_is) ∙ (tree_at c σ tree).up h.0 h.1.known h.1.below_root h.2

      one : (h : (s : ℕ) × Child c q s × (is_active σ s ≡ true) × (pictured c σ q ≡ child s)) → (t : ℕ) → Child c q t → is_active σ t ≡ true → t ≡ h.0
      one h t k a = let o = (tree_at c σ tree).one q g.known g.is_sequential (above h) in o.alone t k a ∙ sym (o.alone h.0 h.1 h.2)
