-- The transitions that the edges of a move bear: no move bears one twice (`bears_once`), and no move of a picture has an edge
-- that leaves an urgent location (`no_urgent_move`).
use mathlib.Core.Path.{◌≡◌, sym, ap, ◌∙◌, subst}
use mathlib.Core.Bool.{Bool, true, not}
use mathlib.Core.Logic.{⊎_elim, ◌≢◌}
use mathlib.Core.List.{Memᴰ as Mem}
use Prim.Native.Nat.{ℕ}
use borrow.Author.Tests.{eqb-false, not-true}
use lib.Dec.{eqb}
use Rattle.lists.specs.Lists.{keep}
use Rattle.lists.proofs.Once.{Once, once_keep, distinct_by}
use Rattle.lists.proofs.Lists.{none_any, keep_at, keep_map}
use Rattle.lists.proofs.Pairwise.{map_once_on}
use Rattle.chart_records.specs.Chart.{Chart, parent_of, home}
use Rattle.chart_moves.proofs.Step.{configuration_tree}
use Rattle.network_records.specs.Network.{Edge, location_at, urgent_at, edge_at, owner_of}
use Rattle.network_moves.specs.Machine.{active_edge}
use Rattle.flattening.specs.Flatten.{Place, idle, child, pre, post, automaton, place_home, edge, own_edge, flatten}
use Rattle.flattening.specs.Picture.{pictured, picture}
use Rattle.flattening.proofs.Numbers.{IsPlace, urgent_of_place}
use Rattle.flattening.proofs.Edges.{Leaves, edges_at, source_of, owner_of_lem, edge_at_mem}
use Rattle.flattening.proofs.Pictured.{pictured_fits, pictured_not_urgent}
use Rattle.agreement.specs.Agreement.{NetworkConfiguration, is_urgent, Accepts}
use Rattle.agreement.proofs.Claims.{BearsOnce, NoUrgentMove}
use Rattle.agreement.proofs.Standing.{picture_stands, active_leaves}
use Rattle.agreement.proofs.Accepted.{AllowedMove, accepted_at}

-- an edge that bears a transition is of its home's automaton
bearer : (c : Chart) {e : Edge} → Mem e (flatten c).edges → e.transition ≢ 255 → owner_of (flatten c) e ≡ automaton c (home c e.transition)
unfolding edge own_edge home place_home
bearer c {e} m d = let r = edges_at c m in go r.0 r.1 r.2
  where
    go : (p : Place) → IsPlace c p → Leaves c p e → owner_of (flatten c) e ≡ automaton c (home c e.transition)
    go (idle q) j l = absurd (d (ap (λ (x : Edge). x.transition) l.edge_is))
    go (child s) j l = ⊎_elim
        (λ i. absurd (d (ap (λ (x : Edge). x.transition) i.edge_is)))
        (λ i. owner_of_lem c (child s) e j l ∙ ap (λ (x : ℕ). automaton c (parent_of c x)) (sym i.source_is) ∙ ap (λ (t : ℕ). automaton c (home c t)) (sym (ap (λ (x : Edge). x.transition) i.bears.edge_is)))
        l
    go (pre p) j l = absurd (d (ap (λ (x : Edge). x.transition) l))
    go (post t) j l = absurd (d (ap (λ (x : Edge). x.transition) l))

-- so two edges of a move that bear the same are one
pub bears_once : BearsOnce
unfolding Accepts
bears_once c passed ranges ν ms k =
    let s = (accepted_at (flatten c) ν ms k.1).tests in
    distinct_by _ (subst Once (sym (keep_map (λ t. not (eqb t 255)) borne-by ms)) (map_once_on borne-by (keep bears ms) (λ a b i j e. same s a b (keep_at bears ms i) (keep_at bears ms j) e) (once_keep bears ms s.is_allowed_lem.once)))
  where
    borne-by : ℕ → ℕ
    borne-by m = (edge_at (flatten c) m).transition

    bears : ℕ → Bool
    bears m = not (eqb (borne-by m) 255)

    owner : AllowedMove (flatten c) ν ms → (m : ℕ) → Mem m ms × (bears m ≡ true) → owner_of (flatten c) (edge_at (flatten c) m) ≡ automaton c (home c (borne-by m))
    owner s m i = bearer c (edge_at_mem (flatten c) m (s.are_known.each m i.0)) (eqb-false _ 255 (not-true _ i.1))

    same : AllowedMove (flatten c) ν ms → (a b : ℕ) → Mem a ms × (bears a ≡ true) → Mem b ms × (bears b ≡ true) → borne-by a ≡ borne-by b → a ≡ b
    same s a b i j e = s.is_allowed_lem.owners a b i.0 j.0 (owner s a i ∙ ap (λ (t : ℕ). automaton c (home c t)) e ∙ sym (owner s b j))

-- an edge that is active in a picture leaves a place that is not urgent
pub no_urgent_move : NoUrgentMove
unfolding is_urgent urgent_at Accepts
no_urgent_move c passed ranges σ h ms k = none_any _ ms (λ m i.
    let s = (accepted_at (flatten c) (picture c σ) ms k.1).tests in
    let fits = pictured_fits c σ (configuration_tree c σ h) in
    let l = active_leaves c passed (pictured c σ) σ.variables σ.clocks fits (edge_at_mem (flatten c) m (s.are_known.each m i))
    (ap (λ (ν : NetworkConfiguration). active_edge (flatten c) ν (edge_at (flatten c) m)) (sym (picture_stands c σ)) ∙ s.each_active m i) in
    ap (λ (x : ℕ). eqb x 1) (ap (λ (x : ℕ). (location_at (flatten c) x).urgent) (source_of c (pictured c σ l.0) _ l.2) ∙ urgent_of_place c (fits l.0 l.1).is_place ∙ pictured_not_urgent c σ l.0))
