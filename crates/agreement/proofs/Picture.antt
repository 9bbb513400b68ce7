-- The picture of a configuration: it is what is related with nothing owed (`settled_is_picture`, `picture_is_settled`); the
-- network starts in the picture of the chart's start (`start_is_picture`); waits get the same answer (`waits_alike`) and lead
-- to a picture (`wait_is_picture`), so the longest is the same (`longest_alike`).
use mathlib.Core.Path.{◌≡◌, refl, sym, ap, ◌∙◌, subst, subst₂}
use mathlib.Core.Bool.{Bool, true, false, cond, not, ◌&&◌, xor}
use mathlib.Core.List.Memᴰ.{not-nil}
use mathlib.Core.List.{List, [], ◌∷◌, map, Memᴰ as Mem}
use Prim.Native.Nat.{ℕ, ◌+◌, ◌≤◌, ◌<◌}
use native.Mathlib.Omega.{arith}
use borrow.Author.Tests.{lt-ltb, ltb-true}
use lib.Dec.{eqb, ltb, leb}
use lib.IntN.{ℤ, pos}
use lib.ListN.{length, get_or, replicate}
use Rattle.lists.specs.Lists.{below, bits_of}
use Rattle.reading.specs.Answer.{done, unless}
use Rattle.clocks.specs.Clocks.{later, in_limit, zero_past, zeros_past}
use Rattle.lists.proofs.Bools.{parts, and_r, both, not_yes}
use Rattle.lists.proofs.Lists.{get_d_mem, mem_some, none_any, map_same}
use Rattle.lists.proofs.Bits.{bits_same}
use Rattle.reading.proofs.Answer.{unless_at, unless_by, done_injective}
use Rattle.clocks.proofs.Rows.{ClockValues, values_in_limit, zero_past_later}
use Rattle.clocks.proofs.Longest.{tells_same}
use Rattle.chart_records.specs.Chart.{Chart}
use Rattle.chart_records.specs.Tree.{sequentials, entered}
use Rattle.chart_moves.specs.Machine as chart
use Rattle.chart_records.proofs.Entered.{entered_child, entered_marked}
use Rattle.chart_records.proofs.Rules.{Passed}
use Rattle.chart_records.proofs.Ranges.{Ranges}
use Rattle.chart_moves.proofs.After.{start_active}
use Rattle.chart_moves.proofs.Step.{configuration_tree, configuration_clocks, configuration_bounds, root_entry, start_tree, start_configuration}
use Rattle.chart_moves.proofs.Longest.{longest_tells as chart_longest}
use Rattle.network_records.specs.Network.{initials}
use Rattle.network_moves.specs.Machine as network
use Rattle.network_moves.proofs.Longest.{longest_tells as network_longest}
use Rattle.flattening.specs.Flatten.{Place, idle, child, number, flag_at, at_exit, initial_place, marked_child, flatten}
use Rattle.flattening.specs.Picture.{pictured, picture}
use Rattle.flattening.proofs.Automata.{Region, region_at, region_at_lem, marked_child_lem}
use Rattle.flattening.proofs.Sound.{initials_at, initials_by}
use Rattle.flattening.proofs.Bounds.{bounds_pictured}
use Rattle.flattening.proofs.Pictured.{pictured_idle, pictured_child, pictured_fits, pictured_not_urgent}
use Rattle.agreement.specs.Agreement.{ChartConfiguration, Accepts, Alike}
use Rattle.agreement.proofs.Relation.{standing, Pending, owes, owes_all}
use Rattle.agreement.proofs.Claims.{SettledIsPicture, PictureIsSettled, StartIsPicture, StartIsConfiguration, WaitsAlike, WaitIsPicture, LongestAlike}
use Rattle.agreement.proofs.Accepted.{alike_accepts, alike_by}
use Rattle.agreement.proofs.Standing.{picture_stands, bounds_standing, urgent_standing, configuration_standing}

-- what stands for each automaton, and nothing past them
automata_same : (c : Chart) {A : Type 0} (f g : ℕ → A) (z : A) → ((a : ℕ) → a < length (sequentials c) → f a ≡ g a)
    → map (λ a. cond (ltb a (length (sequentials c))) (f a) z) (below 16) ≡ map (λ a. cond (ltb a (length (sequentials c))) (g a) z) (below 16)
automata_same c {A} f g z h = map_same _ _ (below 16) (λ a m. go a (ltb a (length (sequentials c))) refl)
  where
    go : (a : ℕ) (b : Bool) → ltb a (length (sequentials c)) ≡ b → cond b (f a) z ≡ cond b (g a) z
    go a true e = h a (ltb-true a _ e)
    go a false e = refl

-- where two have each automaton at the same place, they stand alike
pub standing_same : (c : Chart) (f g : ℕ → Place) (vs : List ℤ) (cs : List ℕ) → ((q : ℕ) → Region c q → f q ≡ g q) → standing c f vs cs ≡ standing c g vs cs
unfolding standing
standing_same c f g vs cs h =
    let ls = automata_same c (λ a. number c (f (region_at c a))) (λ a. number c (g (region_at c a))) 0 (λ a l. ap (number c) (h _ (region_at_lem c a l))) in
    let fs = automata_same c (λ a. bits_of (flag_at c (region_at c a) (f (region_at c a))) 8) (λ a. bits_of (flag_at c (region_at c a) (g (region_at c a))) 8) 0 (λ a l. ap (λ (p : Place). bits_of (flag_at c (region_at c a) p) 8) (h _ (region_at_lem c a l))) in
    λ i. record { locations = ls i; flags = fs i; variables = vs; clocks = cs }

-- every pending transition owes a move
owes_some : (c : Chart) (p : Pending) → 1 ≤ owes c p
unfolding owes
owes_some c p = go p.leaving _
  where
    go : (b : Bool) (n : ℕ) → 1 ≤ cond b (1 + n) 1
    go true n = omega arith
    go false n = omega arith

none_pending : (c : Chart) (ps : List Pending) → 0 ≡ owes_all c ps → {p : Pending} → Mem p ps → ⊥
unfolding owes_all
none_pending c [] e m = not-nil m
none_pending c (p ∷ ps) e m = omega (arith, owes_some c p)

pub settled_is_picture : SettledIsPicture
settled_is_picture c passed ranges σ ν r =
    r.network_is ∙ standing_same c r.places (pictured c σ) σ.variables σ.clocks (λ q g. r.placed.others q g (λ p m. absurd (none_pending c r.pending r.owed_is m))) ∙ sym (picture_stands c σ)

-- the network in the picture of a tree
module _ (c : Chart) (passed : Passed c) (ranges : Ranges c) (σ : ChartConfiguration) (tree : chart.is_tree c σ ≡ true) where
  -- it keeps the bounds, just if the chart does
  pub bounds_picture : ClockValues σ.clocks → network.bounds_kept (flatten c) (picture c σ) ≡ chart.bounds_kept c σ
  bounds_picture values =
      ap (network.bounds_kept (flatten c)) (picture_stands c σ) ∙ bounds_standing c passed (pictured c σ) σ.variables σ.clocks (pictured_fits c σ tree)
      ∙ sym (bounds_pictured c passed ranges σ tree values)

  -- no urgent place is occupied
  pub picture_not_urgent : network.urgent (flatten c) (picture c σ) ≡ false
  picture_not_urgent =
      ap (network.urgent (flatten c)) (picture_stands c σ) ∙ urgent_standing c passed (pictured c σ) σ.variables σ.clocks (pictured_fits c σ tree)
      ∙ none_any _ (sequentials c) (λ q m. ap (λ (n : ℕ). eqb n 1) (pictured_not_urgent c σ q))

module _ (c : Chart) (passed : Passed c) (ranges : Ranges c) (σ : ChartConfiguration) (h : chart.is_configuration c σ ≡ true) where
  pub picture_bounds_kept : network.bounds_kept (flatten c) (picture c σ) ≡ true
  picture_bounds_kept = bounds_picture c passed ranges σ (configuration_tree c σ h) (configuration_clocks c σ h) ∙ configuration_bounds c σ h

  -- the picture of a configuration is a configuration
  pub picture_configuration : network.is_configuration (flatten c) (picture c σ) ≡ true
  picture_configuration =
      ap (network.is_configuration (flatten c)) (picture_stands c σ) ∙ configuration_standing c passed (pictured c σ) (pictured_fits c σ (configuration_tree c σ h)) σ h
      ∙ ap (network.bounds_kept (flatten c)) (sym (picture_stands c σ)) ∙ picture_bounds_kept

pub picture_is_settled : PictureIsSettled
unfolding owes_all
picture_is_settled c passed ranges σ h = record {
  configured = h;
  places = pictured c σ;
  pending = [];
  placed = record { each = λ p m. absurd (not-nil m); apart = λ p r m k u. absurd (not-nil m); once = tt; others = λ q g f. refl };
  network_is = picture_stands c σ;
  bounds_kept_lem = picture_bounds_kept c passed ranges σ h;
  owed_is = refl;
}

-- the start

pub start_is_configuration : StartIsConfiguration
start_is_configuration c passed ranges = start_configuration c passed ranges

-- where an automaton starts
module _ (c : Chart) (passed : Passed c) (ranges : Ranges c) where
  known_root : 0 < length c.states
  known_root = omega (arith, ranges.states_some)

  started : {s : ℕ} → s < length c.states → chart.is_active (chart.start c) s ≡ entered c 0 0 s
  started {s} h = start_active c ranges.states_few s ∙ ap (λ (b : Bool). b && entered c 0 0 s) (lt-ltb s (length c.states) h)

  pub initial_pictured : {q : ℕ} → Region c q → initial_place c q ≡ pictured c (chart.start c) q
  unfolding initial_place
  initial_pictured {q} g = go (entered c 0 0 q) refl
    where
      go : (b : Bool) → entered c 0 0 q ≡ b → cond b (child (marked_child c q 0)) (idle q) ≡ pictured c (chart.start c) q
      go true e =
          let m = marked_child_lem c passed.entry_marks_lem q 0 g ranges.entries_some (entered_marked c passed.tree passed.entry_marks_lem 0 known_root q (omega arith) e) in
          sym (pictured_child c (chart.start c) (start_tree c passed ranges) g m.0 (started m.0.known ∙ entered_child c passed.tree passed.entry_marks_lem 0 known_root q (marked_child c q 0) (root_entry c passed ranges) m.0 e m.1))
      go false e = sym (pictured_idle c (chart.start c) q (started g.known ∙ e))

  -- its flags are 0
  initial_flags : {q : ℕ} → Region c q → 0 ≡ bits_of (flag_at c q (pictured c (chart.start c) q)) 8
  unfolding flag_at bits_of
  initial_flags {q} g = sym (ap (λ (p : Place). bits_of (flag_at c q p) 8) (sym (initial_pictured g)) ∙ bits_same _ (λ e. false) 8 (λ e l. alike (at_exit c (initial_place c q) e)))
    where
      alike : (b : Bool) → xor b b ≡ false
      alike true = unfold xor in refl
      alike false = unfold xor in refl

  -- its location is the one that is initial
  initial_location : (a : ℕ) → a < length (sequentials c) → get_or (initials (flatten c) a) 0 0 ≡ number c (pictured c (chart.start c) (region_at c a))
  initial_location a h = initials_at c passed ranges a h (get_d_mem (initials (flatten c) a) 0 0 (mem_some (initials_by c passed ranges a h))) ∙ ap (number c) (initial_pictured (region_at_lem c a h))

pub start_is_picture : StartIsPicture
unfolding network.start chart.start picture flatten below
start_is_picture c passed ranges =
    let ls = automata_same c (λ a. get_or (initials (flatten c) a) 0 0) (λ a. number c (pictured c (chart.start c) (region_at c a))) 0 (initial_location c passed ranges) in
    let fs : replicate 16 0 ≡ (picture c (chart.start c)).flags =
    map_same (λ a. 0) (λ a. cond (ltb a (length (sequentials c))) 0 0) (below 16) (λ a m. none (ltb a (length (sequentials c))))
    ∙ automata_same c (λ a. 0) (λ a. bits_of (flag_at c (region_at c a) (pictured c (chart.start c) (region_at c a))) 8) 0 (λ a l. initial_flags c passed ranges (region_at_lem c a l)) in
    λ i. record { locations = ls i; flags = fs i; variables = replicate 16 (pos 0); clocks = replicate 8 0 }
  where
    none : (b : Bool) → ◌≡◌ {A = ℕ} 0 (cond b 0 0)
    none true = refl
    none false = refl

-- waits

-- the two machines test the same two things, and lead on to a configuration and its picture
module _ (c : Chart) (passed : Passed c) (ranges : Ranges c) (σ : ChartConfiguration) (h : chart.is_configuration c σ ≡ true) (d : ℕ) where
  abbrev waited : ChartConfiguration
  waited = record { active = σ.active; variables = σ.variables; clocks = later c.clocks d σ.clocks }

  abbrev in_time : Bool
  in_time = leb 1 d && in_limit c.clocks (later c.clocks d σ.clocks)

  waited_tree : chart.is_tree c waited ≡ true
  unfolding chart.is_tree chart.is_active
  waited_tree = configuration_tree c σ h

  waited_zeros : zero_past c.clocks waited.clocks ≡ true
  unfolding chart.is_configuration
  waited_zeros = zero_past_later c.clocks d σ.clocks ∙ search parts

  waited_values : in_time ≡ true → ClockValues waited.clocks
  waited_values t = values_in_limit c.clocks waited.clocks (and_r (leb 1 d) _ t) waited_zeros

  waited_configuration : in_time ≡ true → chart.bounds_kept c waited ≡ true → chart.is_configuration c waited ≡ true
  unfolding chart.is_configuration
  waited_configuration t k = both waited_tree (both {a = zeros_past c.variables σ.variables} (search parts) (both (and_r (leb 1 d) _ t) (both waited_zeros k)))

  chart_waits : chart.wait c σ d ≡ unless 22 in_time (unless 21 (chart.bounds_kept c waited) (done waited))
  unfolding chart.wait chart.tested
  chart_waits = unless_by 17 _ h

  network_waits : network.wait (flatten c) (picture c σ) d ≡ unless 22 in_time (unless 21 (chart.bounds_kept c waited) (done (picture c waited)))
  unfolding network.wait network.tested flatten picture pictured chart.is_active
  network_waits = unless_by 26 _ (picture_configuration c passed ranges σ h) ∙ go in_time refl
    where
      go : (b : Bool) → in_time ≡ b
          → unless 22 b (unless 27 (not (network.urgent (flatten c) (picture c σ))) (unless 21 (network.bounds_kept (flatten c) (picture c waited)) (done (picture c waited))))
          ≡ unless 22 b (unless 21 (chart.bounds_kept c waited) (done (picture c waited)))
      go true t = unfold unless in unless_by 27 _ (not_yes (picture_not_urgent c passed ranges σ (configuration_tree c σ h)))
          ∙ ap (λ (b : Bool). unless 21 b (done (picture c waited))) (bounds_picture c passed ranges waited waited_tree (waited_values t))
      go false t = unfold unless in refl

pub waits_alike : WaitsAlike
waits_alike c passed ranges σ h d = subst₂ Alike (sym (network_waits c passed ranges σ h d)) (sym (chart_waits c passed ranges σ h d)) (alike_by 22 21 _ _ _ _)

pub wait_is_picture : WaitIsPicture
unfolding chart.wait
wait_is_picture c passed ranges σ τ d e =
    let h = (unless_at 17 _ _ e).0 in
    let t = unless_at 22 _ _ (sym (chart_waits c passed ranges σ h d) ∙ e) in
    let k = unless_at 21 _ _ t.1 in
    let s = done_injective k.1 in (
      network_waits c passed ranges σ h d ∙ unless_by 22 _ t.0 ∙ unless_by 21 _ k.0 ∙ ap (λ (x : ChartConfiguration). done (picture c x)) s,
      subst (λ (x : ChartConfiguration). chart.is_configuration c x ≡ true) s (waited_configuration c passed ranges σ h d t.0 k.0),
    )

-- each tells the longest wait, and they accept the same
pub longest_alike : LongestAlike
unfolding network.longest chart.longest flatten Accepts
longest_alike c passed ranges σ h =
    let e = unless_by 26 _ (picture_configuration c passed ranges σ h) in
    let f = unless_by 17 _ h in
    let same = tells_same (network_longest (flatten c) (picture c σ) ranges.clocks_few) (chart_longest c σ ranges.clocks_few) e f
    (λ d a. alike_accepts _ _ (waits_alike c passed ranges σ h d) a)
    (λ d a. (picture c a.0, (wait_is_picture c passed ranges σ a.0 d a.1).0)) in
    e ∙ ap done same ∙ sym f
