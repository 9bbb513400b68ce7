-- Transition records in a checked file: where each stands, and where its fields do.
use mathlib.Core.Path.{◌≡◌, refl, sym, ap, ap₂, ◌∙◌, subst}
use mathlib.Core.Bool.{Bool, true, ◌&&◌}
use mathlib.Core.Logic.{◌⊎◌}
use mathlib.Core.List.{List, [], ◌∷◌, ◌++◌}
use Prim.Native.Nat.{ℕ, ◌+◌, ◌≤◌, ◌<◌}
use native.Mathlib.Omega.{arith}
use native.Mathlib.Decide.{ℕ_discrete}
use lib.ListN.{length, get_or, set, get_or-append, length-set}
use lib.Seq.{get_or-set_same, get_or-set_other, get_or-append_seam}
use Rattle.lists.specs.Lists.{all}
use Rattle.reading.specs.Reading.{Fault, got, fault, Reader, byte2, many, recorded, mapped}
use Rattle.labels.specs.Label.{limits, body, label}
use Rattle.labels.specs.declared.label.Limits.{Limits}
use Rattle.reading.specs.Places.{onward}
use Rattle.reading.proofs.Reading.{got_value, bind_at, yield_at, mapped_got, mapped_at, fault_at}
use Rattle.reading.proofs.Lengths.{byte2_consumes, recorded_all}
use Rattle.reading.proofs.Places.{onward_onward}
use Rattle.labels.proofs.Labels.{label_parts}
use Rattle.reading.proofs.Sizes.{byte2_takes, recorded_part, byte_here}
use Rattle.lists.proofs.Lists.{all_more}
use Rattle.reading.proofs.Many.{Going, going_none, going_more, going_stop, going_all}
use Rattle.chart_records.specs.Chart.{Chart, Transition, transition, transition_at}
use Rattle.chart_records.specs.Layout.{transition_by}
use Rattle.chart_records.specs.Laid.{Laid}
use Rattle.chart_records.specs.declared.header.Counts.{Counts}
use Rattle.chart_records.proofs.Ranges.{transition_range}

-- the fields of a transition whose record stands at a place
pub record Parts (l : Limits) (s : List ℕ) (at : ℕ) (x : Transition) : Type 0 where
  pub source : get_or s (at + 2) 0 ≡ x.source
  pub destination : get_or s (at + 3) 0 ≡ x.destination
  pub exit : get_or s (at + 4) 0 ≡ x.exit
  pub entry : get_or s (at + 5) 0 ≡ x.entry
  pub signal : get_or s (at + 6) 0 ≡ x.label.signal
  pub channel : get_or s (at + 7) 0 ≡ x.label.channel
  pub resets : get_or s (at + 8) 0 ≡ x.label.resets
  pub content : (t : List ℕ) × (body l (onward s (at + 9)) ≡ got x.label.body t)

parts_of : (states entries exits : ℕ) (l : Limits) (channels : ℕ) (s p v : List ℕ) (at : ℕ) {x : Transition} {w : List ℕ} → p ++ v ≡ onward s (at + 2) → transition states entries exits l channels p ≡ got x w → Parts l s at x
unfolding transition
parts_of states entries exits l channels s p v at {x} {w} e h =
    let a = byte_here s v at 2 _ _ p e h in
    let d = byte_here s v at 3 _ _ a.1 a.3 a.4 in
    let o = byte_here s v at 4 _ _ d.1 d.3 d.4 in
    let i = byte_here s v at 5 _ _ o.1 o.3 o.4 in
    let b = bind_at (label l channels) _ i.1 i.4 in
    let f = label_parts l channels s i.1 v at 6 i.3 b.2 in
    subst (Parts l s at) (yield_at b.1 b.3) (record {
      source = a.2;
      destination = d.2;
      exit = o.2;
      entry = i.2;
      signal = f.signal;
      channel = f.channel;
      resets = f.resets;
      content = f.content;
    })

pub parts : (n : Counts) (s : List ℕ) (at : ℕ) {x : Transition} {t : List ℕ} → recorded byte2 (transition_by n) (onward s at) ≡ got x t → Parts (limits n.version n.clocks n.variables) s at x
parts n s at h =
    let w = recorded_part byte2 (transition_by n) (onward s at) h in
    parts_of n.states n.entries n.exits _ _ s w.2 w.3 at (w.6 ∙ byte2_takes _ _ _ w.5 ∙ onward_onward s at 2) w.7

-- the fields of a chart's transition, where its offset says
pub laid_parts : {rest : List ℕ} {n : Counts} {offsets : List ℕ} {c : Chart} → Laid rest n offsets c → (t : ℕ) → t < n.transitions → Parts (limits n.version n.clocks n.variables) rest (get_or offsets t 0) (transition_at c t)
unfolding transition_at
laid_parts {rest} {n} {offsets} L t h = parts n rest (get_or offsets t 0) (L.placed t h).1

-- its exit is one that the header declares, or none
pub laid_exit : {rest : List ℕ} {n : Counts} {offsets : List ℕ} {c : Chart} → Laid rest n offsets c → (t : ℕ) → t < n.transitions → ((transition_at c t).exit < n.exits) ⊎ ((transition_at c t).exit ≡ 255)
unfolding transition_at
laid_exit {rest} {n} {offsets} L t h =
    let u = recorded_all 2 byte2 byte2_consumes _ (onward rest (get_or offsets t 0)) (L.placed t h).1 in
    (transition_range n.states n.entries n.exits (limits n.version n.clocks n.variables) (n.rendezvous + n.broadcasts) u.0 u.1).exit_known

-- a loop that reads so many elements, tests each, and keeps where each stands
pub record Kept {A : Type 0} (r : Reader A) (d : A) (p : A → Bool) (n : ℕ) (rest b left : List ℕ) (i : ℕ) (passed : Bool) (offsets : List ℕ) : Type 0 where
  pub seen : List A
  pub going : Going r n b left i seen
  pub tested : passed ≡ all p seen
  pub long : length offsets ≡ 64
  pub placed : length rest ≤ 65536 → (j : ℕ) → j < i → (t : List ℕ) × (r (onward rest (get_or offsets j 0)) ≡ got (get_or seen j d) t)

module _ {A : Type 0} (r : Reader A) (d : A) (p : A → Bool) (n : ℕ) (rest b : List ℕ) where
  pub kept_none : {offsets : List ℕ} → length offsets ≡ 64 → Kept r d p n rest b b 0 true offsets
  unfolding all
  kept_none e = record { seen = []; going = going_none r n b; tested = refl; long = e; placed = λ l j h. absurd (omega arith) }

  module _ {left : List ℕ} {i : ℕ} {passed : Bool} {offsets : List ℕ} (K : Kept r d p n rest b left i passed offsets) where
    pub kept_more : (place : ℕ) {o : ℕ} {x y : Bool} {t : List ℕ} → left ≡ onward rest place → i < n → i < 64 → (length rest ≤ 65536 → o ≡ place) → mapped p (r left) ≡ got x t → y ≡ (passed && x) → Kept r d p n rest b t (i + 1) y (set offsets i o)
    kept_more place {o} {x} {y} {t} e h k g q f =
        let w = mapped_at p (r left) q in
        let c = K.going.count in
        record {
          seen = K.seen ++ (w.0 ∷ []);
          going = going_more r n b K.going h w.1;
          tested = f ∙ ap₂ ◌&&◌ K.tested (sym w.2) ∙ sym (all_more p K.seen w.0);
          long = length-set offsets i o ∙ K.long;
          placed = λ l j m. elim (ℕ_discrete i j) [
            | yes z ↦ subst (λ (j : ℕ). (t : List ℕ) × (r (onward rest (get_or (set offsets i o) j 0)) ≡ got (get_or (K.seen ++ (w.0 ∷ [])) j d) t)) z
                (t, ap (λ (q : ℕ). r (onward rest q)) (get_or-set_same offsets i o 0 (omega (arith, K.long)) ∙ g l) ∙ ap r (sym e) ∙ w.1 ∙ ap (λ (a : A). got a t) (sym (ap (λ (q : ℕ). get_or (K.seen ++ (w.0 ∷ [])) q d) (sym c) ∙ get_or-append_seam K.seen w.0 [] d)))
            | no z ↦ let u = K.placed l j (omega arith) in
                (u.0, ap (λ (q : ℕ). r (onward rest q)) (get_or-set_other offsets i j o 0 (λ (q : j ≡ i). z (sym q))) ∙ u.1 ∙ ap (λ (a : A). got a u.0) (sym (get_or-append K.seen (w.0 ∷ []) d j (omega (arith, c)))))
          ];
        }

    pub kept_stop : {f : Fault} → i < n → mapped p (r left) ≡ fault f → many n r b ≡ fault f
    kept_stop h q = going_stop r n b K.going h (fault_at p (r left) q)

    pub kept_all : n ≤ i → mapped (all p) (many n r b) ≡ got passed left
    kept_all h = mapped_got (all p) (going_all r n b K.going h).0 ∙ ap (λ (x : Bool). got x left) (sym K.tested)

    pub kept_placed : n ≤ i → {xs : List A} {t : List ℕ} → length rest ≤ 65536 → many n r b ≡ got xs t → (j : ℕ) → j < n → (t : List ℕ) × (r (onward rest (get_or offsets j 0)) ≡ got (get_or xs j d) t)
    kept_placed h {xs} l q j m =
        subst (λ (ys : List A). (t : List ℕ) × (r (onward rest (get_or offsets j 0)) ≡ got (get_or ys j d) t)) (got_value (sym (going_all r n b K.going h).0 ∙ q)) (K.placed l j (omega arith))
