-- What is read of an edge, and where.
use mathlib.Core.Path.{◌≡◌, refl, sym, ap, ap₂, ◌∙◌, subst}
use mathlib.Core.Bool.{Bool, true, ◌&&◌}
use mathlib.Core.List.{List, [], ◌∷◌, ◌++◌}
use Prim.Native.Nat.{ℕ, ◌+◌, ◌≤◌, ◌<◌}
use native.Mathlib.Omega.{arith}
use native.Mathlib.Decide.{ℕ_discrete}
use borrow.Author.Tests.{leb-true}
use lib.Dec.{leb}
use lib.ListN.{length, get_or, set, length-append, length-set, get_or-append}
use lib.Seq.{get_or_at, get_or-set_same, get_or-set_other}
use Rattle.reading.specs.Reading as reading
use Rattle.reading.specs.Reading.{Read, got, fault, byte2, many, recorded, mapped}
use Rattle.lists.specs.Lists.{all}
use Rattle.reading.specs.Places.{onward}
use Rattle.labels.specs.Label.{Label, Heading, heading, assigns_once}
use Rattle.labels.specs.Headings.{heading_of}
use Rattle.labels.specs.declared.label.Label as code
use Rattle.lists.proofs.Lists.{all_more}
use Rattle.reading.proofs.Reading.{mapped_got, mapped_fault, mapped_at, fault_at, got_value}
use Rattle.reading.proofs.Many.{Going, going_none, going_more, going_stop, going_all}
use Rattle.network_records.specs.Network.{Edge, in_range}
use Rattle.network_records.specs.Edges.{edge_in, keeps_once, EdgesAt}
use Rattle.network_records.specs.declared.header.Counts.{Counts}
use Rattle.lists.proofs.Bools.{parts}

-- counts in range are small
module _ (k : Counts) (h : in_range k ≡ true) where
  pub few_channels : k.rendezvous + k.broadcasts ≤ 160
  few_channels =
      let a : leb k.rendezvous 16 ≡ true = search parts depth 12 in
      let b : leb k.broadcasts 144 ≡ true = search parts depth 12 in
      omega (arith, leb-true k.rendezvous 16 a, leb-true k.broadcasts 144 b)

  pub few_edges : k.edges ≤ 1024
  few_edges = let a : leb k.edges 1024 ≡ true = search parts depth 12 in leb-true k.edges 1024 a

-- whether the label of an edge keeps rule 13, by what the code has of the label
module _ (q : Read Label) where
  pub label_kept : (s : List ℕ) (l : code.Label) {t : List ℕ} → got (heading_of s l) t ≡ mapped heading q → got l.once t ≡ mapped assigns_once q
  unfolding heading
  label_kept s l {t} h = let w = mapped_at heading q (sym h) in sym (mapped_got assigns_once w.1 ∙ ap (λ (x : Heading). got x.once t) w.2)

  pub label_faulty : {f : reading.Fault} → fault f ≡ mapped heading q → fault f ≡ mapped assigns_once q
  label_faulty h = sym (mapped_fault assigns_once (fault_at heading q (sym h)))

-- the pass over the edges, which puts down the offset of each
pub record Edging (k : Counts) (s : List ℕ) (at place i : ℕ) (once : Bool) (before offsets : List ℕ) : Type 0 where
  pub seen : List Edge
  pub going : Going (recorded byte2 (edge_in k)) k.edges (onward s at) (onward s place) i seen
  pub keeps : once ≡ all keeps_once seen
  pub put_down : length before ≡ 1024 → (length offsets ≡ 1024) × EdgesAt k s offsets seen

module _ (k : Counts) (s : List ℕ) (at : ℕ) (before : List ℕ) where
  pub edging_none : Edging k s at at 0 true before before
  unfolding all
  edging_none = record { seen = []; going = going_none _ _ _; keeps = refl; put_down = λ f. (f, λ i l d. absurd (omega arith)) }

  module _ {place i : ℕ} {once : Bool} {offsets : List ℕ} (E : Edging k s at place i once before offsets) where
    pub edging_more : {n : ℕ} {b : Bool} → i < k.edges → k.edges ≤ 1024 → mapped keeps_once (recorded byte2 (edge_in k) (onward s place)) ≡ got b (onward s n)
        → Edging k s at n (i + 1) (once && b) before (set offsets i place)
    edging_more {n} h m g = let w = mapped_at keeps_once _ g in let e = w.0 in record {
      seen = E.seen ++ (e ∷ []);
      going = going_more _ _ _ E.going h w.1;
      keeps = ap₂ ◌&&◌ E.keeps (sym w.2) ∙ sym (all_more _ E.seen e);
      put_down = λ f. (length-set offsets i place ∙ (E.put_down f).0, λ j l d. placed e w.1 f j l d (ℕ_discrete j i));
    }
      where
        placed : (e : Edge) → recorded byte2 (edge_in k) (onward s place) ≡ got e (onward s n) → length before ≡ 1024 → (j : ℕ) → j < length (E.seen ++ (e ∷ [])) → (d : Edge) → Dec (j ≡ i)
            → (t : List ℕ) × (recorded byte2 (edge_in k) (onward s (get_or (set offsets i place) j 0)) ≡ got (get_or (E.seen ++ (e ∷ [])) j d) t)
        placed e g f j l d (yes p) =
            let x : get_or (set offsets i place) j 0 ≡ place = ap (λ (x : ℕ). get_or (set offsets i place) x 0) p ∙ get_or-set_same offsets i place 0 (omega (arith, (E.put_down f).0)) in
            let y : get_or (E.seen ++ (e ∷ [])) j d ≡ e = get_or_at E.seen e [] d j (E.going.count ∙ sym p) in
            (onward s n, rw (x, y) g)
        placed e g f j l d (no p) =
            let z : j < length E.seen = omega (arith, p, length-append E.seen (e ∷ []), E.going.count) in
            let w = (E.put_down f).1 j z d in
            let x : get_or (set offsets i place) j 0 ≡ get_or offsets j 0 = get_or-set_other offsets i j place 0 p in
            let y : get_or (E.seen ++ (e ∷ [])) j d ≡ get_or E.seen j d = get_or-append E.seen (e ∷ []) d j z in
            (w.0, rw (x, y) w.1)

    pub edging_stop : {f : reading.Fault} → i < k.edges → mapped keeps_once (recorded byte2 (edge_in k) (onward s place)) ≡ fault f
        → many k.edges (recorded byte2 (edge_in k)) (onward s at) ≡ fault f
    edging_stop h q = going_stop _ _ _ E.going h (fault_at keeps_once _ q)

    pub edging_all : k.edges ≤ i → got once (onward s place) ≡ mapped (all keeps_once) (many k.edges (recorded byte2 (edge_in k)) (onward s at))
    edging_all h = ap (λ (b : Bool). got b (onward s place)) E.keeps ∙ sym (mapped_got _ (going_all _ _ _ E.going h).0)

    pub edging_at : k.edges ≤ i → length before ≡ 1024 → (es : List Edge) (t : List ℕ) → many k.edges (recorded byte2 (edge_in k)) (onward s at) ≡ got es t → EdgesAt k s offsets es
    edging_at h f es t q = subst (EdgesAt k s offsets) (got_value (sym (going_all _ _ _ E.going h).0 ∙ q)) (E.put_down f).1
