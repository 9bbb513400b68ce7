-- Sets of transitions or edges by their members: what `allowed` says (`allowed_set_at`, `allowed_set_by`), that two sets
-- whose members correspond are allowed alike (`allowed_alike`), that their updates stay in the range alike (`stay_alike`), and
-- that they do the same to variables and clocks (`variables_alike`, `clocks_alike`), in whatever orders they are listed.
use mathlib.Core.Path.{◌≡◌, refl, sym, ap, ◌∙◌, subst}
use mathlib.Core.Bool.{Bool, true, false, cond, not, ◌&&◌, ◌||◌}
use mathlib.Core.Logic.{◌⊎◌, inl, inr, ⊎_elim, ◌≢◌}
use mathlib.Core.List.Memᴰ.{head as here}
use mathlib.Core.List.Memᴰ.{tail as there}
use mathlib.Core.List.{List, [], ◌∷◌, map, Memᴰ as Mem}
use mathlib.Core.List.Memᴰ.{cases_cons}
use mathlib.Core.List.Memᴰ.{cast}
use mathlib.Core.List.Memᴰ.{not-nil}
use Prim.Native.Nat.{ℕ, ◌≤◌, ◌<◌}
use native.Mathlib.Omega.{arith}
use borrow.Author.Tests.{eqb-true, eq-eqb, ne_eqb, ltb-true, ltb-false, lt-ltb, le-ltb, not-true}
use lib.Dec.{eqb, ltb}
use lib.IntN.{ℤ}
use lib.ListN.{length, get_or}
use lib.Seq.{ext_get_or}
use Rattle.lists.specs.Lists.{has, all, any, keep, below, elem, ascending, distinct}
use Rattle.updates.specs.Update.{Update, stays, assign}
use Rattle.labels.specs.Label.{Label, sends, receives}
use Rattle.clocks.specs.Clocks.{reset}
use Rattle.steps.specs.Moves.{allowed, senders, one_sends, maximal, all_stay, variables_after, clocks_after}
use Rattle.lists.proofs.Bools.{clash, decided, fails, and_l, and_r, both, or_l, or_r, or_cases, not_yes, same}
use Rattle.lists.proofs.Once.{Once, once_keep, one_length, partners_length, within_length, distinct_at, distinct_by, once_map}
use Rattle.lists.proofs.Concat.{concat_at, concat_by, concat_map, concat_one}
use Rattle.lists.proofs.Lists.{all_at, all_by, any_at, any_by, keep_at, keep_by, map_at, map_by, elem_at, elem_by, mem_some, one_mem, in_two}
use Rattle.lists.proofs.Below.{below_at, below_by, length_below, all_below, below_all}
use Rattle.lists.proofs.Ascending.{ascending_below, ascending_keep}
use Rattle.lists.proofs.Pairwise.{map_once_on, once_of_map}
use Rattle.clocks.proofs.Clocks.{length_reset, get_d_reset}
use Rattle.labels.proofs.Labels.{Sends, Receives, sends_at, sends_by, receives_at, receives_by}

-- the numbers below n that pass a test, in order
module _ (p : ℕ → Bool) (n : ℕ) where
  pub passing_at : {x : ℕ} → Mem x (keep p (below n)) → (x < n) × (p x ≡ true)
  passing_at m = let r = keep_at p (below n) m in (below_at n r.0, r.1)

  pub passing_by : {x : ℕ} → x < n → p x ≡ true → Mem x (keep p (below n))
  passing_by l h = keep_by p (below n) (below_by l) h

  pub passing_ascending : ascending (keep p (below n)) ≡ true
  passing_ascending = ascending_keep p (below n) (ascending_below n)

-- a list without repetition of elements with values below n, each its own, has at most n
pub values_length : {A : Type 0} (f : A → ℕ) (n : ℕ) (xs : List A) → Once xs → ((x : A) → Mem x xs → f x < n) →
    ((x y : A) → Mem x xs → Mem y xs → f x ≡ f y → x ≡ y) → length xs ≤ n
values_length f n xs o g h =
    omega (
      arith,
      length_below n,
      partners_length (λ x i. Mem x xs × (f x ≡ i)) xs (below n) o (λ x m. (f x, below_by (g x m), (m, refl))) (λ x z i p q. h x z p.0 q.0 (p.1 ∙ sym q.1)),
    )

-- a list with one element besides x
pub record OneOther {A : Type 0} (x : A) (xs : List A) : Type 0 where
  pub other : A
  pub is_member : Mem other xs
  pub differs : other ≢ x
  pub only : (y : A) → Mem y xs → (y ≡ x) ⊎ (y ≡ other)

pub two_mem : {A : Type 0} (xs : List A) → length xs ≡ 2 → Once xs → (x : A) → Mem x xs → OneOther x xs
two_mem [] h o x m = absurd (omega arith)
two_mem (a ∷ []) h o x m = absurd (omega arith)
two_mem (a ∷ (b ∷ [])) h o x m = ⊎_elim
    (λ e. record { other = b; is_member = there (here refl); differs = λ q. o.0 (here (sym (q ∙ e))); only = λ y n. ⊎_elim (λ q. inl (q ∙ sym e)) inr (in_two n) })
    (λ e. record { other = a; is_member = here refl; differs = λ q. o.0 (here (q ∙ e)); only = λ y n. ⊎_elim inr (λ q. inl (q ∙ sym e)) (in_two n) })
    (in_two m)
two_mem (a ∷ (b ∷ (c ∷ cs))) h o x m = absurd (omega arith)

pub two_length : {A : Type 0} (xs : List A) → Once xs → (x : A) → Mem x xs → OneOther x xs → length xs ≡ 2
two_length xs o x m w =
    omega (
      arith,
      within_length xs (x ∷ w.other ∷ []) o (λ z k. ⊎_elim here (λ q. there (here q)) (w.only z k)),
      within_length (x ∷ w.other ∷ []) xs
          (λ k. ⊎_elim (λ e. w.differs (sym e)) not-nil (cases_cons k), (not-nil, tt))
          (λ z k. ⊎_elim (λ q. cast q m) (λ q. cast q w.is_member) (in_two k)),
    )

-- one member, without signal
pub record Alone (label : ℕ → Label) (ms : List ℕ) : Type 0 where
  pub member : ℕ
  pub is_member : Mem member ms
  pub only : (m : ℕ) → Mem m ms → m ≡ member
  pub silent : (label member).signal ≡ 0

-- a member sends on the channel, and every other receives on it
pub record Signalled (label : ℕ → Label) (ms : List ℕ) (sender channel : ℕ) : Type 0 where
  pub is_member : Mem sender ms
  pub sent : Sends (label sender) channel
  pub others : (m : ℕ) → Mem m ms → (m ≡ sender) ⊎ Receives (label m) channel

-- each active receiver on the channel has its owner among those of the members
abbrev pub Full : (ℕ → Label) → (ℕ → ℕ) → (ℕ → Bool) → ℕ → ℕ → List ℕ → Type 0
Full label owner active count channel ms = (k : ℕ) → k < count → Receives (label k) channel → active k ≡ true → (m : ℕ) × Mem m ms × (owner m ≡ owner k)

-- a sender with one receiver on a rendezvous channel, or with all that fit on a broadcast channel
pub record Joint (label : ℕ → Label) (owner : ℕ → ℕ) (active : ℕ → Bool) (count rendezvous : ℕ) (ms : List ℕ) : Type 0 where
  pub sender : ℕ
  pub channel : ℕ
  pub signalled : Signalled label ms sender channel
  pub fits : ((channel < rendezvous) × OneOther sender ms) ⊎ ((rendezvous ≤ channel) × Full label owner active count channel ms)

-- a set that is allowed: no owner twice, and one of the cases
pub record AllowedSet (label : ℕ → Label) (owner : ℕ → ℕ) (active : ℕ → Bool) (count rendezvous : ℕ) (ms : List ℕ) : Type 0 where
  pub owners : (a b : ℕ) → Mem a ms → Mem b ms → owner a ≡ owner b → a ≡ b
  pub once : Once ms
  pub signals : Alone label ms ⊎ Joint label owner active count rendezvous ms

module _ (label : ℕ → Label) where
  pub sender_at : (ch : ℕ) (ms : List ℕ) → one_sends label ch ms ≡ true → (s : ℕ) × Signalled label ms s ch
  unfolding one_sends senders
  sender_at ch ms h =
      let r = one_mem (keep p ms) (eqb-true (length (keep p ms)) 1 (and_l (eqb (length (keep p ms)) 1) _ h)) in
      let k = keep_at p ms r.1 in (
        r.0,
        record {
          is_member = k.0;
          sent = sends_at (label r.0) ch k.1;
          others = λ m n. ⊎_elim (λ e. inl (r.2 m (keep_by p ms n e))) (λ e. inr (receives_at (label m) ch e)) (or_cases (sends (label m) ch) (receives (label m) ch)
              (all_at (λ m. sends (label m) ch || receives (label m) ch) ms (and_r (eqb (length (keep p ms)) 1) _ h) n));
        },
      )
    where
      p : ℕ → Bool
      p m = sends (label m) ch

  pub sender_by : (ch : ℕ) (ms : List ℕ) → Once ms → (s : ℕ) → Signalled label ms s ch → one_sends label ch ms ≡ true
  unfolding one_sends senders
  sender_by ch ms o s g = both
      (eq-eqb (length (keep p ms)) 1 (one_length (keep p ms) (once_keep p ms o) s (keep_by p ms g.is_member (sends_by (label s) ch g.sent))
      (λ y k. let r = keep_at p ms k in ⊎_elim (λ e. e) (λ q. absurd (omega (arith, q.0, (sends_at (label y) ch r.1).0))) (g.others y r.0))))
      (all_by (λ m. sends (label m) ch || receives (label m) ch) ms (λ m k. ⊎_elim
      (λ e. or_l (receives (label m) ch) (ap (λ (x : ℕ). sends (label x) ch) e ∙ sends_by (label s) ch g.sent))
      (λ r. or_r (sends (label m) ch) (receives_by (label m) ch r)) (g.others m k)))
    where
      p : ℕ → Bool
      p m = sends (label m) ch

  -- each member signals on the channel
  pub signalled_on : {ms : List ℕ} {s ch : ℕ} → Signalled label ms s ch → (m : ℕ) → Mem m ms → ((label m).signal ≢ 0) × ((label m).channel ≡ ch)
  signalled_on g m k = ⊎_elim
      (λ e. (λ z. omega (arith, ap (λ (x : ℕ). (label x).signal) e, g.sent.0), ap (λ (x : ℕ). (label x).channel) e ∙ g.sent.1))
      (λ r. (λ z. omega (arith, r.0), r.1)) (g.others m k)

module _ (label : ℕ → Label) (owner : ℕ → ℕ) (active : ℕ → Bool) (count : ℕ) where
  pub full_at : (ch : ℕ) (ms : List ℕ) → maximal label owner active count ch ms ≡ true → Full label owner active count ch ms
  unfolding maximal
  full_at ch ms h k l r a =
      ⊎_elim (λ e. let j = map_at owner ms (elem_at (owner k) (map owner ms) e) in (j.0, j.1, sym j.2)) (λ e.
      clash (both (receives_by (label k) ch r) (both a (not_yes e)))
      (not-true (receives (label k) ch && (active k && not (elem (owner k) (map owner ms))))
      (all_below (λ m. not (receives (label m) ch && (active m && not (elem (owner m) (map owner ms)))))
      count h k l)))
      (decided (elem (owner k) (map owner ms)))

  pub full_by : (ch : ℕ) (ms : List ℕ) → Full label owner active count ch ms → maximal label owner active count ch ms ≡ true
  unfolding maximal
  full_by ch ms f = below_all (λ m. not (receives (label m) ch && (active m && not (elem (owner m) (map owner ms))))) count (λ k l. not_yes (fails _ (heard k l)))
    where
      heard : (k : ℕ) → k < count → (receives (label k) ch && (active k && not (elem (owner k) (map owner ms)))) ≡ true → ⊥
      heard k l h =
          let a = and_r (receives (label k) ch) _ h in
          let g = f k l (receives_at (label k) ch (and_l (receives (label k) ch) _ h)) (and_l (active k) _ a) in
          clash (elem_by (owner k) (cast (sym g.2) (map_by owner g.1))) (not-true (elem (owner k) (map owner ms)) (and_r (active k) _ a))

module _ (label : ℕ → Label) (owner : ℕ → ℕ) (active : ℕ → Bool) (count rendezvous : ℕ) where
  pub allowed_set_at : (ms : List ℕ) → allowed label owner active count rendezvous ms ≡ true → AllowedSet label owner active count rendezvous ms
  unfolding allowed
  allowed_set_at [] h = clash h refl
  allowed_set_at (m ∷ ms) h =
      let o = distinct_at (map owner (m ∷ ms)) (and_l (distinct (map owner (m ∷ ms))) _ h) in
      record {
        owners = λ a b p q e. once_map owner (m ∷ ms) o p q e;
        once = once_of_map owner (m ∷ ms) o;
        signals = go (once_of_map owner (m ∷ ms) o) (eqb (label m).signal 0) refl (and_r (distinct (map owner (m ∷ ms))) _ h);
      }
    where
      ch : ℕ
      ch = (label m).channel

      fit : (s : ℕ) → Mem s (m ∷ ms) → Once (m ∷ ms) → (b : Bool) → ltb ch rendezvous ≡ b → cond b (eqb (length ms) 1) (maximal label owner active count ch (m ∷ ms)) ≡ true
          → ((ch < rendezvous) × OneOther s (m ∷ ms)) ⊎ ((rendezvous ≤ ch) × Full label owner active count ch (m ∷ ms))
      fit s p o true e k = inl (ltb-true ch rendezvous e, two_mem (m ∷ ms) (omega (arith, eqb-true (length ms) 1 k)) o s p)
      fit s p o false e k = inr (ltb-false ch rendezvous e, full_at label owner active count ch (m ∷ ms) k)

      go : Once (m ∷ ms) → (z : Bool) → eqb (label m).signal 0 ≡ z
          → cond z (eqb (length ms) 0) (one_sends label ch (m ∷ ms) && cond (ltb ch rendezvous) (eqb (length ms) 1) (maximal label owner active count ch (m ∷ ms))) ≡ true
          → Alone label (m ∷ ms) ⊎ Joint label owner active count rendezvous (m ∷ ms)
      go o true e k = inl (record {
        member = m;
        is_member = here refl;
        only = λ a p. ⊎_elim (λ q. q) (λ n. absurd (omega (arith, mem_some n, eqb-true (length ms) 0 k))) (cases_cons p);
        silent = eqb-true (label m).signal 0 e;
      })
      go o false e k =
          let s = sender_at label ch (m ∷ ms) (and_l (one_sends label ch (m ∷ ms)) _ k) in
          inr (record { sender = s.0; channel = ch; signalled = s.1; fits = fit s.0 s.1.is_member o (ltb ch rendezvous) refl (and_r (one_sends label ch (m ∷ ms)) _ k) })

  pub allowed_set_by : (ms : List ℕ) → AllowedSet label owner active count rendezvous ms → allowed label owner active count rendezvous ms ≡ true
  unfolding allowed
  allowed_set_by [] w = absurd (⊎_elim (λ a. not-nil a.is_member) (λ j. not-nil j.signalled.is_member) w.signals)
  allowed_set_by (m ∷ ms) w = both (distinct_by (map owner (m ∷ ms)) (map_once_on owner (m ∷ ms) w.owners w.once)) (⊎_elim alone joint w.signals)
    where
      case : ℕ → Bool
      case ch = cond (eqb (label m).signal 0) (eqb (length ms) 0) (one_sends label ch (m ∷ ms) && cond (ltb ch rendezvous) (eqb (length ms) 1) (maximal label owner active count ch (m ∷ ms)))

      alone : Alone label (m ∷ ms) → case (label m).channel ≡ true
      alone a =
          let z : (label m).signal ≡ 0 = ap (λ (k : ℕ). (label k).signal) (a.only m (here refl)) ∙ a.silent in
          rw (eq-eqb (label m).signal 0 z) (eq-eqb (length ms) 0 (omega (arith, one_length (m ∷ ms) w.once a.member a.is_member a.only)))

      fit : (s ch : ℕ) → Mem s (m ∷ ms) → ((ch < rendezvous) × OneOther s (m ∷ ms)) ⊎ ((rendezvous ≤ ch) × Full label owner active count ch (m ∷ ms))
          → cond (ltb ch rendezvous) (eqb (length ms) 1) (maximal label owner active count ch (m ∷ ms)) ≡ true
      fit s ch p f = ⊎_elim
          (λ g. rw (lt-ltb ch rendezvous g.0) (eq-eqb (length ms) 1 (omega (arith, two_length (m ∷ ms) w.once s p g.1))))
          (λ g. rw (le-ltb ch rendezvous g.0) (full_by label owner active count ch (m ∷ ms) g.1)) f

      joint : Joint label owner active count rendezvous (m ∷ ms) → case (label m).channel ≡ true
      joint j =
          let c = signalled_on label j.signalled m (here refl) in
          rw (ne_eqb (label m).signal 0 c.0, c.1)
          (both (sender_by label j.channel (m ∷ ms) w.once j.sender j.signalled)
          (fit j.sender j.channel j.signalled.is_member j.fits))

-- two members are one, or both signal on one channel
pub allowed_channels : {label : ℕ → Label} {owner : ℕ → ℕ} {active : ℕ → Bool} {count rendezvous : ℕ} {ms : List ℕ} → AllowedSet label owner active count rendezvous ms
    → (a b : ℕ) → Mem a ms → Mem b ms → (a ≡ b) ⊎ (((label a).signal ≢ 0) × ((label b).signal ≢ 0) × ((label a).channel ≡ (label b).channel))
allowed_channels {label} w a b m n = ⊎_elim
    (λ s. inl (s.only a m ∙ sym (s.only b n)))
    (λ j. let x = signalled_on label j.signalled a m in let y = signalled_on label j.signalled b n in inr (x.0, y.0, x.1 ∙ sym y.1))
    w.signals

-- the members of two lists correspond by R, each to one
pub record Matched (R : ℕ → ℕ → Type 0) (ms ts : List ℕ) : Type 0 where
  pub once_left : Once ms
  pub once_right : Once ts
  pub right : (m : ℕ) → Mem m ms → (t : ℕ) × Mem t ts × R m t
  pub left : (t : ℕ) → Mem t ts → (m : ℕ) × Mem m ms × R m t
  pub one_right : (m t u : ℕ) → Mem m ms → Mem t ts → Mem u ts → R m t → R m u → t ≡ u
  pub one_left : (m k t : ℕ) → Mem m ms → Mem k ms → Mem t ts → R m t → R k t → m ≡ k

module _ (R : ℕ → ℕ → Type 0) (ms ts : List ℕ) where
  pub matched_back : Matched R ms ts → Matched (λ t m. R m t) ts ms
  matched_back w = record {
    once_left = w.once_right;
    once_right = w.once_left;
    right = w.left;
    left = w.right;
    one_right = λ t m k n p q a b. w.one_left m k t p q n a b;
    one_left = λ t u m n p k a b. w.one_right m t u k n p a b;
  }

  -- where a function tells the partner of each
  pub matched_by : (g : ℕ → ℕ) → Once ms → Once ts → ((m : ℕ) → Mem m ms → Mem (g m) ts × R m (g m)) → ((t : ℕ) → Mem t ts → (m : ℕ) × Mem m ms × (g m ≡ t))
      → ((m t : ℕ) → R m t → g m ≡ t) → ((m k : ℕ) → Mem m ms → Mem k ms → g m ≡ g k → m ≡ k) → Matched R ms ts
  matched_by g o q f h e i = record {
    once_left = o;
    once_right = q;
    right = λ m k. (g m, (f m k).0, (f m k).1);
    left = λ t n. let r = h t n in (r.0, r.1, subst (R r.0) r.2 (f r.0 r.1).1);
    one_right = λ m t u k n p a b. sym (e m t a) ∙ e m u b;
    one_left = λ m k t n p q a b. i m k n p (e m t a ∙ sym (e k t b));
  }

  -- what a partner of the partner's is
  partner_is : Matched R ms ts → {m t u : ℕ} → Mem m ms → Mem t ts → R m t → Mem u ts → (k : ℕ) → R k u → k ≡ m → u ≡ t
  partner_is w {m} {t} {u} p q a n k b e = w.one_right m u t p n q (subst (λ (x : ℕ). R x u) e b) a

  matched_at_most : Matched R ms ts → length ms ≤ length ts
  matched_at_most w = partners_length (λ m t. Mem m ms × Mem t ts × R m t) ms ts w.once_left
      (λ m k. let r = w.right m k in (r.0, r.1, (k, r.1, r.2)))
      (λ m k t a b. w.one_left m k t a.0 b.0 a.1 a.2 b.2)

pub matched_length : (R : ℕ → ℕ → Type 0) (ms ts : List ℕ) → Matched R ms ts → length ms ≡ length ts
matched_length R ms ts w = omega (arith, matched_at_most R ms ts w, matched_at_most (λ t m. R m t) ts ms (matched_back R ms ts w))

-- two families of members with labels and owners: R relates those of equal labels and of owners that correspond
pub record Corresponds (R : ℕ → ℕ → Type 0) (label : ℕ → Label) (owner : ℕ → ℕ) (label' : ℕ → Label) (owner' : ℕ → ℕ) : Type 0 where
  pub labels : (m t : ℕ) → R m t → label m ≡ label' t
  pub owners : (m k t u : ℕ) → R m t → R k u → owner m ≡ owner k → owner' t ≡ owner' u
  pub owners_back : (m k t u : ℕ) → R m t → R k u → owner' t ≡ owner' u → owner m ≡ owner k

pub corresponds_back : (R : ℕ → ℕ → Type 0) (label : ℕ → Label) (owner : ℕ → ℕ) (label' : ℕ → Label) (owner' : ℕ → ℕ) →
    Corresponds R label owner label' owner' → Corresponds (λ t m. R m t) label' owner' label owner
corresponds_back R label owner label' owner' c = record {
  labels = λ t m a. sym (c.labels m t a);
  owners = λ t u m k a b. c.owners_back m k t u a b;
  owners_back = λ t u m k a b. c.owners m k t u a b;
}

-- each active receiver on a channel that a member of ms sends on has an active partner
abbrev pub Heard : (ℕ → ℕ → Type 0) → (ℕ → Label) → (ℕ → Bool) → ℕ → (ℕ → Bool) → ℕ → List ℕ → Type 0
Heard R label active count active' count' ms =
    (m ch k : ℕ) → Mem m ms → Sends (label m) ch → k < count → Receives (label k) ch → active k ≡ true →
    (u : ℕ) × (u < count') × (active' u ≡ true) × R k u

-- then a set is allowed where the other is
module _ (R : ℕ → ℕ → Type 0) (label : ℕ → Label) (owner : ℕ → ℕ) (active : ℕ → Bool) (count : ℕ)
    (label' : ℕ → Label) (owner' : ℕ → ℕ) (active' : ℕ → Bool) (count' : ℕ) (rendezvous : ℕ) (ms ts : List ℕ) where
  allowed_over : Corresponds R label owner label' owner' → Matched R ms ts → Heard (λ t m. R m t) label' active' count' active count ts
      → AllowedSet label owner active count rendezvous ms → AllowedSet label' owner' active' count' rendezvous ts
  allowed_over c w h a = record {
    owners = λ t u p q e. let x = w.left t p in let y = w.left u q in
        partner_is R ms ts w y.1 q y.2 p x.0 x.2 (a.owners x.0 y.0 x.1 y.1 (c.owners_back x.0 y.0 t u x.2 y.2 e));
    once = w.once_right;
    signals = ⊎_elim (λ s. inl (alone s)) (λ j. inr (joint j)) a.signals;
  }
    where
      alone : Alone label ms → Alone label' ts
      alone s =
          let r = w.right s.member s.is_member in
          record {
            member = r.0;
            is_member = r.1;
            only = λ u n. let y = w.left u n in partner_is R ms ts w s.is_member r.1 r.2 n y.0 y.2 (s.only y.0 y.1);
            silent = ap (λ (l : Label). l.signal) (sym (c.labels s.member r.0 r.2)) ∙ s.silent;
          }

      other : {s t : ℕ} → Mem s ms → Mem t ts → R s t → OneOther s ms → OneOther t ts
      other {s} {t} p q b o =
          let z = w.right o.other o.is_member in
          record {
            other = z.0;
            is_member = z.1;
            differs = λ e. o.differs (w.one_left o.other s t o.is_member p q (subst (R o.other) e z.2) b);
            only =
                λ u n.
                let y = w.left u n in
                ⊎_elim (λ e. inl (partner_is R ms ts w p q b n y.0 y.2 e))
                (λ e. inr (partner_is R ms ts w o.is_member z.1 z.2 n y.0 y.2 e))
                (o.only y.0 y.1);
          }

      full : (t ch : ℕ) → Mem t ts → Sends (label' t) ch → Full label owner active count ch ms → Full label' owner' active' count' ch ts
      full t ch q s f u l r b =
          let k = h t ch u q s l r b in
          let g = f k.0 k.1 (subst (λ (x : Label). Receives x ch) (sym (c.labels k.0 u k.3)) r) k.2 in
          let z = w.right g.0 g.1 in
          (z.0, z.1, c.owners g.0 k.0 z.0 u z.2 k.3 g.2)

      joint : Joint label owner active count rendezvous ms → Joint label' owner' active' count' rendezvous ts
      joint j =
          let s = j.signalled in
          let r = w.right j.sender s.is_member in
          let sent : Sends (label' r.0) j.channel = subst (λ (x : Label). Sends x j.channel) (c.labels j.sender r.0 r.2) s.sent in
          record {
            sender = r.0;
            channel = j.channel;
            signalled =
                record {
                  is_member = r.1;
                  sent = sent;
                  others =
                      λ u n.
                      let y = w.left u n in
                      ⊎_elim (λ e. inl (partner_is R ms ts w s.is_member r.1 r.2 n y.0 y.2 e))
                      (λ q. inr (subst (λ (x : Label). Receives x j.channel) (c.labels y.0 u y.2) q))
                      (s.others y.0 y.1);
                };
            fits =
                ⊎_elim (λ f. inl (f.0, other s.is_member r.1 r.2 f.1))
                (λ f. inr (f.0, full r.0 j.channel r.1 sent f.1)) j.fits;
          }

module _ (R : ℕ → ℕ → Type 0) (label : ℕ → Label) (owner : ℕ → ℕ) (active : ℕ → Bool) (count : ℕ)
    (label' : ℕ → Label) (owner' : ℕ → ℕ) (active' : ℕ → Bool) (count' : ℕ) (rendezvous : ℕ) (ms ts : List ℕ) where
  pub allowed_alike : Corresponds R label owner label' owner' → Matched R ms ts → Heard R label active count active' count' ms → Heard (λ t m. R m t) label' active' count' active count ts
      → allowed label owner active count rendezvous ms ≡ allowed label' owner' active' count' rendezvous ts
  allowed_alike c w h k =
      same (allowed label owner active count rendezvous ms) (allowed label' owner' active' count' rendezvous ts) (λ a.
      allowed_set_by label' owner' active' count' rendezvous ts
      (allowed_over R label owner active count label' owner' active' count' rendezvous ms ts c w k
      (allowed_set_at label owner active count rendezvous ms a)))
      (λ a.
      allowed_set_by label owner active count rendezvous ms
      (allowed_over (λ t m. R m t) label' owner' active' count' label owner active count rendezvous ts ms
      (corresponds_back R label owner label' owner' c) (matched_back R ms ts w) h
      (allowed_set_at label' owner' active' count' rendezvous ts a)))

-- at most one member has assignments
pub record OneAssigns (label : ℕ → Label) (ms : List ℕ) : Type 0 where
  pub member : ℕ
  pub is_member : Mem member ms
  pub others : (m : ℕ) → Mem m ms → m ≢ member → (label m).body.updates ≡ []

-- the sender or the one member, if receivers assign nothing
pub one_assigns : {label : ℕ → Label} {owner : ℕ → ℕ} {active : ℕ → Bool} {count rendezvous : ℕ} {ms : List ℕ} → AllowedSet label owner active count rendezvous ms
    → ((m : ℕ) → Mem m ms → (label m).signal ≡ 2 → (label m).body.updates ≡ []) → OneAssigns label ms
one_assigns w f = ⊎_elim
    (λ a. record { member = a.member; is_member = a.is_member; others = λ m k d. absurd (d (a.only m k)) })
    (λ j. record { member = j.sender; is_member = j.signalled.is_member; others = λ m k d. ⊎_elim (λ e. absurd (d e)) (λ r. f m k r.0) (j.signalled.others m k) })
    w.signals

-- the assignments of a set are those of the one member
pub variables_after_lem : (label : ℕ → Label) (ms : List ℕ) (vars : List ℤ) → Once ms → (w : OneAssigns label ms) →
    variables_after (map label ms) vars ≡ assign vars (label w.member).body.updates vars
unfolding variables_after
variables_after_lem label ms vars o w =
    ap (λ (us : List Update). assign vars us vars) (concat_map (λ (l : Label). l.body.updates) label ms ∙ concat_one (λ m. (label m).body.updates) ms o w.member w.is_member w.others)

-- the updates of labels stay in the range just if those of each label do
stay_each : (ls : List Label) (vars : List ℤ) → all_stay ls vars ≡ all (λ l. all (stays vars) l.body.updates) ls
unfolding all_stay
stay_each ls vars = same _ _
    (λ h. all_by _ ls (λ l m. all_by (stays vars) l.body.updates (λ u n. all_at (stays vars) _ h (concat_by (λ l. l.body.updates) m n))))
    (λ h. all_by (stays vars) _ (λ u m.
    let r = concat_at (λ (l : Label). l.body.updates) ls m in
    all_at (stays vars) _ (all_at (λ l. all (stays vars) l.body.updates) ls h r.1) r.2))

-- clocks after a step: those that some label resets are at 0
pub length_clocks_after : (ls : List Label) (cs : List ℕ) → length (clocks_after ls cs) ≡ length cs
unfolding clocks_after
length_clocks_after [] cs = refl
length_clocks_after (l ∷ ls) cs = length_clocks_after ls (reset l.resets cs) ∙ length_reset l.resets cs

pub get_d_clocks_after : (ls : List Label) (cs : List ℕ) (i : ℕ) → get_or (clocks_after ls cs) i 0 ≡ cond (any (λ l. has l.resets i) ls) 0 (get_or cs i 0)
unfolding clocks_after any
get_d_clocks_after [] cs i = refl
get_d_clocks_after (l ∷ ls) cs i = get_d_clocks_after ls (reset l.resets cs) i
    ∙ ap (λ (c : ℕ). cond (any (λ l. has l.resets i) ls) 0 c) (get_d_reset l.resets cs i)
    ∙ either (any (λ l. has l.resets i) ls) (has l.resets i) (get_or cs i 0)
  where
    either : (a b : Bool) (c : ℕ) → cond a 0 (cond b 0 c) ≡ cond (b || a) 0 c
    either true true c = refl
    either true false c = refl
    either false true c = refl
    either false false c = refl

module _ (R : ℕ → ℕ → Type 0) (label label' : ℕ → Label) (labels : (m t : ℕ) → R m t → label m ≡ label' t) (ms ts : List ℕ) (w : Matched R ms ts) where
  any_over : (p : Label → Bool) → any p (map label ms) ≡ true → any p (map label' ts) ≡ true
  any_over p h =
      let x = any_at p (map label ms) h in
      let m = map_at label ms x.1 in
      let r = w.right m.0 m.1 in
      any_by p (map_by label' r.1) (ap p (sym (m.2 ∙ labels m.0 r.0 r.2)) ∙ x.2)

  all_over : (p : Label → Bool) → all p (map label ms) ≡ true → all p (map label' ts) ≡ true
  all_over p h = all_by p (map label' ts) (λ l k.
      let t = map_at label' ts k in
      let r = w.left t.0 t.1 in
      ap p (t.2 ∙ sym (labels r.0 t.0 r.2)) ∙ all_at p (map label ms) h (map_by label r.1))

module _ (R : ℕ → ℕ → Type 0) (label label' : ℕ → Label) (labels : (m t : ℕ) → R m t → label m ≡ label' t) (ms ts : List ℕ) (w : Matched R ms ts) where
  pub variables_alike : (vars : List ℤ) → OneAssigns label ms → variables_after (map label ms) vars ≡ variables_after (map label' ts) vars
  variables_alike vars a =
      variables_after_lem label ms vars w.once_left a
      ∙ ap (λ (l : Label). assign vars l.body.updates vars) (labels a.member r.0 r.2)
      ∙ sym (variables_after_lem label' ts vars w.once_right (record {
        member = r.0;
        is_member = r.1;
        others = λ u n d. let y = w.left u n in
            ap (λ (l : Label). l.body.updates) (sym (labels y.0 u y.2)) ∙ a.others y.0 y.1 (λ e. d (partner_is R ms ts w a.is_member r.1 r.2 n y.0 y.2 e));
      }))
    where
      r : (t : ℕ) × Mem t ts × R a.member t
      r = w.right a.member a.is_member

  -- a test that some label passes
  pub any_alike : (p : Label → Bool) → any p (map label ms) ≡ any p (map label' ts)
  any_alike p = same (any p (map label ms)) (any p (map label' ts)) (any_over R label label' labels ms ts w p)
      (any_over (λ t m. R m t) label' label (λ t m a. sym (labels m t a)) ts ms (matched_back R ms ts w) p)

  -- and one that every label passes: so their updates stay in the range alike
  all_alike : (p : Label → Bool) → all p (map label ms) ≡ all p (map label' ts)
  all_alike p = same (all p (map label ms)) (all p (map label' ts)) (all_over R label label' labels ms ts w p)
      (all_over (λ t m. R m t) label' label (λ t m a. sym (labels m t a)) ts ms (matched_back R ms ts w) p)

  pub stay_alike : (vars : List ℤ) → all_stay (map label ms) vars ≡ all_stay (map label' ts) vars
  stay_alike vars = stay_each (map label ms) vars ∙ all_alike (λ l. all (stays vars) l.body.updates) ∙ sym (stay_each (map label' ts) vars)

  pub clocks_alike : (cs : List ℕ) → clocks_after (map label ms) cs ≡ clocks_after (map label' ts) cs
  clocks_alike cs =
      ext_get_or 0 (clocks_after (map label ms) cs) (clocks_after (map label' ts) cs) (length_clocks_after (map label ms) cs ∙ sym (length_clocks_after (map label' ts) cs))
      (λ i h. get_d_clocks_after (map label ms) cs i ∙ ap (λ (b : Bool). cond b 0 (get_or cs i 0)) (any_alike (λ l. has l.resets i)) ∙ sym (get_d_clocks_after (map label' ts) cs i))
