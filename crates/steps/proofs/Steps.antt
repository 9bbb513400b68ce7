-- The tests of a step, element by element as the code makes them, and that they say what `allowed` and `maximal` do.
use mathlib.Core.Path.{◌≡◌, refl, sym, ap, ◌∙◌}
use mathlib.Core.Bool.{Bool, true, false, cond, not, ◌&&◌, ◌||◌}
use mathlib.Core.Logic.{◌≢◌}
use mathlib.Core.List.{List, [], ◌∷◌, map, map-map}
use Prim.Native.Nat.{ℕ, ◌<◌}
use borrow.Author.Tests.{eq-eqb, ne_eqb}
use lib.Dec.{ltb, eqb}
use lib.ListN.{length, length-map}
use Rattle.lists.specs.Lists.{elem, below, distinct}
use Rattle.labels.specs.Label.{Label, sends, receives}
use Rattle.steps.specs.Moves.{senders, one_sends, maximal, none_fits, allowed}
use Rattle.steps.specs.Cases.{member, owner_of, signals_on, takes_part, one_sender, allowed_if, case_of, case_allows}
use Rattle.steps.specs.declared.step.Member.{Member}
use Rattle.steps.specs.declared.step.Case.{Case}
use Rattle.lists.proofs.Bools.{or_l, or_r}
use Rattle.lists.proofs.Lists.{all_map, keep_map, all_same, all_next, all_stop}
use Rattle.lists.proofs.Below.{below_at}

-- receivers of which none fits, by the first
module _ {r : ℕ} {rs rest : List ℕ} (owners : List ℕ) (e : rest ≡ r ∷ rs) where
  pub none_fits_other : r ≡ 255 → none_fits rest owners ≡ none_fits rs owners
  unfolding none_fits
  none_fits_other h = all_next (λ r. eqb r 255 || elem r owners) e (or_l _ (eq-eqb r 255 h))

  pub none_fits_next : elem r owners ≡ true → none_fits rest owners ≡ none_fits rs owners
  unfolding none_fits
  none_fits_next h = all_next (λ r. eqb r 255 || elem r owners) e (or_r (eqb r 255) h)

  pub none_fits_stop : r ≢ 255 → elem r owners ≡ false → none_fits rest owners ≡ false
  unfolding none_fits
  none_fits_stop n h = all_stop (λ r. eqb r 255 || elem r owners) e (rw (ne_eqb r 255 n) h)

-- the case of a set whose first member is known
module _ (rendezvous : ℕ) {m : Member} {rest ms : List Member} (e : ms ≡ m ∷ rest) where
  pub case_owners : distinct (map owner_of ms) ≡ false → case_of rendezvous ms ≡ Case.Refused
  unfolding case_of
  case_owners h = let h' = rw e at h in rw (e, h')

  module _ (d : distinct (map owner_of ms) ≡ true) where
    pub case_alone : {k : ℕ} → k ≡ length rest → eqb m.signal 0 ≡ true → case_of rendezvous ms ≡ allowed_if (eqb k 0)
    unfolding case_of
    case_alone q s = let d' = rw e at d in rw (e, d', s, ← q)

    module _ (s : eqb m.signal 0 ≡ false) where
      pub case_senders : one_sender m.channel ms ≡ false → case_of rendezvous ms ≡ Case.Refused
      unfolding case_of
      case_senders o = let d' = rw e at d in let o' = rw e at o in rw (e, d', s, o')

      pub case_rendezvous : {k : ℕ} → k ≡ length rest → one_sender m.channel ms ≡ true → ltb m.channel rendezvous ≡ true → case_of rendezvous ms ≡ allowed_if (eqb k 1)
      unfolding case_of
      case_rendezvous q o r = let d' = rw e at d in let o' = rw e at o in rw (e, d', s, o', r, ← q)

      pub case_broadcast : one_sender m.channel ms ≡ true → ltb m.channel rendezvous ≡ false → case_of rendezvous ms ≡ Case.Broadcast m.channel
      unfolding case_of
      case_broadcast o r = let d' = rw e at d in let o' = rw e at o in rw (e, d', s, o', r)

module _ (label : ℕ → Label) (owner : ℕ → ℕ) where
  -- the members alone tell that one sends
  one_sender_lem : (ch : ℕ) (ms : List ℕ) → one_sender ch (map (member label owner) ms) ≡ one_sends label ch ms
  unfolding one_sender one_sends senders signals_on takes_part sends receives
  one_sender_lem ch ms = rw (keep_map, length-map, all_map)

  module _ (active : ℕ → Bool) (count : ℕ) where
    -- a set is allowed as its case says
    pub allowed_case : (rendezvous : ℕ) (ms : List ℕ) →
        allowed label owner active count rendezvous ms
        ≡ case_allows (case_of rendezvous (map (member label owner) ms)) (λ ch. maximal label owner active count ch ms)
    unfolding allowed case_of
    allowed_case rendezvous [] = refl
    allowed_case rendezvous (m ∷ ms) =
        let ch = (label m).channel in
        rw (ap distinct (map-map owner_of (member label owner) (m ∷ ms)), length-map ms (member label owner), one_sender_lem ch (m ∷ ms))
        (go (distinct (map owner (m ∷ ms))) (eqb (label m).signal 0) (one_sends label ch (m ∷ ms)) (ltb ch rendezvous) (eqb (length ms) 0) (eqb (length ms) 1))
      where
        go : (d z o r a b : Bool) →
            (d && cond z a (o && cond r b (maximal label owner active count (label m).channel (m ∷ ms))))
            ≡ case_allows (cond d (cond z (allowed_if a)
            (cond o (cond r (allowed_if b) (Case.Broadcast (label m).channel)) Case.Refused))
            Case.Refused)
            (λ ch. maximal label owner active count ch (m ∷ ms))
        go false z o r a b = refl
        go true true o r true b = refl
        go true true o r false b = refl
        go true false false r a b = refl
        go true false true true a true = refl
        go true false true true a false = refl
        go true false true false a b = refl

    -- no further active receiver fits, by the owners of the receivers, where 255 is no owner
    pub maximal_none : (ch : ℕ) (ms : List ℕ) → ((m : ℕ) → m < count → owner m ≢ 255) →
        maximal label owner active count ch ms ≡ none_fits (map (λ m. cond (receives (label m) ch && active m) (owner m) 255) (below count)) (map owner ms)
    unfolding maximal none_fits
    maximal_none ch ms h = all_same _ _ (below count) (λ m k. go (receives (label m) ch) (active m) (owner m) (h m (below_at count k))) ∙ sym (all_map _ _ (below count))
      where
        go : (r a : Bool) (o : ℕ) → o ≢ 255 → not (r && (a && not (elem o (map owner ms)))) ≡ (eqb (cond (r && a) o 255) 255 || elem (cond (r && a) o 255) (map owner ms))
        go true true o n = rw (ne_eqb o 255 n) (twice (elem o (map owner ms)))
          where
            twice : (b : Bool) → not (not b) ≡ b
            twice true = refl
            twice false = refl
        go true false o n = refl
        go false a o n = refl
