-- What a chart's steps and a network's moves share: which sets are allowed, and what they do to variables and clocks.
-- A member is a number: a transition or an edge. Its owner is a sequential state or an automaton.
use Rattle.std.specs.Prelude.{ℕ, Bool, false, cond, not, ◌&&◌, ◌||◌, List, [], ◌∷◌, map, ℤ, leb, ltb, eqb, length}
use Rattle.lists.specs.Lists.{all, elem, below, keep, concat, ascending, distinct}
use Rattle.updates.specs.Update.{stays, assign}
use Rattle.labels.specs.Label.{Label, sends, receives}
use Rattle.clocks.specs.Clocks.{reset}

-- 18: one to sixteen known numbers, strictly ascending
unfoldable pub known : ℕ → List ℕ → Bool
known count ms = leb 1 (length ms) && (leb (length ms) 16 && (ascending ms && all (λ m. ltb m count) ms))

-- the members of ms that send on the channel
unfoldable pub senders : (ℕ → Label) → ℕ → List ℕ → List ℕ
senders label ch ms = keep (λ m. sends (label m) ch) ms

-- one sender on a channel, and otherwise receivers of it
unfoldable pub one_sends : (ℕ → Label) → ℕ → List ℕ → Bool
one_sends label ch ms = eqb (length (senders label ch ms)) 1 && all (λ m. sends (label m) ch || receives (label m) ch) ms

-- no further active receiver fits independently
unfoldable pub maximal : (ℕ → Label) → (ℕ → ℕ) → (ℕ → Bool) → ℕ → ℕ → List ℕ → Bool
maximal label owner active count ch ms =
    all (λ m. not (receives (label m) ch && (active m && not (elem (owner m) (map owner ms))))) (below count)

-- the same by owners: of each number, that of an active receiver and else 255, and those of the set
unfoldable pub none_fits : List ℕ → List ℕ → Bool
none_fits receivers owners = all (λ r. eqb r 255 || elem r owners) receivers

-- 20: one member without signal; a sender and a receiver on one rendezvous channel; or a sender on a broadcast channel
-- with receivers of it, as many as fit
unfoldable pub allowed : (ℕ → Label) → (ℕ → ℕ) → (ℕ → Bool) → ℕ → ℕ → List ℕ → Bool
allowed label owner active count rendezvous [] = false
allowed label owner active count rendezvous (m ∷ ms) =
    let ch = (label m).channel in
    distinct (map owner (m ∷ ms))
    && cond (eqb (label m).signal 0)
    (eqb (length ms) 0)
    (one_sends label ch (m ∷ ms) && cond (ltb ch rendezvous) (eqb (length ms) 1) (maximal label owner active count ch (m ∷ ms)))

-- 28: the updates of all members stay in the range
unfoldable pub all_stay : List Label → List ℤ → Bool
all_stay ls vars = all (stays vars) (concat (λ l. l.body.updates) ls)

-- all assignments read the old values. Only the sender or the one member has any
unfoldable pub variables_after : List Label → List ℤ → List ℤ
variables_after ls vars = assign vars (concat (λ l. l.body.updates) ls) vars

unfoldable pub clocks_after : List Label → List ℕ → List ℕ
clocks_after [] cs = cs
clocks_after (l ∷ ls) cs = clocks_after ls (reset l.resets cs)
