-- The three cases of an allowed set, by what is known of each member alone: its signal, its channel and its owner.
use Rattle.std.specs.Prelude.{ℕ, Bool, true, false, cond, ◌&&◌, ◌||◌, List, [], ◌∷◌, map, ltb, eqb, length}
use Rattle.lists.specs.Lists.{all, keep, distinct}
use Rattle.labels.specs.Label.{Label}
use Rattle.steps.specs.declared.step.Member.{Member}
use Rattle.steps.specs.declared.step.Case.{Case}

-- what is known of a transition or an edge
abbrev pub member : (ℕ → Label) → (ℕ → ℕ) → ℕ → Member
member label owner m = record { signal = (label m).signal; channel = (label m).channel; owner = owner m }

abbrev pub owner_of : Member → ℕ
owner_of m = m.owner

-- the member has that signal, 1 of a sender and 2 of a receiver, on the channel
unfoldable pub signals_on : ℕ → ℕ → Member → Bool
signals_on signal ch m = eqb m.signal signal && eqb m.channel ch

-- the member sends or receives on the channel
unfoldable pub takes_part : ℕ → Member → Bool
takes_part ch m = signals_on 1 ch m || signals_on 2 ch m

-- one sender on a channel, and otherwise receivers of it
unfoldable pub one_sender : ℕ → List Member → Bool
one_sender ch ms = eqb (length (keep (signals_on 1 ch) ms)) 1 && all (takes_part ch) ms

abbrev pub allowed_if : Bool → Case
allowed_if b = cond b Case.Allowed Case.Refused

-- 20: the case of a set whose members have owners of their own
unfoldable pub case_of : ℕ → List Member → Case
case_of rendezvous [] = Case.Refused
case_of rendezvous (m ∷ ms) =
    cond (distinct (map owner_of (m ∷ ms)))
    (cond (eqb m.signal 0)
    (allowed_if (eqb (length ms) 0))
    (cond (one_sender m.channel (m ∷ ms))
    (cond (ltb m.channel rendezvous) (allowed_if (eqb (length ms) 1)) (Case.Broadcast m.channel))
    Case.Refused))
    Case.Refused

-- what a case says, where a test tells of a broadcast channel that no further active receiver fits
abbrev pub case_allows : Case → (ℕ → Bool) → Bool
case_allows Case.Refused f = false
case_allows Case.Allowed f = true
case_allows (Case.Broadcast ch) f = f ch
