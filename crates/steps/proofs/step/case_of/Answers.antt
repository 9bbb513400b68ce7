use mathlib.Core.Path.{◌≡◌, refl, sym, ap, ◌∙◌}
use mathlib.Core.Bool.{true}
use mathlib.Core.List.{List, [], ◌∷◌, map}
use Prim.Native.Nat.{ℕ, ◌-◌, ◌<◌}
use native.Mathlib.Omega.{arith}
use borrow.Author.Tests.{eq-eqb, ne_eqb, lt-ltb, le-ltb}
use lib.ListN.{length, get_or, take, drop, length-drop}
use lib.Seq.{take_all}
use Rattle.lists.specs.Lists.{distinct}
use Rattle.steps.specs.Cases.{owner_of, allowed_if, case_of}
use Rattle.steps.specs.declared.step.Case.TheVariants as Case
use Rattle.steps.specs.declared.step.Member.{Member}
use Rattle.lists.proofs.Parts.{drop_next}
use Rattle.steps.proofs.Steps.{case_owners, case_alone, case_senders, case_rendezvous, case_broadcast}
use Rattle.steps.proofs.step.case_of.Goals as goal
use Rattle.steps.proofs.step.case_of.Goals.{In-len1-up}

abbrev nobody : Member
nobody = record { signal = 0; channel = 0; owner = 0 }

first : (c : In-len1-up) → c.args.members.now ≡ get_or c.args.members.now 0 nobody ∷ drop 1 c.args.members.now
first c = drop_next c.args.members.now 0 nobody (omega (arith, c.in-len1-up.len_at_least))

-- the others, as the pattern has them
others : (ms : List Member) → length (take (length ms - 1) (drop 1 ms)) ≡ length (drop 1 ms)
others ms = ap length (take_all (length ms - 1) (drop 1 ms) (omega (arith, length-drop 1 ms)))

none : (rendezvous : ℕ) (ms : List Member) → length ms < 1 → Case.Refused ≡ case_of rendezvous ms
unfolding case_of
none rendezvous [] h = refl
none rendezvous (m ∷ ms) h = absurd (omega (arith, h))

pub returns-in_default : goal.returns-in_default
returns-in_default c = none _ _ c.in_default.len_below

pub returns-then-not-owners_distinct : goal.returns-then-not-owners_distinct
returns-then-not-owners_distinct c = sym (case_owners _ (first (goal.at.returns-then-not-owners_distinct c).In-len1-up) (sym c.owners_distinct.ensures ∙ c.if-not-owners_distinct.true))

pub returns-then-m-eq0 : goal.returns-then-m-eq0
returns-then-m-eq0 c = c.allowed_if.ensures ∙ ap allowed_if c.is_empty.ensures ∙ sym (case_alone _ (first (goal.at.returns-then-m-eq0 c).In-len1-up) (let owners : distinct (map owner_of c.args.members.now) ≡ true = sym c.owners_distinct.ensures ∙ c.if-not-owners_distinct.false in owners) (others c.args.members.now) (eq-eqb _ 0 c.if-m-eq0.true))

pub returns-then-not-one_sender : goal.returns-then-not-one_sender
returns-then-not-one_sender c = sym (case_senders _ (first (goal.at.returns-then-not-one_sender c).In-len1-up) (let owners : distinct (map owner_of c.args.members.now) ≡ true = sym c.owners_distinct.ensures ∙ c.if-not-owners_distinct.false in owners) (ne_eqb _ 0 c.if-m-eq0.false) (sym c.one_sender.ensures ∙ c.if-not-one_sender.true))

pub returns-then-m-rendezvous : goal.returns-then-m-rendezvous
returns-then-m-rendezvous c =
    c.allowed_if-then-m-rendezvous.ensures
    ∙ sym (case_rendezvous _ (first (goal.at.returns-then-m-rendezvous c).In-len1-up) (let owners : distinct (map owner_of c.args.members.now) ≡ true = sym c.owners_distinct.ensures ∙ c.if-not-owners_distinct.false in owners) (ne_eqb _ 0 c.if-m-eq0.false) (others c.args.members.now)
    (sym c.one_sender.ensures ∙ c.if-not-one_sender.false) (lt-ltb _ _ c.if-m-rendezvous.true))

pub returns-else-m-rendezvous : goal.returns-else-m-rendezvous
returns-else-m-rendezvous c = sym (case_broadcast _ (first (goal.at.returns-else-m-rendezvous c).In-len1-up) (let owners : distinct (map owner_of c.args.members.now) ≡ true = sym c.owners_distinct.ensures ∙ c.if-not-owners_distinct.false in owners) (ne_eqb _ 0 c.if-m-eq0.false) (sym c.one_sender.ensures ∙ c.if-not-one_sender.false) (le-ltb _ _ c.if-m-rendezvous.false))
