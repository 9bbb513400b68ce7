-- The rules that a chart keeps, in order of trial.
use Rattle.std.specs.Prelude.{ℕ, Bool, cond, not, ◌&&◌, ◌||◌, List, leb, ltb, eqb, length}
use Rattle.std.specs.Bool.{beq}
use Rattle.lists.specs.Lists.{has, all, below, keep, implies}
use Rattle.labels.specs.Label.{assigns_once}
use Rattle.reading.specs.Answer.{Answer, done, unless, ◌>>=◌}
use Rattle.chart_records.specs.Chart.{Chart, Transition, state_at, transition_at, states, parent_of, basic, sequential, parallel, home, read_chart}
use Rattle.chart_records.specs.Tree.{under, children, sequentials}

-- 5: each parent is a composite of smaller number, the root has none, and each composite has a child
abbrev pub parent_fits : Chart → ℕ → Bool
parent_fits c s = cond (eqb s 0) (eqb (parent_of c s) 255) (ltb (parent_of c s) s && not (basic c (parent_of c s)))

abbrev pub placed : Chart → ℕ → Bool
placed c s = parent_fits c s && (basic c s || leb 1 (length (children c s)))

unfoldable pub parents : Chart → Bool
parents c = all (placed c) (states c)

-- 6
unfoldable pub few : Chart → Bool
few c = leb (length (sequentials c)) 16

-- 7: some state is sequential
unfoldable pub some_sequential : Chart → Bool
some_sequential c = leb 1 (length (sequentials c))

-- how many children of m are marked with e
unfoldable pub marked : Chart → ℕ → ℕ → ℕ
marked c m e = length (keep (λ s. has (state_at c s).entries e) (children c m))

-- 8: the root has entry 0 alone; a parallel state's child has its parent's marks; of a sequential state's children one at
-- most has a mark, and just one if the state has it
abbrev pub inherits : Chart → ℕ → Bool
inherits c s = eqb s 0 || implies (parallel c (parent_of c s)) (eqb (state_at c s).entries (state_at c (parent_of c s)).entries)

abbrev pub children_marked : Chart → ℕ → Bool
children_marked c s = all (λ e. leb (marked c s e) 1 && implies (has (state_at c s).entries e) (leb 1 (marked c s e))) (below c.entries)

abbrev pub entries_fit : Chart → ℕ → Bool
entries_fit c s = inherits c s && implies (sequential c s) (children_marked c s)

unfoldable pub entry_marks : Chart → Bool
entry_marks c = eqb (state_at c 0).entries 1 && all (entries_fit c) (states c)

-- 9: no composite has exit marks
abbrev pub exits_fit : Chart → ℕ → Bool
exits_fit c s = basic c s || eqb (state_at c s).exits 0

unfoldable pub exit_marks : Chart → Bool
exit_marks c = all (exits_fit c) (states c)

-- 10: source and destination are children of one sequential state
unfoldable pub siblings : Chart → Transition → Bool
siblings c t =
    not (eqb t.source 0) && (not (eqb t.destination 0)
    && (eqb (parent_of c t.source) (parent_of c t.destination) && sequential c (parent_of c t.source)))

-- 11: an exit just where the source is composite
unfoldable pub exits : Chart → Transition → Bool
exits c t = beq (basic c t.source) (eqb t.exit 255)

-- 12: an entry just where the destination is composite, and one that it is marked with
unfoldable pub entries : Chart → Transition → Bool
entries c t = cond (basic c t.destination) (eqb t.entry 255) (not (eqb t.entry 255) && has (state_at c t.destination).entries t.entry)

-- 14: no two transitions of one channel whose parents lie one below the other
unfoldable pub apart : Chart → Bool
apart c = all (λ t. all (λ u.
    not (not (eqb (transition_at c t).label.signal 0)
    && (not (eqb (transition_at c u).label.signal 0)
    && (eqb (transition_at c t).label.channel (transition_at c u).label.channel
    && (not (eqb (home c t) (home c u)) && under c (home c t) (home c u)))))) (below (length c.transitions))) (below (length c.transitions))

-- the rules of the states, 5 to 9
unfoldable pub state_rules : Chart → Answer (Unit {0})
state_rules c =
    unless 5 (parents c)
    (unless 6 (few c)
    (unless 7 (some_sequential c)
    (unless 8 (entry_marks c)
    (unless 9 (exit_marks c)
    (done tt)))))

-- the rules of the transitions, 10 to 14
unfoldable pub transition_rules : Chart → Answer (Unit {0})
transition_rules c =
    unless 10 (all (siblings c) c.transitions)
    (unless 11 (all (exits c) c.transitions)
    (unless 12 (all (entries c) c.transitions)
    (unless 13 (all (λ t. assigns_once t.label) c.transitions)
    (unless 14 (apart c)
    (done tt)))))

unfoldable pub keeps_rules : Chart → Answer Chart
keeps_rules c = state_rules c >>= λ u. transition_rules c >>= λ v. done c

unfoldable pub chart_of : List ℕ → Answer Chart
chart_of file = read_chart file >>= keeps_rules
