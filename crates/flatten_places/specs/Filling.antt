-- Tables that the flattener fills one element after the other: what they hold before the rest of a list.
use Rattle.std.specs.Prelude.{ℕ, ◌≤◌, ◌<◌, ◌≡◌, Bool, cond, not, ◌&&◌, List, ◌++◌, map, eqb, get_or, length, take}
use Rattle.lists.specs.Lists.{has, any, below, keep}
use Rattle.chart_records.specs.Chart.{Chart, home}
use Rattle.chart_records.specs.Tree.{sequentials}
use Rattle.flattening.specs.Flatten.{Pair, Place, has_exit, transitions, place_home, automaton}
use Rattle.flatten_places.specs.Tables.{Paired, Listed, kind_of, value_of, mark_of, exits_at}
use Rattle.flatten_places.specs.declared.automaton.Automata.{Automata}
use Rattle.flatten_places.specs.declared.pair.Pairs.{Pairs}
use Rattle.flatten_places.specs.declared.place.Places.{Places}
use Rattle.flatten_places.specs.declared.place.Row.{Row}

-- a state of this kind and with these exits bars the exit e: a basic one that is not marked with it, and a sequential one
abbrev pub bars_by : ℕ → ℕ → ℕ → Bool
bars_by kind exits e = cond (eqb kind 0) (not (has exits e)) (eqb kind 1)

-- the sequential states before the rest
pub record AutomatedTo (c : Chart) (rest : List ℕ) (a : Automata) : Type 0 where
  pub seen : List ℕ
  pub split : sequentials c ≡ seen ++ rest
  pub count : a.count ≡ length seen
  pub states : seen ≡ take (length seen) a.states
  pub number : (i : ℕ) → i < length seen → get_or a.numbers (get_or seen i 0) 0 ≡ i

-- the pairs before the rest
pub record PairedTo (whole rest : List Pair) (p : Pairs) : Type 0 where
  pub seen : List Pair
  pub split : whole ≡ seen ++ rest
  pub paired : Paired seen p

-- there is room for 192 places
pub record Wide (p : Places) : Type 0 where
  pub kinds : length p.kinds ≡ 192
  pub values : length p.values ≡ 192
  pub marks : length p.marks ≡ 192
  pub automata : length p.automata ≡ 192
  pub exits : length p.exits ≡ 192

-- the places before the rest
pub record ListedTo (c : Chart) (whole rest : List Place) (p : Places) : Type 0 where
  pub wide : Wide p
  pub seen : List Place
  pub split : whole ≡ seen ++ rest
  pub listed : Listed c seen p

-- the pairs of a state and each mark of a set that is below a width
unfoldable pub pairs_of : ℕ → ℕ → List ℕ → List Pair
pairs_of s marks ms = map (λ m. record { state = s; mark = m }) (keep (has marks) ms)

-- a transition names the state with the mark
abbrev pub names : List ℕ → List ℕ → ℕ → ℕ → ℕ → Bool
names states marks s m t = eqb (get_or states t 0) s && eqb (get_or marks t 0) m

-- the marks with which the first n transitions name each state
pub record Named (states marks : List ℕ) (n : ℕ) (l : List ℕ) : Type 0 where
  pub marked : (s m : ℕ) → s < 48 → m < 16 → has (get_or l s 0) m ≡ any (names states marks s m) (below n)

-- what the table holds of a place
pub record Rowed (c : Chart) (x : Place) (r : Row) : Type 0 where
  pub kind : r.kind ≡ kind_of x
  pub value : r.value ≡ value_of x
  pub mark : r.mark ≡ mark_of x
  pub automaton : r.automaton ≡ automaton c (place_home c x)
  pub exits : r.exits ≡ exits_at c x

-- the transitions that leave a child of q by an exit
abbrev pub leaving : Chart → ℕ → List ℕ
leaving c q = keep (λ t. eqb (home c t) q && has_exit c t) (transitions c)

-- from one table of places to another: some places of a whole that there is room for, up to those that are left
abbrev pub Puts : Chart → List Place → List Place → Places → Places → Type 0
Puts c new left before after =
    (whole rest : List Place) → ListedTo c whole (new ++ rest) before → length whole ≤ 192 → ListedTo c whole (left ++ rest) after
