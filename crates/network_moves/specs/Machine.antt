-- The network machine: start, step, wait and the longest wait.
use Rattle.std.specs.Prelude.{ℕ, Bool, cond, not, ◌&&◌, List, [], ◌∷◌, map, pos, leb, ltb, eqb, get_or, length, replicate, set}
use Rattle.std.specs.Bool.{beq}
use Rattle.lists.specs.Lists.{has, all, any, below, implies, bits_of}
use Rattle.labels.specs.Label.{guards_hold}
use Rattle.clocks.specs.Clocks.{keeps, row_left, limit_left, later, in_limit, zero_past, zeros_past}
use Rattle.steps.specs.Moves.{known, allowed, all_stay, variables_after, clocks_after}
use Rattle.reading.specs.Answer.{Answer, done, unless, ◌>>=◌}
use Rattle.network_records.specs.Network.{Edge, Network, location_at, urgent_at, edge_at, owner_of, initials, network_of}
use Rattle.network_moves.specs.declared.configuration.Configuration.{Configuration}

-- where automaton a is
unfoldable pub place : Configuration → ℕ → ℕ
place c a = get_or c.locations a 0

unfoldable pub bounds_kept : Network → Configuration → Bool
bounds_kept n c = all (λ a. keeps (location_at n (place c a)).bounds c.clocks) (below n.automata)

-- 26: a configuration of this network; what is not declared is 0
unfoldable pub is_configuration : Network → Configuration → Bool
is_configuration n c =
    all (λ a. ltb (place c a) (length n.locations) && eqb (location_at n (place c a)).automaton a) (below n.automata)
    && (zero_past n.automata c.locations
    && (zero_past n.automata c.flags
    && (zeros_past n.variables c.variables
    && (in_limit n.clocks c.clocks
    && (zero_past n.clocks c.clocks
    && bounds_kept n c)))))

-- the flags that an edge tests have the values that it needs
unfoldable pub flags_agree : Configuration → Edge → Bool
flags_agree c e = all (λ a. implies (has e.tested a) (beq (has (get_or c.flags a 0) e.exit) (has e.needed a))) (below 16)

unfoldable pub active_edge : Network → Configuration → Edge → Bool
active_edge n c e = eqb (place c (owner_of n e)) e.source && (guards_hold c.variables c.clocks e.label && flags_agree c e)

-- an urgent location is occupied
unfoldable pub urgent : Network → Configuration → Bool
urgent n c = any (λ a. urgent_at n (place c a)) (below n.automata)

-- the flags with the bits of `written` at those of `values`
unfoldable pub overwrite : ℕ → ℕ → ℕ → ℕ
overwrite flags written values = bits_of (λ i. cond (has written i) (has values i) (has flags i)) 8

unfoldable pub move : Network → List Edge → List ℕ → List ℕ
move n [] ls = ls
move n (e ∷ es) ls = move n es (set ls (owner_of n e) e.target)

unfoldable pub write : Network → List Edge → List ℕ → List ℕ
write n [] fs = fs
write n (e ∷ es) fs = write n es (set fs (owner_of n e) (overwrite (get_or fs (owner_of n e) 0) e.written e.values))

unfoldable pub after : Network → List Edge → Configuration → Configuration
after n es c = record {
  locations = move n es c.locations;
  flags = write n es c.flags;
  variables = variables_after (map (λ e. e.label) es) c.variables;
  clocks = clocks_after (map (λ e. e.label) es) c.clocks;
}

unfoldable pub tested : Network → Configuration → Answer Configuration
tested n c = unless 21 (bounds_kept n c) (done c)

-- everything 0
abbrev pub zero_configuration : Configuration
zero_configuration = record { locations = replicate 16 0; flags = replicate 16 0; variables = replicate 16 (pos 0); clocks = replicate 8 0 }

unfoldable pub start : Network → Configuration
start n = record {
  locations = map (λ a. cond (ltb a n.automata) (get_or (initials n a) 0 0) 0) (below 16);
  flags = replicate 16 0;
  variables = replicate 16 (pos 0);
  clocks = replicate 8 0;
}

unfoldable pub step : Network → Configuration → List ℕ → Answer Configuration
step n c ms =
    let es = map (edge_at n) ms in
    unless 26 (is_configuration n c)
    (unless 18 (known (length n.edges) ms)
    (unless 19 (all (active_edge n c) es)
    (unless 27 (implies (urgent n c) (any (λ e. urgent_at n e.source) es))
    (unless 20 (allowed (λ m. (edge_at n m).label) (λ m. owner_of n (edge_at n m)) (λ m. active_edge n c (edge_at n m)) (length n.edges) n.rendezvous ms)
    (unless 28 (all_stay (map (λ e. e.label) es) c.variables)
    (tested n (after n es c)))))))

unfoldable pub wait : Network → Configuration → ℕ → Answer Configuration
wait n c d =
    let cs = later n.clocks d c.clocks in
    unless 26 (is_configuration n c)
    (unless 22 (leb 1 d && in_limit n.clocks cs)
    (unless 27 (not (urgent n c))
    (tested n (record { locations = c.locations; flags = c.flags; variables = c.variables; clocks = cs }))))

-- the ticks left under the bounds of the locations of some automata, and m at most
unfoldable pub ticks_under : Network → Configuration → List ℕ → ℕ → ℕ
ticks_under n c [] m = m
ticks_under n c (a ∷ others) m = ticks_under n c others (row_left n.clocks (location_at n (place c a)).bounds c.clocks m)

-- the longest wait: none from an urgent location, or else the ticks left under all bounds, and to the limit
unfoldable pub longest : Network → Configuration → Answer ℕ
longest n c =
    unless 26 (is_configuration n c)
    (done (cond (urgent n c) 0 (ticks_under n c (below n.automata) (limit_left n.clocks c.clocks))))

-- the operations on files
unfoldable pub start_of : List ℕ → Answer Configuration
start_of file = network_of file >>= λ n. done (start n)

unfoldable pub step_of : List ℕ → Configuration → List ℕ → Answer Configuration
step_of file c ms = network_of file >>= λ n. step n c ms

unfoldable pub wait_of : List ℕ → Configuration → ℕ → Answer Configuration
wait_of file c d = network_of file >>= λ n. wait n c d

unfoldable pub longest_of : List ℕ → Configuration → Answer ℕ
longest_of file c = network_of file >>= λ n. longest n c
