-- The chart machine: start, step, wait and the longest wait.
use Rattle.std.specs.Prelude.{ℕ, Bool, false, cond, not, ◌&&◌, ◌||◌, List, [], ◌∷◌, map, pos, leb, ltb, eqb, get_or, length, replicate, drop}
use Rattle.lists.specs.Lists.{has, all, any, below, keep, implies}
use Rattle.labels.specs.Label.{guards_hold}
use Rattle.clocks.specs.Clocks.{keeps, row_left, limit_left, later, in_limit, zero_past, zeros_past}
use Rattle.steps.specs.Moves.{known, allowed, all_stay, variables_after, clocks_after}
use Rattle.reading.specs.Answer.{Answer, done, unless, ◌>>=◌}
use Rattle.chart_records.specs.Chart.{Chart, Transition, state_at, transition_at, states, parent_of, basic, sequential, parallel, home}
use Rattle.chart_records.specs.Tree.{under, children, entered}
use Rattle.chart_records.specs.Rules.{chart_of}
use Rattle.chart_moves.specs.declared.configuration.Configuration.{Configuration}

unfoldable pub is_active : Configuration → ℕ → Bool
is_active σ s = get_or σ.active s false

unfoldable pub bounds_kept : Chart → Configuration → Bool
bounds_kept c σ = all (λ s. implies (is_active σ s) (keeps (state_at c s).bounds σ.clocks)) (states c)

-- the active states are a tree: the root; with each state its parent; of an active sequential state one child, and of an
-- active parallel one all
unfoldable pub is_tree : Chart → Configuration → Bool
is_tree c σ =
    is_active σ 0
    && (all (λ s. eqb s 0 || (implies (is_active σ s) (is_active σ (parent_of c s)) && implies (parallel c (parent_of c s) && is_active σ (parent_of c s)) (is_active σ s))) (states c)
    && (all (λ q. implies (sequential c q && is_active σ q) (eqb (length (keep (is_active σ) (children c q))) 1)) (states c)
    && all not (drop (length c.states) σ.active)))

-- 17: a configuration of this chart; what is not declared is 0
unfoldable pub is_configuration : Chart → Configuration → Bool
is_configuration c σ =
    is_tree c σ
    && (zeros_past c.variables σ.variables
    && (in_limit c.clocks σ.clocks
    && (zero_past c.clocks σ.clocks
    && bounds_kept c σ)))

-- every active basic state at or below m is marked with the exit
unfoldable pub completed : Chart → Configuration → ℕ → ℕ → Bool
completed c σ m e = all (λ s. implies (is_active σ s && (basic c s && under c m s)) (has (state_at c s).exits e)) (states c)

unfoldable pub active_transition : Chart → Configuration → Transition → Bool
active_transition c σ t =
    is_active σ t.source
    && (guards_hold σ.variables σ.clocks t.label
    && (basic c t.source || completed c σ t.source t.exit))

-- s is active after the transitions: it was and lies below no source, or it is entered
unfoldable pub active_after : Chart → Configuration → List Transition → ℕ → Bool
active_after c σ ts s =
    (is_active σ s && all (λ t. not (under c t.source s)) ts)
    || any (λ t. entered c t.destination t.entry s) ts

unfoldable pub after : Chart → List Transition → Configuration → Configuration
after c ts σ = record {
  active = map (λ s. ltb s (length c.states) && active_after c σ ts s) (below 48);
  variables = variables_after (map (λ t. t.label) ts) σ.variables;
  clocks = clocks_after (map (λ t. t.label) ts) σ.clocks;
}

unfoldable pub tested : Chart → Configuration → Answer Configuration
tested c σ = unless 21 (bounds_kept c σ) (done σ)

-- no state active, all values 0
unfoldable pub zero_configuration : Configuration
zero_configuration = record { active = replicate 48 false; variables = replicate 16 (pos 0); clocks = replicate 8 0 }

unfoldable pub start : Chart → Configuration
start c = record {
  active = map (λ s. ltb s (length c.states) && entered c 0 0 s) (below 48);
  variables = replicate 16 (pos 0);
  clocks = replicate 8 0;
}

unfoldable pub step : Chart → Configuration → List ℕ → Answer Configuration
step c σ ms =
    let ts = map (transition_at c) ms in
    unless 17 (is_configuration c σ)
    (unless 18 (known (length c.transitions) ms)
    (unless 19 (all (active_transition c σ) ts)
    (unless 20 (allowed (λ m. (transition_at c m).label) (home c) (λ m. active_transition c σ (transition_at c m)) (length c.transitions) c.rendezvous ms)
    (unless 28 (all_stay (map (λ t. t.label) ts) σ.variables)
    (tested c (after c ts σ))))))

unfoldable pub wait : Chart → Configuration → ℕ → Answer Configuration
wait c σ d =
    let cs = later c.clocks d σ.clocks in
    unless 17 (is_configuration c σ)
    (unless 22 (leb 1 d && in_limit c.clocks cs)
    (tested c (record { active = σ.active; variables = σ.variables; clocks = cs })))

-- the ticks left under the bounds of those of some states that are active, and m at most
unfoldable pub ticks_under : Chart → Configuration → List ℕ → ℕ → ℕ
ticks_under c σ [] m = m
ticks_under c σ (s ∷ ss) m = ticks_under c σ ss (cond (is_active σ s) (row_left c.clocks (state_at c s).bounds σ.clocks m) m)

-- the longest wait: the ticks left under all bounds, and to the limit
unfoldable pub longest : Chart → Configuration → Answer ℕ
longest c σ = unless 17 (is_configuration c σ) (done (ticks_under c σ (states c) (limit_left c.clocks σ.clocks)))

unfoldable pub start_of : List ℕ → Answer Configuration
start_of file = chart_of file >>= λ c. done (start c)

unfoldable pub step_of : List ℕ → Configuration → List ℕ → Answer Configuration
step_of file σ ms = chart_of file >>= λ c. step c σ ms

unfoldable pub wait_of : List ℕ → Configuration → ℕ → Answer Configuration
wait_of file σ d = chart_of file >>= λ c. wait c σ d

unfoldable pub longest_of : List ℕ → Configuration → Answer ℕ
longest_of file σ = chart_of file >>= λ c. longest c σ
