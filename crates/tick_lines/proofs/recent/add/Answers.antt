use mathlib.Core.Path.{sym, ◌∙◌}
use native.Mathlib.Omega.{arith}
use Rattle.break_windows.proofs.Appended.{falls_end}
use Rattle.tick_lines.proofs.Rings.{held_some, last_inside, start_inside, last_below, last_above, start_held, start_window, held_first, held_same, held_grown, held_full}
use Rattle.tick_lines.proofs.recent.add.Goals as goal

pub returns-then-recent-eq0 : goal.returns-then-recent-eq0
returns-then-recent-eq0 c = λ ts H. held_first _ ts _ H (c.put.ensures.ticks ts H.ticks) c.requires.0 c.if-recent-eq0.true c.put.ensures.count c.put.ensures.first

pub offset_bounds-ring-place_of : goal.offset_bounds-ring-place_of
offset_bounds-ring-place_of c = omega (arith, last_inside c.requires.1.1 c.if-recent-eq0.false c.place_of.ensures)

pub bounds-ring-place_of : goal.bounds-ring-place_of
bounds-ring-place_of c = omega (arith, last_inside c.requires.1.1 c.if-recent-eq0.false c.place_of.ensures, c.requires.1.1.ticks.room)

pub returns-then-tick-ring : goal.returns-then-tick-ring
returns-then-tick-ring c = λ ts H. falls_end ts _ (held_some H c.if-recent-eq0.false) (last_below H c.if-recent-eq0.false c.place_of.ensures c.if-tick-ring.true)

pub offset_bounds-ring-place_of-2 : goal.offset_bounds-ring-place_of-2
offset_bounds-ring-place_of-2 c = omega (arith, start_inside c.requires.1.1 c.if-recent-eq0.false c.place_of-2.ensures)

pub bounds-ring-place_of-2 : goal.bounds-ring-place_of-2
bounds-ring-place_of-2 c = omega (arith, start_inside c.requires.1.1 c.if-recent-eq0.false c.place_of-2.ensures, c.requires.1.1.ticks.room)

pub returns-then-not-in_window : goal.returns-then-not-in_window
returns-then-not-in_window c = λ ts H.
    let l = last_above H c.if-recent-eq0.false c.place_of.ensures c.if-tick-ring.false in
    let g = start_window H c.if-recent-eq0.false _ c.place_of-2.ensures (sym c.in_window.ensures ∙ c.if-not-in_window.true) in
    held_same _ ts _ H (c.put-then-not-in_window.ensures.ticks ts H.ticks) (held_some H c.if-recent-eq0.false) l g c.put-then-not-in_window.ensures.count c.put-then-not-in_window.ensures.first

pub returns-then-count-eq65536 : goal.returns-then-count-eq65536
returns-then-count-eq65536 c = λ ts H.
    let l = last_above H c.if-recent-eq0.false c.place_of.ensures c.if-tick-ring.false in
    let g = start_window H c.if-recent-eq0.false _ c.place_of-2.ensures (sym c.in_window.ensures ∙ c.if-not-in_window.false) in
    held_full _ ts _ H (held_some H c.if-recent-eq0.false) l g c.if-count-eq65536.true

pub returns : goal.returns
returns c = λ ts H.
    let l = last_above H c.if-recent-eq0.false c.place_of.ensures c.if-tick-ring.false in
    let g = start_window H c.if-recent-eq0.false _ c.place_of-2.ensures (sym c.in_window.ensures ∙ c.if-not-in_window.false) in
    held_grown _ ts _ H (c.put-2.ensures.ticks ts H.ticks) (held_some H c.if-recent-eq0.false) l g (omega (arith, H.least, c.if-count-eq65536.false)) c.put-2.ensures.count (c.put-2.ensures.first ∙ start_held H c.if-recent-eq0.false c.place_of-2.ensures)
