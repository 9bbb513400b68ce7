use native.Mathlib.Omega.{arith}
use borrow.Author.Rules.{rules}
use mathlib.Core.Path.{◌≡◌}
use lib.ListN.{length}
use Rattle.flattener.proofs.Locating.{location_written}
use Rattle.flattener.proofs.location.write_location.Goals as goal

pub returns-then-clocks-gt8 : goal.returns-then-clocks-gt8
returns-then-clocks-gt8 c h = absurd (omega arith)

pub returns : goal.returns
returns c h =
    let wide : length c.args.bounds ≡ 8 = search rules in
    location_written c.args.clocks (record { automaton = c.args.automaton; urgent = c.args.urgent; initial = c.args.initial; bounds = c.args.bounds }) h wide
    c.put-at1.ensures c.put-at2.ensures c.put-at3.ensures c.put-at4.ensures (c.write_bounds.ensures h)
