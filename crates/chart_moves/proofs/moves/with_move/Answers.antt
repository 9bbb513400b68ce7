use Rattle.lists.proofs.Columns.{field_more}
use lib.ListN.{length, length-append}
use native.Mathlib.Omega.{arith}
use mathlib.Core.List.{[], ◌∷◌}
use mathlib.Core.Path.{◌≡◌}
use borrow.Author.Rules.{rules}
use Rattle.chart_moves.proofs.moves.with_move.Goals as goal

pub returns-then-i-ge-COUNT : goal.returns-then-i-ge-COUNT
returns-then-i-ge-COUNT c = λ ts t M h s d e. absurd (omega (arith, M.count, h, c.if-i-ge-COUNT.true))

pub returns : goal.returns
returns c = λ ts t M h s d e.
    record {
      count = omega (arith, M.count, length-append ts (t ∷ []));
      few = omega (arith, h, length-append ts (t ∷ []));
      sources = field_more (λ t. t.source) ts t c.args.m.sources c.args.source c.args.m.count M.sources M.count (let z : length c.args.m.sources ≡ 16 = search rules in omega (arith, z, c.if-i-ge-COUNT.false)) s;
      destinations = field_more (λ t. t.destination) ts t c.args.m.destinations c.args.destination c.args.m.count M.destinations M.count (let z : length c.args.m.destinations ≡ 16 = search rules in omega (arith, z, c.if-i-ge-COUNT.false)) d;
      entries = field_more (λ t. t.entry) ts t c.args.m.entries c.args.entry c.args.m.count M.entries M.count (let z : length c.args.m.entries ≡ 16 = search rules in omega (arith, z, c.if-i-ge-COUNT.false)) e;
    }
