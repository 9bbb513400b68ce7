use Rattle.flatten_edges.proofs.Gathers.{adds_past}
use Rattle.flatten_edges.proofs.Bears.{bear_none, bear_over, bear_some}
use Rattle.flatten_edges.proofs.bear.bear.Goals as goal

pub returns-then-count-gt1024 : goal.returns-then-count-gt1024
returns-then-count-gt1024 c = λ d n s q T S L h o f g m R. (adds_past _ _ _ c.if-count-gt1024.true, R)

pub returns-then-exit : goal.returns-then-exit
returns-then-exit c = λ d n s q T S L h o f g m R. (
  bear_none d _ _ _ T S n _ _ L _ h _ o _ _ q f g m c.joining-e.ensures c.signals_of-s.ensures _ c.byte_at-exit.ensures
      c.if-exit.true c.bearing_head.ensures c.push.ensures,
  R,
)

pub returns-then-size-gt1024 : goal.returns-then-size-gt1024
returns-then-size-gt1024 c = λ d n s q T S L h o f g m R.
    bear_over d _ _ _ T S n _ _ L _ h _ o _ _ q f g m c.joining-e.ensures c.signals_of-s.ensures _ c.byte_at-exit.ensures
    c.if-exit.false c.byte_at.ensures c.sets_by-size.ensures R _ _ c.if-size-gt1024.true

pub returns : goal.returns
returns c = λ d n s q T S L h o f g m R.
    bear_some d _ _ _ T S n _ _ L _ h _ o _ _ q f g m c.joining-e.ensures c.signals_of-s.ensures _ c.byte_at-exit.ensures
    c.if-exit.false c.byte_at.ensures c.sets_by-size.ensures R c.if-size-gt1024.false c.start_off-off.ensures c.bear_each.ensures
