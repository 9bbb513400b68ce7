use mathlib.Core.Path.{refl}
use Rattle.network_records.proofs.Fields.{kept_at}
use Rattle.network_records.proofs.edge.fields_at.Goals as goal

pub returns : goal.returns
returns c = λ k e t h.
    kept_at k _ _ h _ c.byte_at.ensures c.byte_at-2.ensures c.byte_at-3.ensures c.byte_at-4.ensures c.short_at.ensures c.short_at-2.ensures
    c.byte_at-5.ensures c.byte_at-6.ensures c.byte_at-7.ensures c.byte_at-8.ensures c.byte_at-9.ensures refl
