use mathlib.Core.Path.{refl}
use Rattle.flatten_places.proofs.Filling.{paired_none}
use Rattle.flatten_places.proofs.pair.no_pairs.Goals as goal

pub returns : goal.returns
returns c = λ whole. paired_none whole _ refl
