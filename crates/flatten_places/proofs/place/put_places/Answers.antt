use Rattle.flattening.specs.Flatten.{idle}
use Rattle.flatten_places.proofs.Placing.{listed_by, places_split, idle_row}
use Rattle.flatten_places.proofs.place.put_places.Goals as goal

pub returns : goal.returns
returns c = λ k h T F C P n whole rest L f.
    let one = c.put.ensures k (idle c.args.q) (idle_row k c.args.q c.args.a n) whole _ (listed_by k whole _ (places_split k c.args.q rest) L) f in
    let two = c.put_children.ensures k T F n whole _ one f in
    let three = c.put_pres.ensures k T P n whole _ two f in
    c.put_posts.ensures k h T C n whole rest three f
