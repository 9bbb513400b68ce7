use Rattle.flatten_edges.proofs.Visits.{is_idle, is_child_lem, is_pre, is_post, same_edges}
use native.Mathlib.Omega.{arith}
use mathlib.Core.Path.{refl}
use Rattle.flatten_edges.proofs.edge.from_place.Goals as goal

pub returns-in-0 : goal.returns-in-0
returns-in-0 c = λ d n p T S L e m f k v a. same_edges d (is_idle p k v c.in-0.is) m f (λ j g. c.from_idle.ensures d T S j g)

pub returns-in-1 : goal.returns-in-1
returns-in-1 c = λ d n p T S L e m f k v a. same_edges d (is_child_lem p k v c.in-1.is) m f (λ j g. c.from_child.ensures d n T S L e j g)

pub returns-in-2 : goal.returns-in-2
returns-in-2 c = λ d n p T S L e m f k v a. same_edges d (is_pre p k v a c.in-2.is) m f (λ j g. c.from_pre.ensures d _ T S j g refl refl)

pub returns-in_default : goal.returns-in_default
returns-in_default c = λ d n p T S L e m f k v a. same_edges d (is_post p k v (omega arith) (omega arith) (omega arith)) m f (λ j g. c.from_post.ensures d T S j g)
