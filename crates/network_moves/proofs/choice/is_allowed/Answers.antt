use mathlib.Core.Path.{◌∙◌}
use native.Mathlib.Omega.{arith}
use Rattle.steps.specs.declared.step.Case.TheVariants as Case
use Rattle.network_moves.proofs.Choosing.{allowed_as, owners_part}
use Rattle.network_moves.proofs.choice.is_allowed.Goals as goal

pub returns-then-count-gt16 : goal.returns-then-count-gt16
returns-then-count-gt16 c = λ n L h l. absurd (omega arith)

pub returns-in-Refused : goal.returns-in-Refused
returns-in-Refused c = λ n L h l. allowed_as L c.args.c c.args.list.now c.members_of-members.result (c.members_of-members.ensures n L h l) Case.Refused c.case_of.ensures c.in-Refused.is

pub returns-in-Allowed : goal.returns-in-Allowed
returns-in-Allowed c = λ n L h l. allowed_as L c.args.c c.args.list.now c.members_of-members.result (c.members_of-members.ensures n L h l) Case.Allowed c.case_of.ensures c.in-Allowed.is

pub returns-in-Broadcast : goal.returns-in-Broadcast
returns-in-Broadcast c = λ n L h l. let e = c.members_of-members.ensures n L h l in
    c.none_fits.ensures n _ L (owners_part L c.args.c c.args.list.now c.members_of-members.result e c.owners_of-owners.ensures) ∙ allowed_as L c.args.c c.args.list.now c.members_of-members.result e (Case.Broadcast _) c.case_of.ensures c.in-Broadcast.is
