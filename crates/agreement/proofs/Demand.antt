-- Demand 3, proved.
use Rattle.agreement.specs.Agreement.{Demand3}
use Rattle.agreement.proofs.Claims.{AllClaims}
use Rattle.agreement.proofs.Picture.{settled_is_picture, picture_is_settled, start_is_picture, start_is_configuration, waits_alike, wait_is_picture, longest_alike}
use Rattle.agreement.proofs.Borne.{bears_once, no_urgent_move}
use Rattle.agreement.proofs.Settled.{move_is_step, step_is_move, one_move, move_refused, step_refused}
use Rattle.agreement.proofs.Owed.{no_wait_owed, longest_owed, move_pays, some_move}
use Rattle.agreement.proofs.Runs.{demand3_by}

all_claims : AllClaims
all_claims = record {
  settled_is_picture = settled_is_picture;
  picture_is_settled = picture_is_settled;
  start_is_picture = start_is_picture;
  start_is_configuration = start_is_configuration;
  bears_once = bears_once;
  no_urgent_move = no_urgent_move;
  move_is_step = move_is_step;
  step_is_move = step_is_move;
  one_move = one_move;
  move_refused = move_refused;
  step_refused = step_refused;
  waits_alike = waits_alike;
  wait_is_picture = wait_is_picture;
  longest_alike = longest_alike;
  no_wait_owed = no_wait_owed;
  longest_owed = longest_owed;
  move_pays = move_pays;
  some_move = some_move;
}

pub demand3 : Demand3
demand3 = demand3_by all_claims
