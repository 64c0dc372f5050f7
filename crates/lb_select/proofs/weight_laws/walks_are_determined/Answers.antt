use Rattle.lb_select.proofs.Determined.{hashed_are_one, tickets_are_one, randoms_are_one}
use Rattle.lb_select.proofs.weight_laws.walks_are_determined.Goals as goal

pub returns : goal.returns
returns c = record { hashed = hashed_are_one; in_turn = tickets_are_one; at_random = randoms_are_one }
