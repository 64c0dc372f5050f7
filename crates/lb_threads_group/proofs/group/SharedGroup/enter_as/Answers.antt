-- An entry is one at what the pass saw last.
use Rattle.std.proofs.Common.{rules}
use Rattle.lb_threads_group.proofs.group.SharedGroup.enter_as.Goals as goal

pub returns-in-Ok-Some : goal.returns-in-Ok-Some
returns-in-Ok-Some g c = record {
  reader = search rules;
  own = search rules;
  entered = search rules;
  refused = tt;
  later = search rules;
}
