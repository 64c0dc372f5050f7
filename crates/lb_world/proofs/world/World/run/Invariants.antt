use Rattle.std.proofs.Common.{◌≡◌, length, map}
use Rattle.std.specs.Prelude.{vec_capacity}
use Rattle.lb_world.specs.History.{History, after}
use Rattle.lb_world.specs.Meanings.{meaning_of}
use Rattle.lb_world.specs.Steps.{step_seen}
use Rattle.lb_world.specs.Stands.{Stands}
use Rattle.lb_world.proofs.world.World.run.Given as goal

abbrev pub invariant-loop-step : goal.invariant-loop-step
invariant-loop-step g l =
    record {
      answered : length l.answers.items ≡ length l.yielded;
      room : vec_capacity l.answers ≡ length l.fn.steps.items;
      stood : (h : History g.row.S-Config.Denot) → Stands (meaning_of g.S.BackendSelection) l.fn.self h
          → Stands (meaning_of g.S.BackendSelection) l.self (after h (map step_seen l.yielded) l.answers.items);
    }
