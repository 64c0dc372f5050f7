use Rattle.std.proofs.Common.{ℕ, ◌<◌, ◌≤◌}
use Rattle.std.specs.List.{slice_index}
use Rattle.lb_rebuild.specs.Pass.{IsLater}
use Rattle.lb_rebuild.proofs.board.Board.meet.Given as goal

abbrev pub invariant-loop-word : goal.invariant-loop-word
invariant-loop-word g l =
    IsLater l.fn.pass l.pass × IsLater l.fn.other l.other
    × ((k : ℕ) → k < l.word → slice_index l.fn.other.values k ≤ slice_index l.pass.values k)
    × ((k : ℕ) → k < l.word → slice_index l.fn.pass.values k ≤ slice_index l.other.values k)
