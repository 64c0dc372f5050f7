use Rattle.std.proofs.Common.{◌≡◌, ◌≤◌, ◌<◌, ◌⊎◌, ℕ, Some, None, false, take, length}
use Rattle.lb_proxy.specs.Config.{said}
use Rattle.lb_proxy.specs.Position.{IsLineStart, shown_by, IsNowhereTo}
use Rattle.lb_proxy.proofs.position.position_of.Given as goal

-- a line begins where the statement may begin, unless the text ends there, what is before it doesn't show the fault's field, and no line
-- between that and this place ends a document. Up to this place no line, nor the text's end, shows what the fault is about.
abbrev pub invariant-loop-place : goal.invariant-loop-place
invariant-loop-place l =
    (l.start < length l.fn.text → IsLineStart l.fn.text l.start)
    × ((l.start ≡ 0) ⊎ (shown_by (take l.start l.fn.text) (said l.fn.fault) ≡ Some false)) × (l.start ≤ l.place)
    × ((at : ℕ) → l.start < at → at ≤ l.place → IsLineStart l.fn.text at → shown_by (take at l.fn.text) (said l.fn.fault) ≡ None)
    × IsNowhereTo l.fn.text (said l.fn.fault) l.place
