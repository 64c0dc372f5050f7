use Rattle.std.proofs.Common.{◌≡◌, ◌<◌, ◌≤◌, ◌-◌, ◌==◌, ℕ, false, length, get_or}
use Rattle.lb_script.proofs.selection.word_before_space.Given as goal

abbrev pub invariant-loop-count : goal.invariant-loop-count
invariant-loop-count l = record {
  within : l.count ≤ length l.bytes;
  plain : (k : ℕ) → k < l.count → ((get_or l.bytes k 0 == 32) ≡ false) × (get_or l.bytes k 0 < 128);
}

abbrev pub decreases-loop-count : goal.decreases-loop-count
decreases-loop-count l = length l.bytes - l.count
