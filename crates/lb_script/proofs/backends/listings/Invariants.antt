use Rattle.std.proofs.Common.{◌≡◌, ◌++◌, option_map}
use Rattle.lb_script.specs.StepLines.{listings_of}
use Rattle.lb_script.proofs.backends.listings.Given as goal

abbrev pub invariant-loop-word : goal.invariant-loop-word
invariant-loop-word l = record {
  can : (goal.iterator-loop-word).can_next l.word-iterator;
  ends : (goal.iterator-loop-word).is_finite l.word-iterator;
  read : listings_of l.fn.words ≡ option_map (λ more. l.listed.items ++ more) (listings_of l.word-iterator);
}
