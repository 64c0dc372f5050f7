use Rattle.std.proofs.Common.{◌≡◌, ◌++◌, codes, decimal, length, take}
use Rattle.lb_script.specs.Texts.{targets_text}
use Rattle.lb_script.proofs.figures.push_targets.Given as goal

abbrev pub invariant-loop-target : goal.invariant-loop-target
invariant-loop-target l =
    l.text.items ≡ l.fn.text.items ++ (codes "targets " ++ decimal (length l.targets) ++ targets_text (take l.target-index l.targets))
