use Rattle.std.proofs.Common.{map}
use Rattle.lb_proxy.specs.Config.{part_of}
use Rattle.lb_proxy.proofs.FieldLemmas.{StillOnly}
use Rattle.lb_proxy.proofs.section.Section.only.Given as goal

abbrev pub invariant-loop-name : goal.invariant-loop-name
invariant-loop-name l = StillOnly (map (λ name. name.now) l.fn.known) (part_of l.fn.self) l.name-iterator
