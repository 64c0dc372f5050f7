-- What a selector of one of the kinds was built of.
use Rattle.std.specs.Prelude.{List}
use Rattle.lb_select_base.specs.Backends.{Member}
use Rattle.lb_script.specs.declared.kinds.Kind.{Kind}
use Rattle.lb_script.specs.declared.kinds.Kind.TheVariants as kind
use Rattle.lb_script.specs.declared.kinds.Chosen.{Chosen}
use Rattle.lb_script.specs.declared.kinds.Chosen.TheVariants as chosen

-- the set and the kind that a selector was built of
abbrev pub members_chosen : Chosen → List Member
members_chosen (chosen.Fnv selector) = selector
members_chosen (chosen.RoundRobin selector) = selector
members_chosen (chosen.Ketama selector) = selector.members
members_chosen (chosen.Least selector) = selector
members_chosen (chosen.Random selector) = selector

abbrev pub kind_chosen : Chosen → Kind
kind_chosen (chosen.Fnv selector) = kind.Fnv
kind_chosen (chosen.RoundRobin selector) = kind.RoundRobin
kind_chosen (chosen.Ketama selector) = kind.Ketama
kind_chosen (chosen.Least selector) = kind.Least
kind_chosen (chosen.Random selector) = kind.Random
