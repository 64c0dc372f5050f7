-- The configurations of a group's slots, as they are given.
use Rattle.std.specs.Prelude.{List, Option, map, unwrap_or}

-- what the slots of a group are built with: the default one where none is given
abbrev pub slot_configs : {C : Type 0} → C → List (Option C) → List C
slot_configs default configs = map (λ c. unwrap_or c default) configs
