-- The rule of a gate's word: 0 while the permit is at home and 1 while it is out.
use Rattle.std.specs.Prelude.{◌≡◌, ℕ, List, [], ◌∷◌, true}
use mathlib.Core.Option.{some}
use lib.ListN.{get_elem?}
use Rattle.lb_rebuild_core.specs.declared.gate_rule.GateMark.{GateMark}

-- the view of the seat that writes, which says that the word is n
abbrev pub writer : ℕ → GateMark
writer n = record { writes = true; says = n }

-- only the first seat can be the writer's, and then its view says the one word
abbrev pub SaysWord : List ℕ → List GateMark → Type 0
SaysWord words views = (id : ℕ) (v : GateMark) → get_elem? views id ≡ some v → v.writes ≡ true → (id ≡ 0) × (words ≡ v.says ∷ [])
