-- The rule of a line's word: it says what the sender stored last.
use Rattle.std.specs.Prelude.{◌≡◌, ℕ, List, [], ◌∷◌, true}
use mathlib.Core.Option.{some}
use lib.ListN.{get_elem?}
use Rattle.lb_background.specs.declared.line_rule.SignalMark.{SignalMark}

-- the view of the sender's seat, which says that the word is n
abbrev pub sender : ℕ → SignalMark
sender n = record { sends = true; says = n }

-- only the first seat can be the sender's, and then its view says the one word
abbrev pub SaysWord : List ℕ → List SignalMark → Type 0
SaysWord words views = (id : ℕ) (v : SignalMark) → get_elem? views id ≡ some v → v.sends ≡ true → (id ≡ 0) × (words ≡ v.says ∷ [])
