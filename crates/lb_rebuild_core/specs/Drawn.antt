-- Words that are given for one selection, and how many of them were drawn.
use Rattle.std.specs.Prelude.{◌≡◌, ◌+◌, ℕ, List, min}
use Rattle.lb_select_base.specs.Backends.{Member}
use Rattle.lb_select_base.specs.Draws.{Draw, ticket, random, load, HandedValue, LoadedGives}
use Rattle.lb_select_base.specs.Loads.{load_in}

pub record DrawnValue : Type 0 where
  pub words : HandedValue
  pub drawn : ℕ

-- a word more is counted, up to the greatest number; a load is no word
abbrev pub counted : Draw → ℕ → ℕ
counted (ticket w) n = min (n + 1) 18446744073709551615
counted (random w) n = min (n + 1) 18446744073709551615
counted (load m l) n = n

-- with loads that no draw changes
abbrev pub DrawnGives : (Member → ℕ) → DrawnValue → Draw → DrawnValue → Type 0
DrawnGives load_by a d b = LoadedGives load_by a.words d b.words × (b.drawn ≡ counted d a.drawn)

-- the words, and the loads that the selection borrows
pub record LentValue : Type 0 where
  pub source : DrawnValue
  pub loads : List (Member × ℕ)

abbrev pub LentGives : LentValue → Draw → LentValue → Type 0
LentGives a d b = DrawnGives (load_in a.loads) a.source d b.source × (b.loads ≡ a.loads)
