-- What a walk draws from its source, and what a source may give.
use Rattle.std.specs.Prelude.{◌≡◌, ℕ, ◌+◌, ◌%◌, ◌^◌, List, [], ◌∷◌}
use Rattle.rand_core.specs.Stream.{Stream, next_u64}
use Rattle.lb_select_base.specs.Backends.{Member}

-- one draw: a ticket, a random word, or the load that was read for a backend
pub data Draw : Type 0 where
  ticket : ℕ → Draw
  random : ℕ → Draw
  load : Member → ℕ → Draw

module _ {S : Type 0} (gives : S → Draw → S → Type 0) where
  -- the source went from s to t by exactly these draws, in order
  abbrev pub Gives : S → List Draw → S → Type 0
  Gives s [] t = s ≡ t
  Gives s (d ∷ ds) t = (u : S) × gives s d u × Gives u ds t

-- no random word
abbrev pub IsNotRandom : Draw → Type 0
IsNotRandom (ticket w) = Unit {0}
IsNotRandom (random w) = ⊥
IsNotRandom (load m l) = Unit {0}

-- 1 for a word, 0 for a load
abbrev pub is_word : Draw → ℕ
is_word (ticket w) = 1
is_word (random w) = 1
is_word (load m l) = 0

-- how many words were drawn; loads are no words
abbrev pub words_in : List Draw → ℕ
words_in [] = 0
words_in (d ∷ ds) = is_word d + words_in ds

-- A source with a counter that wraps at 2 ^ 64, a generator, and a load for each backend that no draw changes. Its tickets
-- are the numbers from the counter on, its random words those that the generator answers next.
abbrev pub CoreGives : {S : Type 0} → (S → ℕ) → (S → Stream) → (S → Member → ℕ) → S → Draw → S → Type 0
CoreGives tickets stream load_of a (ticket w) b =
    (w ≡ tickets a) × (tickets b ≡ (tickets a + 1) % 2 ^ 64) × (stream b ≡ stream a) × (load_of b ≡ load_of a)
CoreGives tickets stream load_of a (random w) b =
    ((w, stream b) ≡ next_u64 (stream a)) × (tickets b ≡ tickets a) × (load_of b ≡ load_of a)
CoreGives tickets stream load_of a (load m l) b = (l ≡ load_of a m) × (b ≡ a)

-- Words that are given: the next ticket of a counter, and the random words that are left.
pub record HandedValue : Type 0 where
  pub tickets : ℕ
  pub words : List ℕ

-- a random word is the first that is left, and 0 where none is
abbrev pub TakesFirst : List ℕ → ℕ → List ℕ → Type 0
TakesFirst [] w after = (w ≡ 0) × (after ≡ [])
TakesFirst (x ∷ xs) w after = (w ≡ x) × (after ≡ xs)

-- a ticket is the counter's, which wraps at 2 ^ 64; a random word is the first that is left; each load is 0
abbrev pub HandedGives : HandedValue → Draw → HandedValue → Type 0
HandedGives a (ticket w) b = (w ≡ a.tickets) × (b.tickets ≡ (a.tickets + 1) % 2 ^ 64) × (b.words ≡ a.words)
HandedGives a (random w) b = TakesFirst a.words w b.words × (b.tickets ≡ a.tickets)
HandedGives a (load m l) b = (l ≡ 0) × (b ≡ a)

-- the same words, with loads that no draw changes
abbrev pub LoadedGives : (Member → ℕ) → HandedValue → Draw → HandedValue → Type 0
LoadedGives load_by a (ticket w) b = HandedGives a (ticket w) b
LoadedGives load_by a (random w) b = HandedGives a (random w) b
LoadedGives load_by a (load m l) b = (l ≡ load_by m) × (b ≡ a)
