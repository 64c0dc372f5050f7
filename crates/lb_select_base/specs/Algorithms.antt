-- Algorithms: which word belongs to a key, and what is drawn for it.
use Rattle.std.specs.Prelude.{◌≡◌, ℕ, ◌*◌, ◌%◌, ◌^◌, List, [], ◌∷◌, fold, bit_xor}
use Rattle.lb_select_base.specs.Draws.{Draw, ticket, random}

-- The Fowler-Noll-Vo hash FNV-1a of 64 bits: from the offset basis on, each byte is exclusive-ored in and the result
-- multiplied by the prime, modulo 2 ^ 64.
abbrev pub fnv : List ℕ → ℕ
fnv key = fold (λ hash byte. bit_xor hash byte * 0x100000001b3 % 2 ^ 64) 0xcbf29ce484222325 key

-- the word is the key's hash, and nothing is drawn
abbrev pub hash_word : List ℕ → List Draw → ℕ → Type 0
hash_word key ds w = (ds ≡ []) × (w ≡ fnv key)

-- the word is the next ticket, whatever the key
abbrev pub ticket_word : List ℕ → List Draw → ℕ → Type 0
ticket_word key ds w = ds ≡ ticket w ∷ []

-- the word is a random one, whatever the key
abbrev pub random_word : List ℕ → List Draw → ℕ → Type 0
random_word key ds w = ds ≡ random w ∷ []
