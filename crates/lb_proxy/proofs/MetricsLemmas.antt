-- What a label says is read back.
use Rattle.std.proofs.Common.{◌≡◌, ℕ, ◌==◌, true, false, List, [], ◌∷◌, ◌++◌, flat_map, arith, refl, ap, ◌∙◌, inl, inr}
use Rattle.std.proofs.lemmas.Bool.{cases_Bool}
use Rattle.std.proofs.lemmas.Bool.Decides.{nat_tests}
use Rattle.lb_proxy.specs.Metrics.{escaped, unescaped}

is_byte : (byte n : ℕ) → (byte == n) ≡ true → n ≡ byte
is_byte byte n is = grind (arith, nat_tests)

-- a byte that is no backslash means itself
read_plain : (byte : ℕ) (rest : List ℕ) → (byte == 92) ≡ false → unescaped (byte ∷ rest) ≡ byte ∷ unescaped rest
read_plain byte [] other = refl
read_plain byte (y ∷ ys) other = rw other refl

read_byte : (byte : ℕ) (rest : List ℕ) → unescaped (escaped byte ++ rest) ≡ byte ∷ unescaped rest
read_byte byte rest =
    elim (cases_Bool (byte == 34)) [
      | inl quote ↦ rw quote (ap (λ b. b ∷ unescaped rest) (is_byte byte 34 quote))
      | inr no_quote ↦ elim (cases_Bool (byte == 92)) [
        | inl slash ↦ rw (no_quote, slash) (ap (λ b. b ∷ unescaped rest) (is_byte byte 92 slash))
        | inr no_slash ↦ elim (cases_Bool (byte == 10)) [
          | inl feed ↦ rw (no_quote, no_slash, feed) (ap (λ b. b ∷ unescaped rest) (is_byte byte 10 feed))
          | inr no_feed ↦ rw (no_quote, no_slash, no_feed) (read_plain byte rest no_slash)
        ]
      ]
    ]

pub read_back : (value : List ℕ) → unescaped (flat_map escaped value) ≡ value
read_back [] = refl
read_back (byte ∷ value) = read_byte byte (flat_map escaped value) ∙ ap (λ l. byte ∷ l) (read_back value)
