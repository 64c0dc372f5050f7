-- The table of CRCs: to shift bits out is linear, so what the low byte of a state becomes can be looked up.
use Rattle.std.proofs.Common.{◌≡◌, ℕ, zero, suc, ◌+◌, ◌*◌, ◌/◌, ◌%◌, ◌^◌, ◌<◌, ◌⊎◌, inl, inr, ◌==◌, ◌&&◌, Bool, true, false, List, [], ◌∷◌}
use Rattle.std.proofs.Common.{length, get_or, refl, sym, ap, ◌∙◌, arith, add-zero, zero-add, lit<}
use Rattle.std.specs.Prelude.{bit_xor}
use Rattle.std.proofs.lemmas.Bool.{eqb-true}
use Rattle.std.specs.Int.Bits.{xor_shr, xor_mod, xor_comm, xor_assoc, xor_self, xor_zero_r, xor_shifted, xor_block, xor_lt}
use Rattle.std.specs.Int.{w32, to_le_bytes, byte_at}
use Rattle.lb_select.specs.Crc.{polynomial, crc, crc_bit, crc_bits, crc_byte, crc_fed}
use Rattle.lb_select.specs.declared.crc.TheConstants.{TABLE, TABLE_16, TABLE_24, TABLE_32}

-- a bit that is 0 goes, and a bit that is 1 brings the polynomial in
even_bit : (n : ℕ) → n % 2 ≡ 0 → crc_bit n ≡ n / 2
unfolding crc_bit
even_bit n e = rw e

odd_bit : (n : ℕ) → n % 2 ≡ 1 → crc_bit n ≡ bit_xor (n / 2) polynomial
unfolding crc_bit
odd_bit n e = rw e

-- a bit is 0 or 1
bit_cases : (n : ℕ) → (n % 2 ≡ 0) ⊎ (n % 2 ≡ 1)
bit_cases n = elim (n % 2) as (λ b. b < 2 → (b ≡ 0) ⊎ (b ≡ 1)) [ zero ↦ λ h. inl refl | suc k ↦ λ h. inr (omega arith) ] (omega arith)

-- halves and lowest bits of an exclusive or
half_xor : (a b : ℕ) → bit_xor a b / 2 ≡ bit_xor (a / 2) (b / 2)
half_xor a b = xor_shr a b 1

low_xor : (a b : ℕ) → bit_xor a b % 2 ≡ bit_xor (a % 2) (b % 2)
low_xor a b = xor_mod a b 1

both_even : (a b : ℕ) → a % 2 ≡ 0 → b % 2 ≡ 0 → crc_bit (bit_xor a b) ≡ bit_xor (crc_bit a) (crc_bit b)
both_even a b p q =
    let low : bit_xor a b % 2 ≡ 0 = rw (low_xor a b, p, q) in
    rw (even_bit (bit_xor a b) low, even_bit a p, even_bit b q) (half_xor a b)

first_odd : (a b : ℕ) → a % 2 ≡ 1 → b % 2 ≡ 0 → crc_bit (bit_xor a b) ≡ bit_xor (crc_bit a) (crc_bit b)
first_odd a b p q =
    let low : bit_xor a b % 2 ≡ 1 = rw (low_xor a b, p, q) in
    rw (odd_bit (bit_xor a b) low, odd_bit a p, even_bit b q, half_xor a b)
    (xor_assoc (a / 2) (b / 2) polynomial ∙ ap (bit_xor (a / 2)) (xor_comm (b / 2) polynomial) ∙ sym (xor_assoc (a / 2) polynomial (b / 2)))

second_odd : (a b : ℕ) → a % 2 ≡ 0 → b % 2 ≡ 1 → crc_bit (bit_xor a b) ≡ bit_xor (crc_bit a) (crc_bit b)
second_odd a b p q =
    let low : bit_xor a b % 2 ≡ 1 = rw (low_xor a b, p, q) in
    rw (odd_bit (bit_xor a b) low, even_bit a p, odd_bit b q, half_xor a b) (xor_assoc (a / 2) (b / 2) polynomial)

twice : (x y z : ℕ) → bit_xor x y ≡ bit_xor (bit_xor x z) (bit_xor y z)
twice x y z =
    let moved : bit_xor (bit_xor x z) y ≡ bit_xor (bit_xor x y) z = xor_assoc x z y ∙ ap (bit_xor x) (xor_comm z y)
    ∙ sym (xor_assoc x y z) in
    let gone : bit_xor (bit_xor (bit_xor x y) z) z ≡ bit_xor x y = xor_assoc (bit_xor x y) z z ∙ ap (bit_xor (bit_xor x y)) (xor_self z)
    ∙ xor_zero_r (bit_xor x y) in
    sym gone ∙ ap (λ w. bit_xor w z) (sym moved) ∙ xor_assoc (bit_xor x z) y z

both_odd : (a b : ℕ) → a % 2 ≡ 1 → b % 2 ≡ 1 → crc_bit (bit_xor a b) ≡ bit_xor (crc_bit a) (crc_bit b)
both_odd a b p q =
    let low : bit_xor a b % 2 ≡ 0 = rw (low_xor a b, p, q) in
    rw (even_bit (bit_xor a b) low, odd_bit a p, odd_bit b q, half_xor a b) (twice (a / 2) (b / 2) polynomial)

-- to shift a bit out is linear
bit_linear : (a b : ℕ) → crc_bit (bit_xor a b) ≡ bit_xor (crc_bit a) (crc_bit b)
bit_linear a b =
    elim (bit_cases a) [
      | inl p ↦ elim (bit_cases b) [ inl q ↦ both_even a b p q | inr q ↦ second_odd a b p q ]
      | inr p ↦ elim (bit_cases b) [ inl q ↦ first_odd a b p q | inr q ↦ both_odd a b p q ]
    ]

-- so is it to shift eight out
bits_linear : (a b : ℕ) → crc_bits (bit_xor a b) ≡ bit_xor (crc_bits a) (crc_bits b)
unfolding crc_bits
bits_linear a b = simp bit_linear

-- a zero that was shifted in goes
bit_back : (n : ℕ) → crc_bit (n * 2) ≡ n
bit_back n = even_bit (n * 2) (omega arith) ∙ omega arith

bits_back : (n : ℕ) → crc_bits (n * 256) ≡ n
unfolding crc_bits
bits_back n =
    let e : n * 256 ≡ n * 2 * 2 * 2 * 2 * 2 * 2 * 2 * 2 = omega arith in
    rw e (simp bit_back)

-- the high bits of a state go down, its low byte is what is left to shift
split_state : (state byte : ℕ) → byte < 256 → bit_xor state byte ≡ bit_xor (state / 256 * 256) (bit_xor (state % 256) byte)
split_state state byte h =
    let low : state % 256 < 2 ^ 8 = omega arith in
    let whole : state ≡ state / 256 * 2 ^ 8 + state % 256 = omega arith in
    let kept : bit_xor (state / 256 * 2 ^ 8 + state % 256) (0 * 2 ^ 8 + byte) ≡ bit_xor (state / 256) 0 * 2 ^ 8 + bit_xor
    (state % 256) byte = xor_block 8 (state / 256) 0 (state % 256) byte low h in
    ap (λ s. bit_xor s byte) whole ∙ ap (bit_xor (state / 256 * 2 ^ 8 + state % 256)) (let e : byte ≡ 0 * 2 ^ 8 + byte = omega arith in e)
    ∙ kept ∙ ap (λ x. x * 2 ^ 8 + bit_xor (state % 256) byte) (xor_zero_r (state / 256))
    ∙ sym (xor_shifted (state / 256) 8 (bit_xor (state % 256) byte) (xor_lt 8 (state % 256) byte low h))

byte_split : (state byte : ℕ) → byte < 256 → crc_byte state byte ≡ bit_xor (crc_bits (bit_xor (state % 256) byte)) (state / 256)
unfolding crc_byte
byte_split state byte h =
    let e : byte % 256 ≡ byte = omega arith in
    ap (λ z. crc_bits (bit_xor state z)) e ∙ ap crc_bits (split_state state byte h)
    ∙ bits_linear (state / 256 * 256) (bit_xor (state % 256) byte)
    ∙ ap (λ x. bit_xor x (crc_bits (bit_xor (state % 256) byte))) (bits_back (state / 256))
    ∙ xor_comm (state / 256) (crc_bits (bit_xor (state % 256) byte))

-- some times eight zero bits are shifted in
abbrev pub shifted : ℕ → ℕ → ℕ
shifted zero n = n
shifted (suc k) n = shifted k (crc_bits n)

shifted_linear : (k a b : ℕ) → shifted k (bit_xor a b) ≡ bit_xor (shifted k a) (shifted k b)
shifted_linear zero a b = refl
shifted_linear (suc k) a b = ap (shifted k) (bits_linear a b) ∙ shifted_linear k (crc_bits a) (crc_bits b)

-- a number is the exclusive or of its lowest byte and of the rest
low_byte : (n : ℕ) → n ≡ bit_xor (n / 256 * 256) (n % 256)
low_byte n =
    let whole : n ≡ n / 256 * 2 ^ 8 + n % 256 = omega arith in
    whole ∙ sym (xor_shifted (n / 256) 8 (n % 256) (omega arith))

-- the lowest byte by itself, and the rest
shifted_split : (k n : ℕ) → shifted (suc k) n ≡ bit_xor (shifted (suc k) (n % 256)) (shifted k (n / 256))
shifted_split k n =
    ap (shifted (suc k)) (low_byte n) ∙ shifted_linear (suc k) (n / 256 * 256) (n % 256)
    ∙ ap (λ x. bit_xor (shifted k x) (shifted (suc k) (n % 256))) (bits_back (n / 256))
    ∙ xor_comm (shifted k (n / 256)) (shifted (suc k) (n % 256))

-- whether the rows from number i on are right
rows_right : ℕ → ℕ → List ℕ → Bool
rows_right k i [] = true
rows_right k i (x ∷ xs) = (x == shifted k i) && rows_right k (suc i) xs

and_both : (a b : Bool) → (a && b) ≡ true → (a ≡ true) × (b ≡ true)
and_both true b h = (refl, h)
and_both false b h = absurd (cc)

row_right : (t i : ℕ) (xs : List ℕ) (k : ℕ) → rows_right t i xs ≡ true → k < length xs → get_or xs k 0 ≡ shifted t (i + k)
unfolding rows_right
row_right t i [] k h in' = absurd (omega arith)
row_right t i (x ∷ xs) zero h in' = rw add-zero (eqb-true x (shifted t i) (and_both (x == shifted t i) (rows_right t (suc i) xs) h).0)
row_right t i (x ∷ xs) (suc k) h in' =
    let e : suc i + k ≡ i + suc k = omega arith in
    row_right t (suc i) xs k (and_both (x == shifted t i) (rows_right t (suc i) xs) h).1 (omega arith) ∙ ap (shifted t) e

-- every row of each table is right
table_right : rows_right 1 0 TABLE ≡ true
unfolding rows_right crc_bits crc_bit
table_right = refl

table_16_right : rows_right 2 0 TABLE_16 ≡ true
unfolding rows_right crc_bits crc_bit
table_16_right = refl

table_24_right : rows_right 3 0 TABLE_24 ≡ true
unfolding rows_right crc_bits crc_bit
table_24_right = refl

table_32_right : rows_right 4 0 TABLE_32 ≡ true
unfolding rows_right crc_bits crc_bit
table_32_right = refl

row_of : (t : ℕ) (xs : List ℕ) → rows_right t 0 xs ≡ true → (k : ℕ) → k < length xs → get_or xs k 0 ≡ shifted t k
row_of t xs right k h = row_right t 0 xs k right h ∙ ap (shifted t) (zero-add k)

table_row : (k : ℕ) → k < 256 → get_or TABLE k 0 ≡ crc_bits k
table_row k h = row_of 1 TABLE table_right k h

-- a word that is fed byte by byte is mixed in at once
fed_word : (state n : ℕ) → shifted 1 (bit_xor state n) ≡ bit_xor (crc_byte state (n % 256)) (n / 256)
unfolding crc_byte
fed_word state n =
    let e : n % 256 % 256 ≡ n % 256 = omega arith in
    ap (λ z. crc_bits (bit_xor state z)) (low_byte n ∙ xor_comm (n / 256 * 256) (n % 256))
    ∙ ap crc_bits (sym (xor_assoc state (n % 256) (n / 256 * 256)))
    ∙ bits_linear (bit_xor state (n % 256)) (n / 256 * 256)
    ∙ ap (bit_xor (crc_bits (bit_xor state (n % 256)))) (bits_back (n / 256))
    ∙ ap (λ z. bit_xor (crc_bits (bit_xor state z)) (n / 256)) (sym e)

-- a step by the table
pub step_by_table : (state byte : ℕ) → byte < 256
    → bit_xor (get_or TABLE (bit_xor (state % 256) byte) 0) (state / 256) ≡ crc_byte state byte
step_by_table state byte h =
    ap (λ x. bit_xor x (state / 256)) (table_row (bit_xor (state % 256) byte) (xor_lt 8 (state % 256) byte (omega arith) h))
    ∙ sym (byte_split state byte h)

-- a state keeps its 32 bits
bit_small : (n : ℕ) → n < 2 ^ 32 → crc_bit n < 2 ^ 32
bit_small n h =
    elim (bit_cases n) [
      | inl even ↦ rw (even_bit n even) (let g : n / 2 < 2 ^ 32 = omega arith in g)
      | inr odd ↦ rw (odd_bit n odd) (xor_lt 32 (n / 2) polynomial (omega arith) (lit< tt))
    ]

bits_small : (n : ℕ) → n < 2 ^ 32 → crc_bits n < 2 ^ 32
unfolding crc_bits
bits_small n h = bit_small _ (bit_small _ (bit_small _ (bit_small _ (bit_small _ (bit_small _ (bit_small _ (bit_small n h)))))))

byte_small : (state byte : ℕ) → state < 2 ^ 32 → crc_byte state byte < 2 ^ 32
unfolding crc_byte
byte_small state byte h = bits_small (bit_xor state (byte % 256)) (xor_lt 32 state (byte % 256) h (omega arith))

fed_small : (state : ℕ) (bytes : List ℕ) → state < 2 ^ 32 → crc_fed state bytes < 2 ^ 32
fed_small state [] h = h
fed_small state (b ∷ bytes) h = fed_small (crc_byte state b) bytes (byte_small state b h)

-- so a CRC has 32 bits
pub crc_small : (bytes : List ℕ) → crc bytes < 2 ^ 32
unfolding crc
crc_small bytes = xor_lt 32 (crc_fed 0xFFFFFFFF bytes) 0xFFFFFFFF (fed_small 0xFFFFFFFF bytes (lit< tt)) (lit< tt)

-- four bytes that are fed are a word that is mixed in at once
fed_whole : (state n : ℕ) → n < 2 ^ 32 → shifted 4 (bit_xor state n) ≡ crc_fed state (to_le_bytes w32 n)
fed_whole state n h =
    let one = crc_byte state (n % 256) in
    let two = crc_byte one (n / 256 % 256) in
    let three = crc_byte two (n / 256 / 256 % 256) in
    let four = crc_byte three (n / 256 / 256 / 256 % 256) in
    let none : n / 256 / 256 / 256 / 256 ≡ 0 = omega (arith, h) in
    let second : n / 256 % 256 ≡ byte_at 1 n = omega arith in
    let third : n / 256 / 256 % 256 ≡ byte_at 2 n = omega arith in
    let last : n / 256 / 256 / 256 % 256 ≡ byte_at 3 n = omega arith in
    ap (shifted 3) (fed_word state n) ∙ ap (shifted 2) (fed_word one (n / 256)) ∙ ap (shifted 1) (fed_word two (n / 256 / 256))
    ∙ fed_word three (n / 256 / 256 / 256) ∙ ap (bit_xor four) none ∙ xor_zero_r four
    ∙ ap (λ z. crc_byte three z) last ∙ ap (λ z. crc_byte (crc_byte two z) (byte_at 3 n)) third
    ∙ ap (λ z. crc_byte (crc_byte (crc_byte one z) (byte_at 2 n)) (byte_at 3 n)) second

-- a word by the tables
pub word_by_tables : (state n : ℕ) → state < 2 ^ 32 → n < 2 ^ 32
    → bit_xor (get_or TABLE_32 (bit_xor state n % 256) 0)
    (bit_xor (get_or TABLE_24 (bit_xor state n / 256 % 256) 0)
    (bit_xor (get_or TABLE_16 (bit_xor state n / 65536 % 256) 0) (get_or TABLE (bit_xor state n / 16777216) 0)))
    ≡ crc_fed state (to_le_bytes w32 n)
word_by_tables state n s h =
    let x = bit_xor state n in
    let small : x < 2 ^ 32 = xor_lt 32 state n s h in
    let first : get_or TABLE_32 (x % 256) 0 ≡ shifted 4 (x % 256) = row_of 4 TABLE_32 table_32_right (x % 256) (omega arith) in
    let second : get_or TABLE_24 (x / 256 % 256) 0 ≡ shifted 3 (x / 256 % 256) = row_of 3 TABLE_24 table_24_right (x / 256 % 256)
    (omega arith) in
    let third : get_or TABLE_16 (x / 65536 % 256) 0 ≡ shifted 2 (x / 65536 % 256) = row_of 2 TABLE_16 table_16_right (x / 65536 % 256)
    (omega arith) in
    let last : get_or TABLE (x / 16777216) 0 ≡ shifted 1 (x / 16777216) = row_of 1 TABLE table_right (x / 16777216)
    (omega (arith, small)) in
    let two : x / 256 / 256 ≡ x / 65536 = omega arith in
    let three : x / 65536 / 256 ≡ x / 16777216 = omega arith in
    let four : shifted 2 (x / 65536) ≡ bit_xor (shifted 2 (x / 65536 % 256)) (shifted 1 (x / 16777216))
    = shifted_split 1 (x / 65536) ∙ ap (λ z. bit_xor (shifted 2 (x / 65536 % 256)) (shifted 1 z)) three in
    let five : shifted 3 (x / 256) ≡ bit_xor (shifted 3 (x / 256 % 256)) (bit_xor (shifted 2 (x / 65536 % 256)) (shifted 1 (x / 16777216)))
    = shifted_split 2 (x / 256) ∙ ap (λ z. bit_xor (shifted 3 (x / 256 % 256)) (shifted 2 z)) two
    ∙ ap (bit_xor (shifted 3 (x / 256 % 256))) four in
    let six = shifted_split 3 x ∙ ap (bit_xor (shifted 4 (x % 256))) five in
    rw (first, second, third, last) (sym six ∙ fed_whole state n h)
