-- CRC-32 bit by bit (the checksum of IEEE 802.3 in its reflected form): a state of 32 bits goes through the bits of a text,
-- each byte's lowest bit first.
use Rattle.std.specs.Prelude.{◌≡◌, ℕ, ◌/◌, ◌%◌, ◌==◌, bit_xor, List, fold, codes, if◌then◌else◌, refl}

-- the generator x^32 + x^26 + x^23 + x^22 + x^16 + x^12 + x^11 + x^10 + x^8 + x^7 + x^5 + x^4 + x^2 + x + 1, its highest
-- power left out and its bits reflected
abbrev pub polynomial : ℕ
polynomial = 0xEDB88320

-- one bit is shifted out; where it was 1, the polynomial is subtracted (which is exclusive or)
unfoldable pub crc_bit : ℕ → ℕ
crc_bit n = if n % 2 == 1 then bit_xor (n / 2) polynomial else n / 2

-- eight bits are shifted out
unfoldable pub crc_bits : ℕ → ℕ
crc_bits n = crc_bit (crc_bit (crc_bit (crc_bit (crc_bit (crc_bit (crc_bit (crc_bit n)))))))

-- the state after one more byte, which counts by its eight bits
unfoldable pub crc_byte : ℕ → ℕ → ℕ
crc_byte state byte = crc_bits (bit_xor state (byte % 256))

-- the state after more bytes
abbrev pub crc_fed : ℕ → List ℕ → ℕ
crc_fed state bytes = fold crc_byte state bytes

-- the CRC of what a state was fed: its 32 bits inverted
abbrev pub crc_last : ℕ → ℕ
crc_last state = bit_xor state 0xFFFFFFFF

-- the CRC-32 of some bytes
unfoldable pub crc : List ℕ → ℕ
crc bytes = crc_last (crc_fed 0xFFFFFFFF bytes)

-- the standard's check value
pub crc-check : crc (codes "123456789") ≡ 0xcbf43926
unfolding crc crc_byte crc_bits crc_bit
crc-check = refl
