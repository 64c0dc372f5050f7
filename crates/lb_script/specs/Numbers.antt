-- A number as a script spells it, and its value.
use Rattle.std.specs.Prelude.{ℕ, Bool, not, ◌&&◌, ◌==◌, List, Option, Some, None, length, slice_index, nat_lt, if◌then◌else◌}
use Rattle.std.specs.Char.{is_ascii_digit}
use Rattle.std.specs.List.{list_all}
use Rattle.std.specs.Str.Parse.{digits_value}

-- one decimal digit or more, and no 0 before others
abbrev pub is_number_text : List ℕ → Bool
is_number_text word =
    nat_lt 0 (length word) && (not (slice_index word 0 == 48 && nat_lt 1 (length word)) && list_all is_ascii_digit word)

-- no plus at the front, and no 0 before other bytes
abbrev pub has_plain_front : List ℕ → Bool
has_plain_front word = not (slice_index word 0 == 43) && not (slice_index word 0 == 48 && nat_lt 1 (length word))

-- the number that a word spells, if it spells one below the bound
abbrev pub number_of : ℕ → List ℕ → Option ℕ
number_of bound word =
    if is_number_text word && nat_lt (digits_value 10 word) bound then Some (digits_value 10 word) else None
