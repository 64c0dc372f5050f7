-- Where a fault of a configuration is: the part that it names, and the line of the text that makes it.
use Rattle.std.specs.Prelude.{◌≡◌, ◌≢◌, ℕ, ◌+◌, ◌-◌, ◌<◌, ◌≤◌, List, [], ◌∷◌, codes, length, take, drop, slice_index, Bool, true, false}
use Rattle.std.specs.Prelude.{◌==◌, is_some, ◌⊎◌, slice_get, Option, Some, None, option_map, Result, Ok, Err, if◌then◌else◌}
use Rattle.std.specs.Str.{IsTrimAsciiStart, IsUtf8}
use Rattle.toml.specs.Data.{Data, Members, get_member, as_table}
use Rattle.toml.specs.Errors.{IsBlank}
use Rattle.toml.specs.Parse.{parse_document}
use Rattle.lb_proxy.specs.Config.{Part, Said, list_at, table_at}
use Rattle.lb_proxy.specs.declared.config_fault.Place.{Place}
use Rattle.lb_proxy.specs.declared.config_fault.Place.TheVariants as place
use Rattle.lb_proxy.specs.declared.config_fault.Cause.{Cause}
use Rattle.lb_proxy.specs.declared.config_fault.Cause.TheVariants as cause
use Rattle.lb_proxy.specs.declared.position.Unread.{Unread}
use Rattle.lb_proxy.specs.declared.position.Unread.TheVariants as unread

-- a part that may be found
abbrev pub there : Result (Option Part) Said → Option Part
there (Ok part) = part
there (Err e) = None

-- the table of an entry, as a part at that place
abbrev pub placed : Place → Option Members → Option Part
placed place None = None
placed place (Some ms) = Some (place, ms)

abbrev pub entry_table : Place → Option Data → Option Part
entry_table place None = None
entry_table place (Some d) = placed place (as_table d)

abbrev pub entry_of : Place → ℕ → Result (List Data) Said → Option Part
entry_of place number (Err e) = None
entry_of place number (Ok entries) = entry_table place (slice_get entries number)

-- the entry of a list with this number, where it is a table
abbrev pub entry_there : Part → List ℕ → ℕ → Place → Option Part
entry_there part field number place = entry_of place number (list_at part field)

abbrev pub entry_in : Option Part → List ℕ → ℕ → Place → Option Part
entry_in None field number place = None
entry_in (Some part) field number place = entry_there part field number place

abbrev pub table_inside : Option Part → List ℕ → Place → Option Part
table_inside None field place = None
table_inside (Some part) field place = there (table_at part field place)

-- the part of a configuration at a place
abbrev pub part_at : Part → Place → Option Part
part_at top place.Top = Some top
part_at top place.Check = there (table_at top (codes "check") place.Check)
part_at top place.Status = there (table_at top (codes "status") place.Status)
part_at top place.Limits = there (table_at top (codes "limits") place.Limits)
part_at top (place.Pool number) = entry_there top (codes "pool") number (place.Pool number)
part_at top (place.PoolCheck number) =
    table_inside (entry_there top (codes "pool") number (place.PoolCheck number)) (codes "check") (place.PoolCheck number)
part_at top (place.Listen number) = entry_there top (codes "listen") number (place.Listen number)
part_at top (place.Backend pool number) =
    entry_in (entry_there top (codes "pool") pool (place.Backend pool number)) (codes "backends") number (place.Backend pool number)

-- the part has the field; of a fault by which it is missing the part is enough
abbrev pub has_or_misses : Option Part → List ℕ → Cause → Bool
has_or_misses None field c = false
has_or_misses (Some part) field cause.Missing = true
has_or_misses (Some part) field c = is_some (get_member field part.1)

-- a table has what a fault is about
abbrev pub shows : Members → Said → Bool
shows table said = has_or_misses (part_at (place.Top, table) said.0) said.1 said.2

-- a line begins at this place of the text
abbrev pub IsLineStart : List ℕ → ℕ → Type 0
IsLineStart text start = (start ≡ 0) ⊎ ((before : ℕ) × (start ≡ before + 1) × (slice_index text before ≡ 10))

-- whether a text has what the fault is about; `None` where it is no document
abbrev pub shown_by : List ℕ → Said → Option Bool
shown_by text said = option_map (λ table. shows table said) (parse_document text)

-- a statement begins here, at the start of a line. What is before it is a document that doesn't show what the fault is about, unless
-- nothing is. Up to the end of a later line the text is one that shows it, and up to the start of no line between them is it a document.
pub record BeginsAt (text : List ℕ) (said : Said) (start : ℕ) : Type 0 where
  pub line : IsLineStart text start
  pub before : (start ≡ 0) ⊎ (shown_by (take start text) said ≡ Some false)
  pub end : ℕ
  pub later : start < end
  pub within : end ≤ length text
  pub after : shown_by (take end text) said ≡ Some true
  pub between : (at : ℕ) → start < at → at < end → IsLineStart text at → shown_by (take at text) said ≡ None

-- up to a place the start of no line but the first, nor the text's end, ends a document that shows what the fault is about
abbrev pub IsNowhereTo : List ℕ → Said → ℕ → Type 0
IsNowhereTo text said place =
    (at : ℕ) → 0 < at → at ≤ place → (IsLineStart text at ⊎ (at ≡ length text)) → shown_by (take at text) said ≢ Some true

abbrev pub IsNowhere : List ℕ → Said → Type 0
IsNowhere text said = IsNowhereTo text said (length text)

-- why it isn't known whether a text shows what a fault is about; memory is wanting only where the text says something
abbrev pub IsUnread : List ℕ → Unread → Type 0
IsUnread text unread.NotText = ¬ (IsUtf8 text)
IsUnread text unread.OutOfMemory = ¬ (IsBlank text)

abbrev pub IsUnreadIn : List ℕ → Unread → Type 0
IsUnreadIn text e = (at : ℕ) × (at ≤ length text) × IsUnread (take at text) e

-- the line feeds of a text
abbrev pub feeds : List ℕ → ℕ
feeds [] = 0
feeds (byte ∷ text) = (if byte == 10 then 1 else 0) + feeds text

-- the number of the line at a place; the first line is 1
abbrev pub line_at : List ℕ → ℕ → ℕ
line_at text place = 1 + feeds (take place text)

-- the column of the first byte at a place or after it that is no white space; the first column is 1
abbrev pub IsColumn : List ℕ → ℕ → ℕ → Type 0
IsColumn text place column =
    (content : List ℕ) × IsTrimAsciiStart (drop place text) content × (column ≡ 1 + (length (drop place text) - length content))
