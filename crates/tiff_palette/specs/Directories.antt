-- The first directory of a file and its entries (TIFF 6.0, section 2).
use Rattle.std.specs.Prelude.{ℕ, ◌+◌, ◌*◌, ◌==◌, nat_le, List, map, Option, find, if◌then◌else◌}
use Rattle.std.specs.List.{range_with_len}
use Rattle.tiff_palette.specs.declared.entry.Entry.{Entry}
use Rattle.tiff_palette.specs.declared.entry.TheConstants.{SHORT}
use Rattle.tiff_palette.specs.Numbers.{number}

-- the header ends with the place of the first directory
abbrev pub directory_place : List ℕ → ℕ
directory_place bytes = number 4 4 bytes

-- a directory begins with the count of its entries
abbrev pub entry_count : List ℕ → ℕ
entry_count bytes = number 2 (directory_place bytes) bytes

-- behind the count stand the entries, of 12 bytes each
abbrev pub entry_place : List ℕ → ℕ → ℕ
entry_place bytes k = directory_place bytes + 2 + 12 * k

-- the bytes of a value of type SHORT or LONG
abbrev pub size_of : ℕ → ℕ
size_of kind = if kind == SHORT then 2 else 4

-- where the values of the entry at a place lie: in its last 4 bytes where these are room enough, else at the offset
-- that stands there
abbrev pub values_place : List ℕ → ℕ → ℕ → ℕ → ℕ
values_place bytes kind count place = if nat_le (size_of kind * count) 4 then place + 8 else number 4 (place + 8) bytes

-- the entry at a place: tag, type, count, and the values or their offset
unfoldable pub entry_at : List ℕ → ℕ → Entry
entry_at bytes place = record {
  tag = number 2 place bytes;
  kind = number 2 (place + 2) bytes;
  count = number 4 (place + 4) bytes;
  values = values_place bytes (number 2 (place + 2) bytes) (number 4 (place + 4) bytes) place;
}

-- the first n entries, in their order
unfoldable pub first_entries : List ℕ → ℕ → List Entry
first_entries bytes n = map (λ k. entry_at bytes (entry_place bytes k)) (range_with_len 0 n)

-- the first entry of a tag counts
unfoldable pub field_of : List ℕ → ℕ → Option Entry
field_of bytes tag = find (λ entry. entry.tag == tag) (first_entries bytes (entry_count bytes))
