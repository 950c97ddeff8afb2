-- The values of fields (TIFF 6.0, section 2). SHORT is a number of 2 bytes, LONG one of 4.
use Rattle.std.specs.Prelude.{ℕ, ◌+◌, ◌*◌, ◌==◌, Bool, ◌||◌, List}
use Rattle.std.specs.Option.{option_map_or}
use Rattle.tiff_palette.specs.declared.entry.Entry.{Entry}
use Rattle.tiff_palette.specs.declared.entry.TheConstants.{SHORT, LONG}
use Rattle.tiff_palette.specs.Numbers.{number}
use Rattle.tiff_palette.specs.Directories.{field_of, size_of}

-- the types that are taken
abbrev pub is_short : Entry → Bool
is_short entry = entry.kind == SHORT

abbrev pub is_whole : Entry → Bool
is_whole entry = entry.kind == SHORT || entry.kind == LONG

-- where the values of an entry end
abbrev pub values_end : Entry → ℕ
values_end entry = entry.values + size_of entry.kind * entry.count

-- value k of an entry
unfoldable pub value_at : List ℕ → Entry → ℕ → ℕ
value_at bytes entry k = number (size_of entry.kind) (entry.values + size_of entry.kind * k) bytes

-- value k of a field
unfoldable pub value_of : ℕ → ℕ → List ℕ → ℕ
value_of tag k bytes = option_map_or (λ entry. value_at bytes entry k) (field_of bytes tag) 0

-- the one value of a field, or the default where the field is absent
unfoldable pub value_or : ℕ → ℕ → List ℕ → ℕ
value_or tag default bytes = option_map_or (λ entry. value_at bytes entry 0) (field_of bytes tag) default
