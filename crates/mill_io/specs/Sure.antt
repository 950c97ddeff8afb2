-- What contracts see of a shelf and of a sink whose room was made when they were made.
use Rattle.std.specs.Prelude.{ℕ, Bool, ◌&&◌, ◌||◌, nat_le, nat_lt, List, length, map, is_some}
use Rattle.mill_io.specs.Files.{File, content_of}
use Rattle.mill_io.specs.declared.sure_shelf.TheConstants.{NAME_ROOM}

-- bytes, and how many of them there is room for
pub record Kept : Type 0 where
  pub bytes : List ℕ
  pub room : ℕ

-- a file, and for how many bytes of content it has room
pub record Placed : Type 0 where
  pub file : File
  pub room : ℕ

-- a shelf: its files, its counts of faults, the name of the read that failed last, for how many files there is room, and for how many
-- bytes in each
pub record SureFiles : Type 0 where
  pub files : List File
  pub read_faults : ℕ
  pub write_faults : ℕ
  pub failed_name : List ℕ
  pub places : ℕ
  pub room : ℕ

-- the files of a shelf, from the places that are in use
abbrev pub files_in : List Placed → List File
files_in places = map (λ place. place.file) places

-- a sink: what it took, its count of faults, and for how many bytes there is room
pub record SureBytes : Type 0 where
  pub bytes : List ℕ
  pub faults : ℕ
  pub room : ℕ

-- whether the bytes have room under the name: they are not too many, and the name has its place, or it is short enough and a place is left
abbrev pub has_room : SureFiles → List ℕ → List ℕ → Bool
has_room shelf name bytes =
    nat_le (length bytes) shelf.room && (is_some (content_of shelf.files name) || (nat_le (length name) NAME_ROOM && nat_lt (length shelf.files) shelf.places))
