-- What a result keeps, whether it was bound or checked.
use Rattle.std.specs.Prelude.{ℕ, Option, Some, None}
use Rattle.tile_rebuild.specs.declared.parts.Parts.{Parts}
use Rattle.tile_rebuild.specs.declared.job.Done.{Done}
use Rattle.tile_rebuild.specs.declared.job.Done.TheVariants.{Bind, Check}
use Rattle.tile_rebuild.specs.Lines.{Colours, Bits}
use Rattle.tile_rebuild.specs.Values.{IsBoundTile, IsFlagTile}

abbrev pub done_parts : Done → Parts
done_parts (Bind done) = done.parts
done_parts (Check done) = done.parts

abbrev pub done_tile : Done → ℕ
done_tile (Bind done) = done.tile
done_tile (Check done) = done.tile

-- the lines that a tile was bound from, and those that it was checked by
abbrev pub done_colours : Done → Option Colours
done_colours (Bind done) = Some (record { picks = done.picks; columns = done.columns })
done_colours (Check done) = None

abbrev pub done_bits : Done → Option Bits
done_bits (Bind done) = None
done_bits (Check done) = Some (record { picks = done.picks; columns = done.columns })

-- the tile is there, and what was made of it is right for its lines
abbrev pub IsDoneRight : Done → Type 0
IsDoneRight (Bind done) = IsBoundTile done
IsDoneRight (Check done) = IsFlagTile done
