-- What holds of a core after its calls.
use Rattle.std.proofs.Common.{◌≡◌, ◌+◌, ◌^◌, ◌<◌, ◌||◌, ℕ, Bool, true, false, cond, List, [], ◌∷◌, ◌++◌, length, get_or, set, suc, replicate, length-append, length-set, refl, sym, ap, subst, ◌∙◌, arith}
use Rattle.std.specs.Prelude.{All, Option, Some, None, IfSome, is_some, unwrap_or}
use Rattle.std.specs.Arc.{arc_value}
use Rattle.std.specs.Option.{option_or}
use Rattle.std.proofs.lemmas.List.{get_or-replicate, length-replicate}
use Rattle.std.proofs.lemmas.Bool.{both_ways, false_from_ne_true}
use Rattle.mill_base.specs.declared.size.Size.{Size}
use Rattle.point_paper.specs.Papers.{PaperCells, BitCells, IsBitPaper, bit_cell, cell_of, covers}
use Rattle.point_paper.specs.declared.paper.Span.{Span}
use Rattle.point_paper.proofs.lemmas.Cells.{IsPaper-paper_by, cell_of-paper_by}
use Rattle.strokes.specs.Paints.{after, paints, size_of}
use Rattle.strokes.specs.Spans.{AreSpansOf, PreparedAct, cover}
use Rattle.draft_model.specs.declared.design.Design.{Design}
use Rattle.draft_model.specs.declared.float_run.FloatRun.{FloatRun}
use Rattle.draft_model.specs.Designs.{Fits, IsBitsOf, IsPaperOf}
use Rattle.draft_model.specs.Drawdowns.{bound}
use Rattle.draft_model.specs.Floats.{first_float}
use Rattle.card_image.specs.Sets.{CardsValue, cards_by, cards_of, design_by}
use Rattle.version_journal.specs.declared.entry.Entry.{Entry}
use Rattle.version_journal.specs.Journals.{float_kept}
use Rattle.tile_grid.specs.Near.{any_cell}
use Rattle.tile_grid.specs.Tiles.{GridValue, tile_of, tiles}
use Rattle.tile_grid.proofs.lemmas.Near.{any_cell_here}
use Rattle.tile_marks.specs.Marks.{NoneFrom}
use Rattle.tile_rebuild.specs.declared.part.Part.{Part}
use Rattle.tile_rebuild.specs.declared.parts.Parts.{Parts}
use Rattle.tile_rebuild.specs.Lines.{AreBitsOf, AreColoursOf}
use Rattle.tile_rebuild.specs.Rebuilds.{IsPut}
use Rattle.tile_rebuild.specs.Tiles.{grid_at, grid_of, has_long, part_at, parts_of}
use Rattle.tile_rebuild.specs.Values.{BoundTile, FlagTile, IsBoundTile, IsFlagTile}
use Rattle.studio_core.specs.Cores.{CoreValue, IsCentral, IsCore}
use Rattle.studio_core.specs.Gives.{IsNearClear}
use Rattle.studio_core.specs.Touches.{bind_tiles, check_tiles, touches}
use Rattle.studio_core.specs.declared.rooms.Rooms.{Rooms}
use Rattle.studio_core.specs.declared.opening.Opened.{Opened}
use Rattle.studio_core.specs.inner.Opened.{IsOpened}
use Rattle.studio_core.specs.inner.Rooms.{AreRooms}
use Rattle.studio_core.proofs.Central.{DifferIn, IsLocal, all_bound, bound_of_design, bound_put, flag_put, painted, picks-bound, whole_bound}

-- ---- the start

-- a core by what it keeps
pub core_is : (design : Design) (paper : PaperCells) (entries entries' : List Entry) (spare spare' : ℕ) (cards cards' : CardsValue) (bits bits' : BitCells) (bind bind' check check' flags flags' : List Bool)
    → entries ≡ entries' → spare ≡ spare' → cards ≡ cards' → bits ≡ bits' → bind ≡ bind' → check ≡ check' → flags ≡ flags'
    → (let one : CoreValue = record { design = design; paper = paper; entries = entries; spare = spare; version = 0; cards = cards; bits = bits; bind = bind; check = check; flags = flags; installed = 0 } in
    let other : CoreValue = record { design = design; paper = paper; entries = entries'; spare = spare'; version = 0; cards = cards'; bits = bits'; bind = bind'; check = check'; flags = flags'; installed = 0 } in
    one ≡ other)
core_is design paper entries entries' spare spare' cards cards' bits bits' bind bind' check check' flags flags' a b c d e f g = rw (a, b, c, d, e, f, g) refl

pub started_core : (design : Design) (opening : PaperCells) (opened : Opened) (entries : List Entry) (spare : ℕ) (bind check : List Bool) → Fits design → IsPaperOf design opening → IsOpened design opening opened
    → entries ≡ [] → spare < 2 ^ 32 → bind ≡ replicate (tiles (grid_of design)) false → check ≡ replicate (tiles (grid_of design)) false
    → IsCore (record { design = design; paper = opening; entries = entries; spare = spare; version = 0; cards = arc_value opened.cards; bits = opened.bits; bind = bind; check = check; flags = opened.flags; installed = 0 })
started_core design opening opened entries spare bind check fits is made none few binds checks =
    let count = tiles (grid_of design) in
    let empty = ap length none in
    record {
      fits = fits;
      tied = made.tied;
      of_paper = is;
      whole_paper = made.whole;
      of_bits = subst (λ (b : BitCells). IsBitsOf design b) (sym made.bits_are) (bound_of_design design opening is);
      whole_bits = subst (λ (b : BitCells). IsBitPaper b) (sym made.bits_are) (whole_bound design opening);
      for_bind = ap length binds ∙ length-replicate count false;
      for_check = ap length checks ∙ length-replicate count false;
      for_flags = ap length made.flags_are ∙ length-replicate count false;
      central = record {
        cells = λ c p _ _ _. ap (λ (b : BitCells). bit_cell b c p) made.bits_are;
        long = λ t h _. ap (λ (xs : List Bool). get_or xs t false) made.flags_are ∙ get_or-replicate count t false false h ∙ sym (made.none_long t h);
      };
      of_cards = ap (λ (cards : CardsValue). cards.design) made.cards_are ∙ ap (design_by design.casting) (picks-bound design opening ∙ is.picks);
      for_version = omega arith;
      for_entries = omega arith;
    }

-- ---- painting

-- what spans cover has the colour of one of them
cover_colour : (n : ℕ) (spans : List Span) (c p : ℕ) → All (λ span. span.colour < n) spans → IfSome (cover spans c p) (λ colour. colour < n)
cover_colour n [] c p each = tt
cover_colour n (span ∷ later) c p each =
    either (cover later c p) (covers span c p) span.colour (cover_colour n later c p (λ k d h. each (suc k) d (omega arith))) (each 0 span (omega arith))
  where
    either : (o : Option ℕ) (b : Bool) (colour : ℕ) → IfSome o (λ x. x < n) → colour < n → IfSome (option_or o (cond b (Some colour) None)) (λ x. x < n)
    either (Some x) b colour one other = one
    either None true colour one other = other
    either None false colour one other = tt

unwrapped : (n x : ℕ) (o : Option ℕ) → IfSome o (λ y. y < n) → x < n → unwrap_or o x < n
unwrapped n x None one other = other
unwrapped n x (Some y) one other = one

sized : ℕ → ℕ → Size
sized columns picks = record { columns = columns; picks = picks }

sizes : (design : Design) (paper : PaperCells) → IsPaperOf design paper → size_of paper ≡ design.size
unfolding sized
sizes design paper is = ap (λ n. sized n paper.picks) is.columns ∙ ap (λ n. sized design.size.columns n) is.picks

-- the paper after an act of the design is of the design
pub after_is : (design : Design) (paper : PaperCells) (act : PreparedAct) → IsPaperOf design paper → act.size ≡ design.size → AreSpansOf act.motif act.size act.act act.spans
    → All (λ span. span.colour < length design.book) act.spans → IsPaperOf design (after act.motif paper act.act)
after_is design paper act is same spans colours =
    record {
      columns = is.columns;
      picks = is.picks;
      colours = λ c p hc hp.
          subst (λ (n : ℕ). n < length design.book) (sym (cell_of-paper_by paper.columns paper.picks (λ c p. unwrap_or (paints act.motif (size_of paper) act.act c p) (cell_of paper c p)) c p hc hp))
          (unwrapped (length design.book) (cell_of paper c p) (paints act.motif (size_of paper) act.act c p)
          (subst (λ (s : Size). IfSome (paints act.motif s act.act c p) (λ colour. colour < length design.book)) (same ∙ sym (sizes design paper is))
          (subst (λ (o : Option ℕ). IfSome o (λ colour. colour < length design.book))
          (spans.cells c p (subst (λ (s : Size). c < s.columns) (sizes design paper is ∙ sym same) hc) (subst (λ (s : Size). p < s.picks) (sizes design paper is ∙ sym same) hp))
          (cover_colour (length design.book) act.spans c p colours)))
          (is.colours c p hc hp));
    }

nothing : (o : Option ℕ) (x : ℕ) → is_some o ≡ false → unwrap_or o x ≡ x
nothing None x h = refl
nothing (Some y) x h = absurd (both_ways true h refl)

-- tiles that an act does not touch have the cells that they had
after_differs : (design : Design) (paper : PaperCells) (act : PreparedAct) → IsPaperOf design paper → act.size ≡ design.size
    → DifferIn design (touches (grid_of design) act.motif act.size act.act) paper (after act.motif paper act.act)
unfolding touches
after_differs design paper act is same c p hc hp far =
    let wide : c < paper.columns = subst (λ n. c < n) (sym is.columns) hc in
    let high : p < paper.picks = subst (λ n. p < n) (sym is.picks) hp in
    cell_of-paper_by paper.columns paper.picks (λ c p. unwrap_or (paints act.motif (size_of paper) act.act c p) (cell_of paper c p)) c p wide high
    ∙ nothing (paints act.motif (size_of paper) act.act c p) (cell_of paper c p)
    (subst (λ (s : Size). is_some (paints act.motif s act.act c p) ≡ false) (same ∙ sym (sizes design paper is))
    (false_from_ne_true (is_some (paints act.motif act.size act.act c p)) (λ some.
    both_ways (any_cell (grid_of design) (tile_of (grid_of design) c p) (λ c p. is_some (paints act.motif act.size act.act c p))) far
    (any_cell_here (grid_of design) (tile_of (grid_of design) c p) (λ c p. is_some (paints act.motif act.size act.act c p))
    (record { c = c; p = p; c_low = hc; p_low = hp; of_tile = refl; passes = some })))))

one_entry : (old new : List Entry) (entry : Entry) → new ≡ old ++ entry ∷ [] → length new ≡ length old + 1
one_entry old new entry is = ap length is ∙ length-append old (entry ∷ [])

pub painted_core : (core : CoreValue) (act : PreparedAct) (paper : PaperCells) (entry : Entry) (entries : List Entry) (spare : ℕ) (bind check : List Bool) → IsCore core → IsLocal core.design
    → act.size ≡ core.design.size → AreSpansOf act.motif act.size act.act act.spans → All (λ span. span.colour < length core.design.book) act.spans
    → paper ≡ after act.motif core.paper act.act → entries ≡ core.entries ++ entry ∷ [] → spare + 1 ≡ core.spare
    → length bind ≡ tiles (grid_of core.design) → length check ≡ tiles (grid_of core.design)
    → ((u : ℕ) → u < tiles (grid_of core.design) → get_or bind u false ≡ (get_or core.bind u false || bind_tiles (grid_of core.design) act.motif act.size act.act u))
    → ((u : ℕ) → u < tiles (grid_of core.design) → get_or check u false ≡ (get_or core.check u false || check_tiles (grid_of core.design) act.motif act.size act.act u))
    → IsCore (record core { paper = paper; entries = entries; spare = spare; bind = bind; check = check })
painted_core core act paper entry entries spare bind check is laws same spans colours paper_is entries_are spare_is long_bind long_check binds checks =
    let design = core.design in
    let new = after_is design core.paper act is.of_paper same spans colours in
    let whole = IsPaper-paper_by core.paper.columns core.paper.picks (λ c p. unwrap_or (paints act.motif (size_of core.paper) act.act c p) (cell_of core.paper c p)) in
    let more = one_entry core.entries entries entry entries_are in
    subst (λ (p : PaperCells). IsCore (record core { paper = p; entries = entries; spare = spare; bind = bind; check = check })) (sym paper_is)
    (record {
      fits = is.fits;
      tied = is.tied;
      of_paper = new;
      whole_paper = whole;
      of_bits = is.of_bits;
      whole_bits = is.whole_bits;
      for_bind = long_bind;
      for_check = long_check;
      for_flags = is.for_flags;
      central = painted design (touches (grid_of design) act.motif act.size act.act) core.paper (after act.motif core.paper act.act) core.bits core.bind core.check core.flags bind check is.fits laws is.of_paper new
          (after_differs design core.paper act is.of_paper same) is.central binds checks;
      of_cards = is.of_cards;
      for_version = (let h = is.for_version in omega arith);
      for_entries = (let h = is.for_entries in omega arith);
    })

-- ---- settling

pub settled_core : (core : CoreValue) (bits : BitCells) (bind check flags : List Bool) → IsCore core → bits ≡ bound core.design core.paper → IsCentral core.design core.paper bits bind check flags
    → length bind ≡ length core.bind → length check ≡ length core.check → length flags ≡ length core.flags → IsCore (record core { bits = bits; bind = bind; check = check; flags = flags })
settled_core core bits bind check flags is bits_are central long_bind long_check long_flags = record {
  fits = is.fits;
  tied = is.tied;
  of_paper = is.of_paper;
  whole_paper = is.whole_paper;
  of_bits = subst (λ (b : BitCells). IsBitsOf core.design b) (sym bits_are) (bound_of_design core.design core.paper is.of_paper);
  whole_bits = subst (λ (b : BitCells). IsBitPaper b) (sym bits_are) (whole_bound core.design core.paper);
  for_bind = long_bind ∙ is.for_bind;
  for_check = long_check ∙ is.for_check;
  for_flags = long_flags ∙ is.for_flags;
  central = central;
  of_cards = is.of_cards;
  for_version = is.for_version;
  for_entries = is.for_entries;
}

-- once no mark stands the bits are the bound paper, and the flags are right for them
pub bits_bound : (core : CoreValue) → IsCore core → NoneFrom core.bind 0 → core.bits ≡ bound core.design core.paper
bits_bound core is clear = all_bound core.design core.paper core.bits core.bind is.of_paper is.of_bits is.whole_bits is.central.cells clear

pub flags_right : (core : CoreValue) → IsCore core → NoneFrom core.bind 0 → NoneFrom core.check 0 → (t : ℕ) → t < tiles (grid_of core.design)
    → get_or core.flags t false ≡ has_long core.design core.bits t
flags_right core is bound_clear check_clear t h =
    is.central.long t h (check_clear t (omega arith)) ∙ ap (λ (b : BitCells). has_long core.design b t) (sym (bits_bound core is bound_clear))

pub float_right : (core : CoreValue) (float : Option FloatRun) → IsCore core → NoneFrom core.bind 0 → float ≡ first_float core.design core.bits → float ≡ float_kept core.design core.paper
float_right core float is clear first = first ∙ ap (λ (b : BitCells). first_float core.design b) (bits_bound core is clear)

pub cards_right : (core : CoreValue) (cards : CardsValue) → IsCore core → NoneFrom core.bind 0 → cards ≡ cards_by core.design core.bits → cards ≡ cards_of core.design core.paper
cards_right core cards is clear cut = cut ∙ ap (cards_by core.design) (bits_bound core is clear)

pub none_some : {A : Type 0} (o : Option A) (x : A) → o ≡ None → o ≡ Some x → ⊥
none_some o x none some = cc

-- ---- results

pub bound_core : (core : CoreValue) (done : BoundTile) (bits : BitCells) (bind : List Bool) (installed : ℕ) → IsCore core → done.parts ≡ parts_of core.design → IsBoundTile done
    → AreColoursOf done.part core.paper done.picks done.columns → IsPut (part_at (grid_of core.design) done.tile) done.cells core.bits bits → IsBitPaper bits → bind ≡ set core.bind done.tile false
    → IsCore (record core { bits = bits; bind = bind; installed = installed })
bound_core core done bits bind installed is of done_is lines put whole bind_is =
    let design = core.design in
    let place : done.part ≡ part_at (grid_of design) done.tile = done_is.place ∙ ap (λ (p : Parts). part_at (grid_at p) done.tile) of in
    subst (λ (marks : List Bool). IsCore (record core { bits = bits; bind = marks; installed = installed })) (sym bind_is)
    (record {
      fits = is.fits;
      tied = is.tied;
      of_paper = is.of_paper;
      whole_paper = is.whole_paper;
      of_bits = record { columns = put.wide ∙ is.of_bits.columns; picks = put.tall ∙ is.of_bits.picks };
      whole_bits = whole;
      for_bind = length-set core.bind done.tile false ∙ is.for_bind;
      for_check = is.for_check;
      for_flags = is.for_flags;
      central = record {
        cells = bound_put design done.tile (part_at (grid_of design) done.tile) core.paper core.bits bits done.picks done.columns core.bind done.cells is.fits refl is.of_paper is.central.cells
            (done_is.right design is.fits (sym of)) (subst (λ (p : Part). AreColoursOf p core.paper done.picks done.columns) place lines) put;
        long = is.central.long;
      };
      of_cards = is.of_cards;
      for_version = is.for_version;
      for_entries = is.for_entries;
    })

pub flag_core : (core : CoreValue) (done : FlagTile) (check flags : List Bool) (installed : ℕ) → IsCore core → IsLocal core.design → done.parts ≡ parts_of core.design → IsFlagTile done
    → IsNearClear (grid_of core.design) done.tile core.bind → AreBitsOf done.part core.bits done.picks done.columns
    → check ≡ set core.check done.tile false → flags ≡ set core.flags done.tile done.flag
    → IsCore (record core { check = check; flags = flags; installed = installed })
flag_core core done check flags installed is laws of done_is clear lines check_is flags_are =
    let design = core.design in
    let place : done.part ≡ part_at (grid_of design) done.tile = done_is.place ∙ ap (λ (p : Parts). part_at (grid_at p) done.tile) of in
    let there : done.tile < tiles (grid_of design) = subst (λ (p : Parts). done.tile < tiles (grid_at p)) of done_is.there in
    subst (λ (marks : List Bool). IsCore (record core { check = marks; flags = flags; installed = installed })) (sym check_is)
    (subst (λ (marks : List Bool). IsCore (record core { check = set core.check done.tile false; flags = marks; installed = installed })) (sym flags_are)
    (record {
      fits = is.fits;
      tied = is.tied;
      of_paper = is.of_paper;
      whole_paper = is.whole_paper;
      of_bits = is.of_bits;
      whole_bits = is.whole_bits;
      for_bind = is.for_bind;
      for_check = length-set core.check done.tile false ∙ is.for_check;
      for_flags = length-set core.flags done.tile done.flag ∙ is.for_flags;
      central = record {
        cells = is.central.cells;
        long = flag_put design done.tile done.part core.paper core.bits core.bind core.check core.flags done.picks done.columns done.flag is.fits laws place is.of_paper is.of_bits is.central
            (subst (λ n. done.tile < n) (sym is.for_flags) there) (done_is.right design is.fits (sym of)) lines clear;
      };
      of_cards = is.of_cards;
      for_version = is.for_version;
      for_entries = is.for_entries;
    }))

-- another row in the same room
pub rooms_row : (design : Design) (rooms : Rooms) (row : List Bool) → AreRooms design rooms → length row ≡ length rooms.row → AreRooms design (record rooms { row = row })
rooms_row design rooms row are same = record {
  for_picks = are.for_picks;
  for_columns = are.for_columns;
  picks_wide = are.picks_wide;
  picks_high = are.picks_high;
  columns_wide = are.columns_wide;
  columns_high = are.columns_high;
  for_rows = are.for_rows;
  for_long = are.for_long;
  for_cells = are.for_cells;
  for_row = same ∙ are.for_row;
  for_whole = are.for_whole;
  for_marked = are.for_marked;
  for_touched = are.for_touched;
  for_near = are.for_near;
}

-- other sets in the same room
pub rooms_sets : (design : Design) (rooms : Rooms) (touched near : List Bool) → AreRooms design rooms → length touched ≡ tiles (grid_of design) → length near ≡ tiles (grid_of design)
    → AreRooms design (record rooms { touched = touched; near = near })
rooms_sets design rooms touched near are for_touched for_near = record {
  for_picks = are.for_picks;
  for_columns = are.for_columns;
  picks_wide = are.picks_wide;
  picks_high = are.picks_high;
  columns_wide = are.columns_wide;
  columns_high = are.columns_high;
  for_rows = are.for_rows;
  for_long = are.for_long;
  for_cells = are.for_cells;
  for_row = are.for_row;
  for_whole = are.for_whole;
  for_marked = are.for_marked;
  for_touched = for_touched;
  for_near = for_near;
}

pub clear_of : (design : Design) (grid : GridValue) (t tile : ℕ) (marks : List Bool) → grid ≡ grid_of design → t ≡ tile → IsNearClear grid t marks → IsNearClear (grid_of design) tile marks
clear_of design grid t tile marks grid_is t_is clear =
    subst (λ (g : GridValue). IsNearClear g tile marks) grid_is (subst (λ n. IsNearClear grid n marks) t_is clear)
