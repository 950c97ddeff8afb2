use Rattle.std.proofs.Common.{◌≡◌, Bool, List, true, false, get_or, refl, ap}
use Rattle.std.proofs.lemmas.Bool.{both_ways}
use Rattle.tile_rebuild.proofs.bit_lines.BitLines.agree.Goals as goal

pub returns-then-not-same_picks : goal.returns-then-not-same_picks
returns-then-not-same_picks c = (
  (λ no. absurd (both_ways false refl no)),
  (λ lines.
      let same : c.same_picks.result ≡ true = c.same_picks.ensures.differ lines.along_picks in
      cc c.if-not-same_picks.true),
)

pub returns : goal.returns
returns c = (
  (λ yes. record {
    along_picks = λ b x hb hx. ap (λ (row : List Bool). get_or row x false) (c.same_picks.ensures.same c.if-not-same_picks.false b hb);
    up_columns = c.same_columns.ensures.same yes;
  }),
  (λ lines. c.same_columns.ensures.differ lines.up_columns),
)
