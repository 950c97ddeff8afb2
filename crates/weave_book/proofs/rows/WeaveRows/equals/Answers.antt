use Rattle.std.proofs.Common.{◌≡◌, ℕ, List, Bool, [], false, refl, sym, ap, ◌∙◌, length, get_or}
use Rattle.std.proofs.lemmas.Bool.{both_ways}
use Rattle.weave_book.specs.Rows.{rows_of}
use Rattle.weave_book.proofs.Blocks.{width_of_block, height_of_block}
use Rattle.weave_book.proofs.rows.WeaveRows.equals.Goals as goal

pub returns-then-self-other : goal.returns-then-self-other
returns-then-self-other c = (
  λ no. absurd (both_ways false refl no),
  λ same. absurd (c.if-self-other.true (sym (width_of_block c.self.inside.width c.self.inside.height c.self.inside.words c.self.invariant)
      ∙ ap (λ (rows : List (List Bool)). length (get_or rows 0 [])) (c.self.view_is ∙ same ∙ sym c.other.view_is)
      ∙ width_of_block c.other.inside.width c.other.inside.height c.other.inside.words c.other.invariant)),
)

pub returns-then-self-other-2 : goal.returns-then-self-other-2
returns-then-self-other-2 c = (
  λ no. absurd (both_ways false refl no),
  λ same. absurd (c.if-self-other-2.true (sym (height_of_block c.self.inside.width c.self.inside.height c.self.inside.words)
      ∙ ap (λ (rows : List (List Bool)). length rows) (c.self.view_is ∙ same ∙ sym c.other.view_is)
      ∙ height_of_block c.other.inside.width c.other.inside.height c.other.inside.words)),
)

pub returns : goal.returns
returns c =
    let sizes : rows_of c.self.inside.width c.self.inside.height c.other.inside.words ≡ rows_of c.other.inside.width c.other.inside.height c.other.inside.words =
    ap (λ (w : ℕ). rows_of w c.self.inside.height c.other.inside.words) c.if-self-other.false ∙ ap (λ (h : ℕ). rows_of c.other.inside.width h c.other.inside.words) c.if-self-other-2.false in
    (λ yes_. sym c.self.view_is ∙ c.same_rows.ensures.0 yes_ ∙ sizes ∙ c.other.view_is, λ same. c.same_rows.ensures.1 (c.self.view_is ∙ same ∙ sym c.other.view_is ∙ sym sizes))
