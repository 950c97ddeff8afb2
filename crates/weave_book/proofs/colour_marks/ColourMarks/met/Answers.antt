use Rattle.std.proofs.Common.{◌∙◌, subst, length-set, arith}
use Rattle.std.proofs.lemmas.List.{get_or_default}
use Rattle.weave_book.specs.Weaves.{mark}
use Rattle.weave_book.specs.declared.weaves.Weave.{Weave}
use Rattle.weave_book.specs.declared.weaves.Weave.TheVariants.{Blank}
use Rattle.weave_book.specs.inner.Parts.{IsPattern}
use Rattle.weave_book.proofs.Kept.{kept_more}
use Rattle.weave_book.proofs.colour_marks.ColourMarks.met.Goals as goal

pub invariant_of-self : goal.invariant_of-self
invariant_of-self c =
    let pattern = λ (w : Weave). IsPattern (λ x. mark w x c.args.self.now.pick) c.repeat.result c.marks_from.result in
    let weave = get_or_default c.args.self.now.weaves.now c.args.colour c.index-self-place.result Blank c.requires.colour in
    record {
      words_room = length-set c.args.self.now.words c.args.colour c.marks_from.result ∙ c.args.self.now.words_room;
      repeats_room = length-set c.args.self.now.repeats c.args.colour c.repeat.result ∙ c.args.self.now.repeats_room;
      kept = kept_more c.args.self.now.weaves.now c.args.self.now.pick c.args.colour c.repeat.result c.marks_from.result c.args.self.now.words c.args.self.now.repeats
          (let room = c.args.self.now.words_room in omega arith) (let room = c.args.self.now.repeats_room in omega arith)
          (subst pattern weave (record { few = c.repeat.ensures.few; again = c.repeat.ensures.again c.args.self.now.pick; cells = c.marks_from.ensures }))
          c.args.self.now.kept;
    }
