use Rattle.mill_base.proofs.lemmas.Masks.{bit_at_window_below, bit_at_window_inside, bit_at_window_past}
use Rattle.mill_base.proofs.word.window.Goals as goal

pub returns-clause-below : goal.returns-clause-below
returns-clause-below c i = bit_at_window_below c.args.from c.args.count i c.requires.within

pub returns-clause-inside : goal.returns-clause-inside
returns-clause-inside c i = bit_at_window_inside c.args.from c.args.count i c.requires.within

pub returns-clause-past : goal.returns-clause-past
returns-clause-past c i = bit_at_window_past c.args.from c.args.count i c.requires.within
