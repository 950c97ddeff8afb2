-- The act of words, or their first fault.
use Rattle.std.proofs.Common.{◌≡◌, ap, sym, ◌∙◌}
use Rattle.std.specs.Prelude.{Option, Some, None, Ok, Err}
use Rattle.strokes.specs.Acts.{act_unless}
use Rattle.strokes.specs.declared.act.Act.{Act}
use Rattle.strokes.specs.declared.fault.ActFault.{ActFault}

pub told_fault : (act : Act) (found : Option ActFault) (fault : ActFault) → found ≡ Some fault → Err fault ≡ act_unless act found
told_fault act found fault is = sym (ap (act_unless act) is)

pub told_act : (one act : Act) (found : Option ActFault) → found ≡ None → one ≡ act → Ok one ≡ act_unless act found
told_act one act found is same = ap Ok same ∙ sym (ap (act_unless act) is)
