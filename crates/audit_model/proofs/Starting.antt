-- Before the first line.
use Rattle.std.proofs.Common.{◌≡◌, ◌<◌, ℕ, false, List, [], ◌∷◌, ◌++◌, length, get_or, refl, sym, ap, subst, ◌∙◌, append_assoc, append-nil, arith, codes}
use Rattle.std.specs.Prelude.{replicate}
use Rattle.version_journal.specs.declared.run_log.Repeat.{Repeat}
use Rattle.session_file.specs.declared.session.Session.{Session}
use Rattle.shift_model.specs.Logs.{IsLoomLog}
use Rattle.report_text.specs.Reports.{loom_lines}
use Rattle.audit_model.specs.Lines.{design_line, first_line, shift_head}
use Rattle.audit_model.specs.States.{Part, face_of, repeats_of, start}
use Rattle.audit_model.specs.Reads.{Reaches}
use Rattle.audit_model.specs.Audits.{Begins}
use Rattle.audit_model.proofs.Basics.{at_replicate, length_replicate, texts_below-none}
use Rattle.audit_model.proofs.Growing.{head_of, text_open}
use Rattle.audit_model.proofs.Keeping.{not_both, wove_none}
use Rattle.audit_model.proofs.Pieces.{plain_by}
use Rattle.audit_model.proofs.Following.{design_is_line, head_is_line}

no_loom : (session : Session) (loom : ℕ) → loom < session.looms → repeats_of (start session) loom ≡ []
no_loom session loom h = ap (λ l. l ++ get_or (replicate session.looms []) loom []) (at_replicate session.looms loom [] [] h) ∙ at_replicate session.looms loom [] [] h

start_part : (session : Session) → 0 < length session.shifts → Part session (start session)
start_part session some = record {
  legal = record {
    journal = record {
      shifts = record { order = λ i j d up h. absurd (omega arith); before = λ i d h. absurd (omega arith) };
      merges = λ shift h. absurd (omega arith);
      replied = refl;
    };
    looms = length_replicate session.looms [];
    repeats = λ loom h. subst (λ (rs : List Repeat). IsLoomLog session [] 0 loom rs) (sym (at_replicate session.looms loom [] [] h)) (record {
      shifts = record { order = λ i j d up h. absurd (omega arith); before = λ i d h. absurd (omega arith) };
      counts = λ shift h. absurd (omega arith);
      versions_rise = λ i j d up h. absurd (omega arith);
      current = λ i d h. absurd (omega arith);
      woven = λ i d h. absurd (omega arith);
    });
  };
  within = some;
  looms = length_replicate session.looms [];
  of_shift = λ k d h. absurd (omega arith);
  merges = record { painters = λ k d h. absurd (omega arith); numbers = λ painter h. refl; few = λ painter h. omega arith };
  replied = refl;
  repeats = λ loom h. wove_none session (start session) loom (at_replicate session.looms loom [] [] h);
  ended = λ t. absurd (not_both false refl t);
}

pub read_start : (session : Session) → 0 < length session.shifts → Reaches session [] (start session) (first_line ∷ design_line session ∷ shift_head 0 ∷ [])
read_start session some = record {
  part = start_part session some;
  told = text_open session (start session) refl
      ∙ ap (λ l. head_of session ++ ((shift_head 0 ++ []) ++ l)) (texts_below-none session.looms (λ loom. loom_lines 0 (face_of session loom) loom (repeats_of (start session) loom))
      (λ loom h. ap (loom_lines 0 (face_of session loom) loom) (no_loom session loom h)))
      ∙ ap (λ l. head_of session ++ l) (append-nil (shift_head 0 ++ []))
      ∙ append_assoc first_line (design_line session) (shift_head 0 ++ []);
  lines = ((codes "studio 1", refl, plain_by (codes "studio 1") refl), (design_is_line session, (head_is_line 0, tt)));
  only = λ log legal b. record { entries = (log.entries, refl); repeats = λ loom h. subst (λ (l : List Repeat). Begins l (get_or log.looms loom [])) (sym (no_loom session loom h)) (get_or log.looms loom [], refl) };
}
