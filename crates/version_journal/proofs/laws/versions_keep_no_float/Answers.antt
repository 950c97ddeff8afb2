use Rattle.std.proofs.Common.{◌≡◌, false, ap}
use Rattle.std.specs.Prelude.{slice_get}
use Rattle.draft_model.specs.Drawdowns.{bound}
use Rattle.draft_model.specs.Floats.{keeps}
use Rattle.version_journal.specs.Journals.{history, versions}
use Rattle.version_journal.proofs.Papers.{sound, later_free, none_kept, all_free}
use Rattle.version_journal.proofs.laws.versions_keep_no_float.Goals as goal

pub returns-clause-opening : goal.returns-clause-opening
returns-clause-opening c design opening acts = ap (λ l. slice_get l 0) (sound design opening acts).are

pub returns-clause-later : goal.returns-clause-later
returns-clause-later c design opening acts k version fits of some is =
    none_kept c.a_cloth_keeps_a_float_where_one_is_told.ensures design opening version fits of
    (later_free design opening (history design opening acts) (sound design opening acts) k version some is)

pub returns-clause-all : goal.returns-clause-all
returns-clause-all c design opening acts fits of free =
    all_free (λ v. keeps design (bound design v) ≡ false) (versions design opening acts) opening (ap (λ l. slice_get l 0) (sound design opening acts).are) free
    (λ k version some is. none_kept c.a_cloth_keeps_a_float_where_one_is_told.ensures design opening version fits of
    (later_free design opening (history design opening acts) (sound design opening acts) k version some is))
