use Rattle.studio_run.proofs.Complete.{decided}
use Rattle.studio_run.specs.Commands.{command_of}
use Rattle.std.proofs.Common.{Some, refl}
use Rattle.studio_run.proofs.laws.words_and_files_decide.Goals as goal

pub returns : goal.returns
returns c = λ words o run_log cause held tells reads writes faults is. decided (command_of words) words o run_log cause held (record {
  one_session = c.a_file_denotes_one_session.ensures.files held;
  no_rule = c.what_denotes_a_session_breaks_no_rule.ensures.files held;
  image = c.a_session_has_its_image.ensures.files (Some held);
  one_content = c.a_shelf_holds_one_content.ensures held;
  not_both = c.a_file_is_not_both_read_and_too_long.ensures held;
}) refl tells reads writes faults is
