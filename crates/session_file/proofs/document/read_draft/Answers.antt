use Rattle.std.proofs.Common.{◌≡◌, [], subst}
use Rattle.std.proofs.lemmas.Result.{err_from_is_err_and}
use Rattle.toml.specs.View.{table_view}
use Rattle.session_rules.specs.Faults.{TellsFirst}
use Rattle.session_rules.specs.Paths.{path_of}
use Rattle.session_file.specs.declared.draft.SessionDraft.{SessionDraft}
use Rattle.session_file.specs.Rules.{known_rules, numbers, session_rules, value_rules}
use Rattle.session_file.specs.Values.{draft_of, format_in, head_of}
use Rattle.session_file.proofs.Drafts.{none_of_three, told_last}
use Rattle.session_file.proofs.document.read_draft.Goals as goal

pub returns-in_err-check_keys-clause-reads : goal.returns-in_err-check_keys-clause-reads
unfolding session_rules draft_of head_of
returns-in_err-check_keys-clause-reads c =
    let path = path_of c.args.path.now in
    let ms = table_view c.args.table.now in
    let read = c.in_ok-draft.ensures.reads in
    let r = c.in_err-check_keys.field-0.0 in
    let p = err_from_is_err_and c.from_residual-in_err-check_keys.result c.from_residual-in_err-check_keys.ensures.1 in
    rw (p.1, p.2)
    (told_last (value_rules path ms) (numbers (draft_of ms) path) (known_rules (format_in ms) path ms) r read.0
    (subst (λ (d : SessionDraft). numbers d path ≡ []) read.1 c.in_ok-check_numbers.ensures.keeps)
    (subst (λ (d : SessionDraft). TellsFirst (known_rules d.head.format path ms) r) read.1 c.in_err-check_keys.ensures))

pub returns-clause-reads : goal.returns-clause-reads
unfolding session_rules draft_of head_of
returns-clause-reads c =
    let path = path_of c.args.path.now in
    let ms = table_view c.args.table.now in
    let read = c.in_ok-draft.ensures.reads in (
      none_of_three (value_rules path ms) (numbers (draft_of ms) path) (known_rules (format_in ms) path ms) read.0
          (subst (λ (d : SessionDraft). numbers d path ≡ []) read.1 c.in_ok-check_numbers.ensures.keeps)
          (subst (λ (d : SessionDraft). known_rules d.head.format path ms ≡ []) read.1 c.in_ok-check_keys.ensures),
      read.1,
    )
