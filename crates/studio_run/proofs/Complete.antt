-- Words and files decide the answer where nothing failed outside.
use Rattle.std.proofs.Common.{◌≡◌, ◌⊎◌, ◌↔◌, ℕ, ◌≤◌, Bool, true, false, List, Option, Some, None, inl, inr, refl, sym, subst, ap, ◌∙◌}
use Rattle.mill_base.specs.Causes.{Rose}
use Rattle.mill_base.specs.declared.limits.TheConstants.{MAX_FILE_BYTES}
use Rattle.mill_io.specs.Files.{File}
use Rattle.mill_io.specs.Reads.{HoldsMore}
use Rattle.draft_model.specs.declared.float_run.FloatRun.{FloatRun}
use Rattle.card_image.specs.Faults.{end_fault}
use Rattle.card_image.specs.declared.fault.ChainFault.{ChainFault}
use Rattle.version_journal.specs.Journals.{float_kept}
use Rattle.version_journal.specs.declared.run_log.RunLog.{RunLog}
use Rattle.session_rules.specs.declared.fault.SessionFault.{SessionFault}
use Rattle.session_file.specs.Readings.{HeldIn}
use Rattle.session_file.specs.Sessions.{Breaks, Denotes, Wants}
use Rattle.session_file.specs.declared.session.Session.{Session as SessionValue}
use Rattle.report_text.specs.declared.cause.Cause.{Cause}
use Rattle.report_text.specs.declared.cause.Cause.TheVariants.{Done, Usage, Session, OpeningFloat, OutOfMemory, ReadFault, WriteFault, TooLong, Chain}
use Rattle.studio_run.specs.declared.command.Command.{Command}
use Rattle.studio_run.specs.declared.command.Command.TheVariants.{Weave, Check, Draw, Paper, Cards, Lift, Trial}
use Rattle.studio_run.specs.Answers.{DeliveredPart, DidWork, Fails, HasChain, HasTurn, IsCausedBy, IsEndOf, IsGood, IsMade, Outside}
use Rattle.studio_run.specs.Commands.{chain_name, command_of, file_name, reads_file, session_name}
use Rattle.studio_run.specs.Outputs.{IsAbout, IsOfFile, IsOutput, cards_of}

-- what the files of a shelf that tells decide
pub record Decide (held : List File) : Type 0 where
  pub one_session : (bytes : List ℕ) (one other : SessionValue) → Denotes (HeldIn (Some held)) bytes one → Denotes (HeldIn (Some held)) bytes other → one ≡ other
  pub no_rule : (bytes : List ℕ) (session : SessionValue) (broken : SessionFault) → Denotes (HeldIn (Some held)) bytes session → Breaks (HeldIn (Some held)) bytes broken → ⊥
  pub image : (bytes name : List ℕ) (session : SessionValue) → Denotes (HeldIn (Some held)) bytes session → Wants bytes name → (content : List ℕ) × HeldIn (Some held) name content
  pub one_content : (name one other : List ℕ) → HeldIn (Some held) name one → HeldIn (Some held) name other → one ≡ other
  pub not_both : (name content : List ℕ) → HeldIn (Some held) name content → HoldsMore (Some held) name MAX_FILE_BYTES → ⊥

file_about : (command : Command) (words : List (List ℕ)) (files : Option (List File)) (session : SessionValue) → reads_file command ≡ true
    → IsAbout command words files session → IsOfFile words files session
file_about Weave words files session reads is = is
file_about Check words files session reads is = is
file_about Draw words files session reads is = is
file_about Paper words files session reads is = is
file_about (Cards face) words files session reads is = is
file_about Lift words files session reads is = is
file_about (Trial n) words files session reads is = absurd cc

one_of_file : (held : List File) (words : List (List ℕ)) (one other : SessionValue) → Decide held
    → IsOfFile words (Some held) one → IsOfFile words (Some held) other → one ≡ other
one_of_file held words one other facts is also =
    facts.one_session is.0 one other is.2 (subst (λ (bytes : List ℕ). Denotes (HeldIn (Some held)) bytes other) (facts.one_content (session_name words) also.0 is.0 also.1 is.1) also.2)

one_about : (command : Command) (held : List File) (words : List (List ℕ)) (one other : SessionValue) → Decide held
    → IsAbout command words (Some held) one → IsAbout command words (Some held) other → one ≡ other
one_about Weave held words one other facts is also = one_of_file held words one other facts is also
one_about Check held words one other facts is also = one_of_file held words one other facts is also
one_about Draw held words one other facts is also = one_of_file held words one other facts is also
one_about Paper held words one other facts is also = one_of_file held words one other facts is also
one_about (Cards face) held words one other facts is also = one_of_file held words one other facts is also
one_about Lift held words one other facts is also = one_of_file held words one other facts is also
one_about (Trial n) held words one other facts is also = is ∙ sym also

-- what is done was asked for rightly
has_chain : (command : Command) (words : List (List ℕ)) (files : Option (List File)) (session : SessionValue) (run_log : Option RunLog) (bytes : List ℕ)
    → IsOutput command words files session run_log bytes → HasChain command words files session
has_chain Weave words files session run_log bytes is = tt
has_chain Check words files session run_log bytes is = tt
has_chain Draw words files session run_log bytes is = tt
has_chain Paper words files session run_log bytes is = tt
has_chain (Cards face) words files session run_log bytes is = tt
has_chain Lift words files session run_log bytes is = (is.1, is.2, is.3)
has_chain (Trial n) words files session run_log bytes is = tt

made_good : (command : Command) (words : List (List ℕ)) (held : List File) (run_log : Option RunLog) (bytes : List ℕ) → command_of words ≡ Some command
    → IsMade command words (Some held) run_log bytes → IsGood words held
made_good command words held run_log bytes asked made = record {
  command = command;
  session = made.session;
  asked = asked;
  about = made.about;
  sound = made.sound;
  chain = has_chain command words (Some held) made.session run_log bytes made.output;
}

-- a good command, of which this is the one that was asked for
record IsGoodAs (command : Command) (words : List (List ℕ)) (held : List File) : Type 0 where
  session : SessionValue
  about : IsAbout command words (Some held) session
  sound : float_kept session.design session.opening ≡ None
  chain : HasChain command words (Some held) session

same_command : (one other : Command) → Some one ≡ Some other → one ≡ other
same_command one other h = cc

good_as : (command : Command) (words : List (List ℕ)) (held : List File) → command_of words ≡ Some command → IsGood words held → IsGoodAs command words held
good_as command words held asked good = subst (λ (c : Command). IsGoodAs c words held) (same_command good.command command (sym good.asked ∙ asked))
    (record { session = good.session; about = good.about; sound = good.sound; chain = good.chain })

-- no cause comes that good words and files exclude
not_kept : (float : FloatRun) (one : Option FloatRun) → one ≡ None → one ≡ Some float → ⊥
not_kept float one none some = absurd cc

no_float : (command : Command) (words : List (List ℕ)) (held : List File) (session : SessionValue) (float : FloatRun) → Decide held → IsGoodAs command words held
    → IsAbout command words (Some held) session → float_kept session.design session.opening ≡ Some float → ⊥
no_float command words held session float facts good about kept = not_kept float (float_kept good.session.design good.session.opening) good.sound
    (subst (λ (s : SessionValue). float_kept s.design s.opening ≡ Some float) (one_about command held words session good.session facts about good.about) kept)

no_broken_rule : (command : Command) (words : List (List ℕ)) (held : List File) (broken : SessionFault) (bytes : List ℕ) → Decide held → IsGoodAs command words held
    → reads_file command ≡ true → HeldIn (Some held) (session_name words) bytes → Breaks (HeldIn (Some held)) bytes broken → ⊥
no_broken_rule command words held broken bytes facts good reads there breaks =
    let is = file_about command words (Some held) good.session reads good.about in
    facts.no_rule is.0 good.session broken is.2
    (subst (λ (b : List ℕ). Breaks (HeldIn (Some held)) b broken) (facts.one_content (session_name words) bytes is.0 there is.1) breaks)

no_long_image : (command : Command) (words : List (List ℕ)) (held : List File) (name bytes : List ℕ) → Decide held → IsGoodAs command words held
    → reads_file command ≡ true → HeldIn (Some held) (session_name words) bytes → Wants bytes name → HoldsMore (Some held) name MAX_FILE_BYTES → ⊥
no_long_image command words held name bytes facts good reads there wants more =
    let is = file_about command words (Some held) good.session reads good.about in
    let image = facts.image is.0 name good.session is.2 (subst (λ (b : List ℕ). Wants b name) (facts.one_content (session_name words) bytes is.0 there is.1) wants) in
    facts.not_both name image.0 image.1 more

good_chain : (command : Command) (words : List (List ℕ)) (held : List File) → command ≡ Lift → (good : IsGoodAs command words held)
    → HasChain Lift words (Some held) good.session
good_chain command words held is good = subst (λ (c : Command). HasChain c words (Some held) good.session) is good.chain

no_long_file : (command : Command) (words : List (List ℕ)) (held : List File) (name : List ℕ) → Decide held → IsGoodAs command words held
    → HasTurn command words (Some held) name → HoldsMore (Some held) name MAX_FILE_BYTES → ⊥
no_long_file command words held name facts good (reads, inl is) more =
    let file = file_about command words (Some held) good.session reads good.about in
    facts.not_both (session_name words) file.0 file.1 (subst (λ (n : List ℕ). HoldsMore (Some held) n MAX_FILE_BYTES) is more)
no_long_file command words held name facts good (reads, inr (inl is)) more = no_long_image command words held name is.0 facts good reads is.1 is.2 more
no_long_file command words held name facts good (reads, inr (inr is)) more =
    let chain = good_chain command words held is.0 good in
    facts.not_both (chain_name words) chain.0 chain.1 (subst (λ (n : List ℕ). HoldsMore (Some held) n MAX_FILE_BYTES) is.1 more)

no_fault_of_chain : (fault : ChainFault) (one : Option ChainFault) → one ≡ None → one ≡ Some fault → ⊥
no_fault_of_chain fault one none some = absurd cc

no_broken_chain : (command : Command) (words : List (List ℕ)) (held : List File) (session : SessionValue) (chain : List ℕ) (broken : ChainFault) → Decide held
    → IsGoodAs command words held → command ≡ Lift → IsOfFile words (Some held) session → HeldIn (Some held) (chain_name words) chain
    → end_fault (cards_of session) chain ≡ Some broken → ⊥
no_broken_chain command words held session chain broken facts good is about there fault =
    let sound = good_chain command words held is good in
    let same = one_of_file held words session good.session facts about (subst (λ (c : Command). IsAbout c words (Some held) good.session) is good.about) in
    no_fault_of_chain broken (end_fault (cards_of good.session) sound.0) sound.2
    (subst (λ (bytes : List ℕ). end_fault (cards_of good.session) bytes ≡ Some broken) (facts.one_content (chain_name words) chain sound.0 there sound.1)
    (subst (λ (s : SessionValue). end_fault (cards_of s) chain ≡ Some broken) same fault))

no_part : (name : Option (List ℕ)) (o : Outside) (bytes : List ℕ) → (Rose o.shelf_before.writes o.shelf.writes → ⊥) → (Rose o.sink_before.faults o.sink.faults → ⊥)
    → DeliveredPart name o bytes → ⊥
no_part None o bytes writes faults is = faults is.rose
no_part (Some name) o bytes writes faults is = writes is.rose

-- an end of a command, as good words and files have it
good_end : (command : Command) (words : List (List ℕ)) (o : Outside) (run_log : Option RunLog) (cause : Cause) (held : List File) → Decide held
    → o.shelf_before.files ≡ Some held → (Rose o.shelf_before.reads o.shelf.reads → ⊥) → (Rose o.shelf_before.writes o.shelf.writes → ⊥) → (Rose o.sink_before.faults o.sink.faults → ⊥)
    → IsGoodAs command words held → IsEndOf command words o run_log cause → (cause ≡ OutOfMemory) ⊎ (cause ≡ Done)
good_end command words o run_log Done held facts tells reads writes faults good end = inr refl
good_end command words o run_log Usage held facts tells reads writes faults good end = absurd end
good_end command words o run_log (Session broken) held facts tells reads writes faults good end =
    let fails = subst (λ (files : Option (List File)). Fails command words files (Rose o.shelf_before.reads o.shelf.reads) o.shelf.failed_name (Session broken)) tells end.0 in
    absurd (no_broken_rule command words held broken fails.1 facts good fails.0 fails.2 fails.3)
good_end command words o run_log (OpeningFloat float) held facts tells reads writes faults good end =
    let fails = subst (λ (files : Option (List File)). Fails command words files (Rose o.shelf_before.reads o.shelf.reads) o.shelf.failed_name (OpeningFloat float)) tells end.0 in
    absurd (no_float command words held fails.0 float facts good fails.1 fails.2)
good_end command words o run_log OutOfMemory held facts tells reads writes faults good end = inl refl
good_end command words o run_log (ReadFault name) held facts tells reads writes faults good end = absurd (reads end.0.1)
good_end command words o run_log WriteFault held facts tells reads writes faults good end = absurd (no_part (file_name command words) o end.0 writes faults end.2)
good_end command words o run_log (TooLong name) held facts tells reads writes faults good end =
    let fails = subst (λ (files : Option (List File)). Fails command words files (Rose o.shelf_before.reads o.shelf.reads) o.shelf.failed_name (TooLong name)) tells end.0 in
    absurd (no_long_file command words held name facts good fails.0 fails.1)
good_end command words o run_log (Chain broken) held facts tells reads writes faults good end =
    let fails = subst (λ (files : Option (List File)). Fails command words files (Rose o.shelf_before.reads o.shelf.reads) o.shelf.failed_name (Chain broken)) tells end.0 in
    absurd (no_broken_chain command words held fails.1 fails.4 broken facts good fails.0 fails.2 fails.5 fails.6)

done_good : (command : Command) (words : List (List ℕ)) (o : Outside) (run_log : Option RunLog) (cause : Cause) (held : List File) → command_of words ≡ Some command
    → o.shelf_before.files ≡ Some held → cause ≡ Done → IsEndOf command words o run_log cause → IsGood words held
done_good command words o run_log cause held asked tells done end =
    let did = subst (λ (c : Cause). IsEndOf command words o run_log c) done end in
    made_good command words held run_log did.0 asked (subst (λ (files : Option (List File)). IsMade command words files run_log did.0) tells did.1)

not_memory : (cause : Cause) → ((cause ≡ OutOfMemory) → ⊥) → (cause ≡ OutOfMemory) ⊎ (cause ≡ Done) → cause ≡ Done
not_memory cause other (inl is) = absurd (other is)
not_memory cause other (inr is) = is

settled : (cause : Cause) (good : Type 0) → (good → (cause ≡ OutOfMemory) ⊎ (cause ≡ Done)) → (cause ≡ Done → good) → (cause ≡ OutOfMemory) ⊎ ((cause ≡ Done) ↔ good)
settled Done good right back = inr (back, λ is. not_memory Done (λ e. absurd cc) (right is))
settled Usage good right back = inr (back, λ is. not_memory Usage (λ e. absurd cc) (right is))
settled (Session broken) good right back = inr (back, λ is. not_memory (Session broken) (λ e. absurd cc) (right is))
settled (OpeningFloat float) good right back = inr (back, λ is. not_memory (OpeningFloat float) (λ e. absurd cc) (right is))
settled OutOfMemory good right back = inl refl
settled (ReadFault name) good right back = inr (back, λ is. not_memory (ReadFault name) (λ e. absurd cc) (right is))
settled WriteFault good right back = inr (back, λ is. not_memory WriteFault (λ e. absurd cc) (right is))
settled (TooLong name) good right back = inr (back, λ is. not_memory (TooLong name) (λ e. absurd cc) (right is))
settled (Chain broken) good right back = inr (back, λ is. not_memory (Chain broken) (λ e. absurd cc) (right is))

not_asked : (asked : Option Command) (command : Command) → asked ≡ None → asked ≡ Some command → ⊥
not_asked asked command none some = absurd cc

-- the law, by what the words ask for
pub decided : (asked : Option Command) (words : List (List ℕ)) (o : Outside) (run_log : Option RunLog) (cause : Cause) (held : List File) → Decide held → command_of words ≡ asked
    → o.shelf_before.files ≡ Some held → (Rose o.shelf_before.reads o.shelf.reads → ⊥) → (Rose o.shelf_before.writes o.shelf.writes → ⊥) → (Rose o.sink_before.faults o.sink.faults → ⊥)
    → IsCausedBy asked words o run_log cause → (cause ≡ OutOfMemory) ⊎ ((cause ≡ Done) ↔ IsGood words held)
decided None words o run_log cause held facts asked tells reads writes faults is = settled cause (IsGood words held)
    (λ good. absurd (not_asked (command_of words) good.command asked good.asked))
    (λ done. absurd (not_usage cause is.0 done)) where
      not_usage : (cause : Cause) → cause ≡ Usage → cause ≡ Done → ⊥
      not_usage cause one other = absurd cc
decided (Some command) words o run_log cause held facts asked tells reads writes faults is = settled cause (IsGood words held)
    (λ good. good_end command words o run_log cause held facts tells reads writes faults (good_as command words held asked good) is)
    (λ done. done_good command words o run_log cause held asked tells done is)
