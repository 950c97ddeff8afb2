-- What is told of the files of a session.
use Rattle.std.proofs.Common.{◌≡◌, ℕ, List, Option, inl, inr, subst, refl}
use Rattle.mill_base.specs.Causes.{risen}
use Rattle.mill_io.specs.Files.{File}
use Rattle.session_rules.specs.declared.fault.SessionRefusal.{SessionRefusal}
use Rattle.session_rules.specs.declared.fault.SessionRefusal.TheVariants.{Fault, ReadFault, TooLong, OutOfMemory}
use Rattle.point_paper.specs.Papers.{PaperCells}
use Rattle.session_file.specs.declared.draft.SessionDraft.{SessionDraft}
use Rattle.session_file.specs.declared.session.Session.{Session}
use Rattle.session_file.specs.Readings.{HeldIn, IsRefusal, IsRefusalOf, after_refusal, told_name}
use Rattle.session_file.specs.Sessions.{Denotes, Opens, Says, session_of}
use Rattle.session_file.specs.inner.Files.{IsUnread, TellsDocument, TellsOpening}

-- a document is told of, and no file
pub document_refused : (files : Option (List File)) (bytes : List ℕ) (r : SessionRefusal) → TellsDocument bytes r → IsRefusalOf files bytes r
document_refused files bytes (Fault broken) h = inl h
document_refused files bytes (ReadFault told) h = absurd h
document_refused files bytes (TooLong told) h = absurd h
document_refused files bytes OutOfMemory h = tt

pub document_reads : (bytes : List ℕ) (r : SessionRefusal) (n : ℕ) → TellsDocument bytes r → n ≡ after_refusal n (risen n) r
document_reads bytes (Fault broken) n h = refl
document_reads bytes (ReadFault told) n h = absurd h
document_reads bytes (TooLong told) n h = refl
document_reads bytes OutOfMemory n h = refl

pub document_name : (bytes : List ℕ) (r : SessionRefusal) (name : List ℕ) → TellsDocument bytes r → name ≡ told_name name r
document_name bytes (Fault broken) name h = refl
document_name bytes (ReadFault told) name h = absurd h
document_name bytes (TooLong told) name h = refl
document_name bytes OutOfMemory name h = refl

-- the opening paper of a draft is told of
pub opening_refused : (files : Option (List File)) (bytes : List ℕ) (draft : SessionDraft) (r : SessionRefusal) → Says bytes draft → TellsOpening files draft draft.opening r → IsRefusalOf files bytes r
opening_refused files bytes draft (Fault broken) says h = inr (draft, says, h)
opening_refused files bytes draft (ReadFault told) says h = (draft, says, h)
opening_refused files bytes draft (TooLong told) says h = ((draft, says, h.0), h.1)
opening_refused files bytes draft OutOfMemory says h = tt

pub denoted : (files : Option (List File)) (bytes : List ℕ) (draft : SessionDraft) (paper : PaperCells) (session : Session) → Says bytes draft → Opens (HeldIn files) draft draft.opening paper
    → session ≡ session_of draft paper → Denotes (HeldIn files) bytes session
denoted files bytes draft paper session says opens is = (draft, says, paper, opens, is)

-- the session file itself is told of
pub file_refused : (files : Option (List File)) (name : List ℕ) (r : SessionRefusal) → IsUnread files name r → IsRefusal files name r
file_refused files name (Fault broken) h = absurd h
file_refused files name (ReadFault told) h = inl h
file_refused files name (TooLong told) h = inl h
file_refused files name OutOfMemory h = tt

by_bytes : (files : Option (List File)) (name bytes : List ℕ) (r : SessionRefusal) → HeldIn files name bytes → IsRefusalOf files bytes r → IsRefusal files name r
by_bytes files name bytes (Fault broken) held h = (bytes, held, h)
by_bytes files name bytes (ReadFault told) held h = inr (bytes, held, h)
by_bytes files name bytes (TooLong told) held h = inr (bytes, held, h.0, h.1)
by_bytes files name bytes OutOfMemory held h = tt

-- the files are as before once the session file was read
pub bytes_refused : (files now : Option (List File)) (name bytes : List ℕ) (r : SessionRefusal) → now ≡ files → HeldIn files name bytes → IsRefusalOf now bytes r → IsRefusal files name r
bytes_refused files now name bytes r same held h = by_bytes files name bytes r held (subst (λ (f : Option (List File)). IsRefusalOf f bytes r) same h)

pub bytes_denote : (files now : Option (List File)) (name bytes : List ℕ) (session : Session) → now ≡ files → HeldIn files name bytes → Denotes (HeldIn now) bytes session
    → (bytes : List ℕ) × HeldIn files name bytes × Denotes (HeldIn files) bytes session
bytes_denote files now name bytes session same held h = (bytes, held, subst (λ (f : Option (List File)). Denotes (HeldIn f) bytes session) same h)
