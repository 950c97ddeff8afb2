-- The steps by which a block gets on a disk, on the log.
use Rattle.std.proofs.Common.{◌≡◌, ◌⊎◌, inl, inr, ℕ, ◌+◌, ◌≤◌, List, [], ◌∷◌, length, sym, ◌∙◌, ap, subst, arith}
use Rattle.std.proofs.lemmas.List.{take_all}
use Rattle.journal_disk.specs.declared.call.Written.{Written}
use Rattle.journal_disk.specs.declared.call.Call.{Call}
use Rattle.journal_disk.specs.declared.call.Call.TheVariants.{Write, Sync}
use Rattle.journal_disk.specs.Disks.{State, Log, LeavesOnly, AtRest, stepped, state, seen, put_over, with_call}
use Rattle.journal_disk.specs.Gates.{ShutAt, Opened, ShutOrOpened}
use Rattle.journal_disk.proofs.lemmas.Logs.{state-more, rest_synced, started, goes_on}
use Rattle.journal_disk.proofs.Crashes.{staged_long, staged, opened, at_first, at_body, at_staged, at_gate, at_last, is_opened}

abbrev pub Ready : ℕ → Log → Type 0
Ready place log = AtRest log × ShutAt (seen log) place

abbrev pub Leaves : ℕ → List ℕ → Log → Log → Type 0
Leaves place body old new = LeavesOnly old new (ShutOrOpened (seen old) place body)

abbrev write_of : ℕ → List ℕ → ℕ → Call
write_of at bytes put = Write (record { at = at; bytes = bytes; put = put })

-- a write that came in part or not at all
abbrev pub Tried : ℕ → List ℕ → Log → Log → Type 0
Tried at bytes old new = (new ≡ old) ⊎ ((put : ℕ) × (new ≡ with_call old (write_of at bytes put)))

module _ (place : ℕ) (body : List ℕ) where
  pub record Staged (old new : Log) : Type 0 where
    pub leaves : Leaves place body old new
    pub shut : ShutAt (seen old) place
    pub sees : seen new ≡ staged (seen old) place body shut
    pub synced : (state new).synced ≡ seen old
    pub pending : (state new).pending ≡ (record { at = place + 1; bytes = body; put = length body }) ∷ []

  pub record Settled (old new : Log) : Type 0 where
    pub leaves : Leaves place body old new
    pub shut : ShutAt (seen old) place
    pub sees : seen new ≡ staged (seen old) place body shut
    pub synced : (state new).synced ≡ staged (seen old) place body shut
    pub pending : (state new).pending ≡ []

  pub record Gated (old new : Log) : Type 0 where
    pub leaves : Leaves place body old new
    pub shut : ShutAt (seen old) place
    pub sees : seen new ≡ opened (seen old) place body shut

  pub record Done (old new : Log) : Type 0 where
    pub leaves : Leaves place body old new
    pub rest : AtRest new
    pub sees : Opened (seen old) place body (seen new)

  first : (old : Log) → Ready place old → Leaves place body old old
  first old ready = started old (ShutOrOpened (seen old) place body) (λ c left. at_first (seen old) place body ready.1 (state old) c (rest_synced old ready.0) ready.0 left)

  body_write : (old new : Log) (put : ℕ) → Ready place old → new ≡ with_call old (write_of (place + 1) body put) → Leaves place body old new
  body_write old new put ready is =
      let next : state new ≡ stepped (state old) (write_of (place + 1) body put) = ap state is ∙ state-more old (write_of (place + 1) body put) in
      goes_on old old new (write_of (place + 1) body put) (ShutOrOpened (seen old) place body) (first old ready) is (λ c left.
      at_body (seen old) place body ready.1 (state new) c put (ap (λ (s : State). s.synced) next ∙ rest_synced old ready.0)
      (ap (λ (s : State). s.pending) next ∙ ap (λ (ws : List Written). record { at = place + 1; bytes = body; put = put } ∷ ws) ready.0) left)

  pub tried_body : (old new : Log) → Ready place old → Tried (place + 1) body old new → Leaves place body old new
  tried_body old new ready (inl same) = subst (λ (l : Log). Leaves place body old l) (sym same) (first old ready)
  tried_body old new ready (inr wrote) = body_write old new wrote.0 ready wrote.1

  pub wrote_body : (old new : Log) → Ready place old → new ≡ with_call old (write_of (place + 1) body (length body)) → Staged old new
  wrote_body old new ready is =
      let next : state new ≡ stepped (state old) (write_of (place + 1) body (length body)) = ap state is ∙ state-more old (write_of (place + 1) body (length body)) in
      record {
        leaves = body_write old new (length body) ready is;
        shut = ready.1;
        sees = ap (λ (s : State). s.seen) next ∙ ap (λ (xs : List ℕ). put_over (seen old) (place + 1) xs) (take_all (length body) body (omega arith));
        synced = ap (λ (s : State). s.synced) next ∙ rest_synced old ready.0;
        pending = ap (λ (s : State). s.pending) next ∙ ap (λ (ws : List Written). record { at = place + 1; bytes = body; put = length body } ∷ ws) ready.0;
      }

  pub synced_body : (old mid new : Log) → Staged old mid → new ≡ with_call mid Sync → Settled old new
  synced_body old mid new was is =
      let next : state new ≡ stepped (state mid) Sync = ap state is ∙ state-more mid Sync in
      let on_disk : (state new).synced ≡ staged (seen old) place body was.shut = ap (λ (s : State). s.synced) next ∙ was.sees in
      let none : (state new).pending ≡ [] = ap (λ (s : State). s.pending) next in
      record {
        leaves = goes_on old mid new Sync (ShutOrOpened (seen old) place body) was.leaves is (λ c left. at_staged (seen old) place body was.shut (state new) c on_disk none left);
        shut = was.shut;
        sees = ap (λ (s : State). s.seen) next ∙ was.sees;
        synced = on_disk;
        pending = none;
      }

  gate_write : (old mid new : Log) (put : ℕ) → Settled old mid → new ≡ with_call mid (write_of place (1 ∷ []) put) → Leaves place body old new
  gate_write old mid new put was is =
      let next : state new ≡ stepped (state mid) (write_of place (1 ∷ []) put) = ap state is ∙ state-more mid (write_of place (1 ∷ []) put) in
      goes_on old mid new (write_of place (1 ∷ []) put) (ShutOrOpened (seen old) place body) was.leaves is (λ c left.
      at_gate (seen old) place body was.shut (state new) c put (ap (λ (s : State). s.synced) next ∙ was.synced)
      (ap (λ (s : State). s.pending) next ∙ ap (λ (ws : List Written). record { at = place; bytes = 1 ∷ []; put = put } ∷ ws) was.pending) left)

  pub tried_gate : (old mid new : Log) → Settled old mid → Tried place (1 ∷ []) mid new → Leaves place body old new
  tried_gate old mid new was (inl same) = subst (λ (l : Log). Leaves place body old l) (sym same) was.leaves
  tried_gate old mid new was (inr wrote) = gate_write old mid new wrote.0 was wrote.1

  pub wrote_gate : (old mid new : Log) → Settled old mid → new ≡ with_call mid (write_of place (1 ∷ []) 1) → Gated old new
  wrote_gate old mid new was is =
      let next : state new ≡ stepped (state mid) (write_of place (1 ∷ []) 1) = ap state is ∙ state-more mid (write_of place (1 ∷ []) 1) in
      record {
        leaves = gate_write old mid new 1 was is;
        shut = was.shut;
        sees = ap (λ (s : State). s.seen) next ∙ ap (λ (xs : List ℕ). put_over xs place (1 ∷ [])) was.sees;
      }

  pub synced_gate : (old mid new : Log) → Gated old mid → new ≡ with_call mid Sync → Done old new
  synced_gate old mid new was is =
      let next : state new ≡ stepped (state mid) Sync = ap state is ∙ state-more mid Sync in
      let none : (state new).pending ≡ [] = ap (λ (s : State). s.pending) next in
      record {
        leaves = goes_on old mid new Sync (ShutOrOpened (seen old) place body) was.leaves is (λ c left.
            at_last (seen old) place body was.shut (state new) c (ap (λ (s : State). s.synced) next ∙ was.sees) none left);
        rest = none;
        sees = record { rest = _; parts = ap (λ (s : State). s.seen) next ∙ was.sees ∙ is_opened (seen old) place body was.shut };
      }

  pub same_body : (old mid new : Log) → Staged old mid → new ≡ mid → Leaves place body old new
  same_body old mid new was is = subst (λ (l : Log). Leaves place body old l) (sym is) was.leaves

  pub same_gate : (old mid new : Log) → Gated old mid → new ≡ mid → Leaves place body old new
  same_gate old mid new was is = subst (λ (l : Log). Leaves place body old l) (sym is) was.leaves

  -- the place is within the file when the body is on the disk
  pub settled_within : (old new : Log) → Settled old new → place ≤ length (seen new)
  settled_within old new was = omega (arith, ap length was.sees, staged_long (seen old) place body was.shut)
