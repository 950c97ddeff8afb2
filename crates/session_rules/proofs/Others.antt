-- The keys of a table that are not its own.
use Rattle.std.proofs.Common.{◌≡◌, ℕ, Bool, true, false, List, [], ◌∷◌, ◌++◌, String, Global, ap, sym, subst, refl, ◌∙◌}
use Rattle.std.specs.List.{list_any}
use Rattle.std.specs.Map.{keys_of}
use Rattle.std.specs.Prelude.{bytes_eq, if◌then◌else◌, string_bytes}
use Rattle.toml.specs.View.{members_view}
use Rattle.toml.proofs.Views.{Entry}
use Rattle.session_rules.specs.declared.fault.SessionFault.{SessionFault}
use Rattle.session_rules.specs.declared.fault.SessionFaultKind.TheVariants.{UnknownKey}
use Rattle.session_rules.specs.declared.fault.SessionRefusal.{SessionRefusal}
use Rattle.session_rules.specs.Faults.{TellsFirst, fault}
use Rattle.session_rules.specs.Paths.{keyed}
use Rattle.session_rules.proofs.lemmas.Told.{told_here}
use Rattle.session_rules.specs.Tables.{no_other, unknown_key}

-- the faults of the keys that are left
abbrev pub others : List (List ℕ) → List ℕ → List (String Global) → List SessionFault
others keys path [] = []
others keys path (key ∷ rest) = unknown_key keys path (string_bytes key) ++ others keys path rest

pub no_other-keys : (keys : List (List ℕ)) (path : List ℕ) (es : List Entry) → others keys path (keys_of es) ≡ no_other keys path (members_view es)
unfolding no_other
no_other-keys keys path [] = refl
no_other-keys keys path (e ∷ es) = ap (λ faults. unknown_key keys path (string_bytes e.0) ++ faults) (no_other-keys keys path es)

module _ (keys : List (List ℕ)) (path : List ℕ) (left next : List (String Global)) (key : String Global) (text : List ℕ) (known : Bool) (all : List SessionFault)
    (steps : left ≡ key ∷ next) (same : text ≡ string_bytes key) (found : known ≡ list_any (λ k. bytes_eq k text) keys) (whole : others keys path left ≡ all) where
  first_key : (b : Bool) → known ≡ b → all ≡ (if b then [] else fault (keyed path text) UnknownKey) ++ others keys path next
  first_key b e =
      let test : list_any (λ k. bytes_eq k text) keys ≡ b = sym found ∙ e in
      sym whole ∙ ap (others keys path) steps ∙ ap (λ t. unknown_key keys path t ++ others keys path next) (sym same)
      ∙ ap (λ b. (if b then [] else fault (keyed path text) UnknownKey) ++ others keys path next) test

  pub others_stop : (r : SessionRefusal) → known ≡ false → TellsFirst (fault (keyed path text) UnknownKey) r → TellsFirst all r
  others_stop r e told = subst (λ faults. TellsFirst faults r) (sym (first_key false e)) (told_here _ _ r told)

  pub others_go_on : known ≡ true → others keys path next ≡ all
  others_go_on e = sym (first_key true e)
