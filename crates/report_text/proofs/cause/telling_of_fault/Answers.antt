use Rattle.std.proofs.Common.{◌≡◌, ℕ, List, [], ◌∷◌, ◌++◌, codes, ap, sym, ◌∙◌}
use Rattle.std.specs.List.{concat}
use Rattle.mill_base.specs.Phrases.{phrase_text}
use Rattle.mill_io.specs.Names.{shown_name}
use Rattle.session_rules.specs.Texts.{lead_text, rest_text}
use Rattle.session_rules.specs.declared.fault.SessionFault.{SessionFault}
use Rattle.session_rules.specs.declared.fault.SessionFaultKind.{SessionFaultKind}
use Rattle.session_rules.specs.declared.fault.SessionFaultKind.TheVariants.{NotToml}
use Rattle.report_text.specs.Causes.{as_is, session_text}
use Rattle.report_text.proofs.Tellings.{told_parts, told_with_path}
use Rattle.report_text.proofs.cause.telling_of_fault.Goals as goal

-- the parts in which a fault with a path is told
with_path : (told : List ℕ → List ℕ) (fault : SessionFault) (path between rest : List ℕ) → path ≡ fault.path → between ≡ codes ": " ++ lead_text fault.kind
    → rest ≡ rest_text fault.kind → (fault.kind ≡ NotToml → ⊥) → concat (codes "session " ∷ told path ∷ between ∷ rest ∷ []) ≡ session_text told fault
with_path told fault path between rest path_is between_is rest_is other =
    ap (λ p. concat (codes "session " ∷ told p ∷ between ∷ rest ∷ [])) path_is
    ∙ ap (λ b. concat (codes "session " ∷ told fault.path ∷ b ∷ rest ∷ [])) between_is
    ∙ ap (λ r. concat (codes "session " ∷ told fault.path ∷ (codes ": " ++ lead_text fault.kind) ∷ r ∷ [])) rest_is
    ∙ told_parts (codes "session ") (told fault.path) (codes ": ") (lead_text fault.kind) (rest_text fault.kind)
    ∙ sym (told_with_path told fault.kind fault other)

pub returns-in_default-clause-words : goal.returns-in_default-clause-words
returns-in_default-clause-words c =
    with_path as_is c.args.fault.now c.as_str.result.now c.behind_path.result.now (phrase_text c.phrase-in_default.result)
    c.as_str.ensures c.behind_path.ensures c.phrase-in_default.ensures c.in_default.not-NotToml

pub returns-in_default-clause-told : goal.returns-in_default-clause-told
returns-in_default-clause-told c =
    with_path shown_name c.args.fault.now c.as_str.result.now c.behind_path.result.now (phrase_text c.phrase-in_default.result)
    c.as_str.ensures c.behind_path.ensures c.phrase-in_default.ensures c.in_default.not-NotToml
