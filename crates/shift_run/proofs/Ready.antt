-- A desk with all its versions published can do acts.
use Rattle.std.proofs.Common.{◌≡◌, ◌+◌, ◌<◌, ◌≤◌, ◌⊎◌, inl, inr, ℕ, zero, suc, List, [], ◌∷◌, length, get_or, map, sym, ap, subst, refl, ◌∙◌, ◌-◌, arith}
use Rattle.std.specs.Prelude.{All}
use Rattle.std.proofs.lemmas.Bool.{cases_lt}
use Rattle.std.proofs.lemmas.List.{get_or_past}
use Rattle.std.proofs.lemmas.List.Elements.{All-map}
use Rattle.mill_base.proofs.lemmas.Lines.{length-line_by}
use Rattle.point_paper.specs.Papers.{PaperCells}
use Rattle.draft_model.specs.Designs.{IsPaperOf}
use Rattle.draft_model.specs.Drawdowns.{bound}
use Rattle.draft_model.specs.declared.design.Design.{Design}
use Rattle.card_image.specs.Sets.{CardDesign, cards_of, design_by}
use Rattle.strokes.specs.Places.{HasColour, IsThere}
use Rattle.strokes.specs.declared.act.Act.{Act}
use Rattle.strokes.specs.declared.act.Act.TheVariants.{Commit}
use Rattle.strokes.specs.declared.motifs.NamedMotif.{NamedMotif}
use Rattle.version_journal.specs.Journals.{ActWithMotif, HasColours, IsActOf, begun, versions, with_motif}
use Rattle.version_journal.specs.declared.entry.Entry.{Entry}
use Rattle.session_file.specs.Plans.{Fits}
use Rattle.session_file.specs.declared.session.Session.{Session}
use Rattle.session_file.specs.declared.session.ShiftPlan.{ShiftPlan}
use Rattle.shed_publish.specs.Ends.{DeskValue}
use Rattle.shed_publish.specs.Versions.{IsPublished, IsRun}
use Rattle.shed_publish.specs.declared.newest.Version.{Version}
use Rattle.studio_core.specs.Cores.{CoreValue}
use Rattle.studio_core.specs.Histories.{IsAt}
use Rattle.shift_model.specs.Logs.{named_act}
use Rattle.shift_model.specs.Plans.{acts_of_painter, plan_of}
use Rattle.shift_run.specs.Desks.{IsReady, Stands, history_of, new_core, new_list, numbered, versions_of}
use Rattle.shift_run.specs.declared.desk.Desk.{Desk}
use Rattle.shift_run.proofs.Published.{cards_for}
use Rattle.shift_run.proofs.Versions.{numbered_length}

-- the laws, as they are handed in
abbrev pub ActsFit : Type 0
ActsFit = (design : Design) (motifs : List NamedMotif) (act : Act) → HasColour (length design.book) act
    → All (λ named. HasColours (length design.book) named.motif) motifs → IsActOf design (with_motif motifs act)

abbrev pub VersionsFit : Type 0
VersionsFit = (design : Design) (opening : PaperCells) (acts : List ActWithMotif) → IsPaperOf design opening → All (IsActOf design) acts
    → All (IsPaperOf design) (versions design opening acts)

-- what a list gives at a place, or in its stead
given : {X : Type 0} (P : X → Type 0) (xs : List X) (i : ℕ) (d : X) → All P xs → P d → P (get_or xs i d)
given P xs i d all other = by (cases_lt i (length xs)) where
  by : (i < length xs) ⊎ (length xs ≤ i) → P (get_or xs i d)
  by (inl low) = all i d low
  by (inr high) = subst P (sym (get_or_past xs i d high)) other

none : {X : Type 0} (P : X → Type 0) → All P []
none P i d h = absurd (omega arith)

-- the act that an entry names is one of the session's, or a commit
named_is_there : (session : Session) → Fits session → (entry : Entry)
    → IsThere (length session.design.book) session.design.size session.motifs (get_or (acts_of_painter (plan_of session entry.shift) entry.painter) (entry.number - 1) Commit)
named_is_there session fits entry =
    let there : Act → Type 0 = IsThere (length session.design.book) session.design.size session.motifs in
    let plan : All (All there) (plan_of session entry.shift).painters =
    given (λ (p : ShiftPlan). All (All there) p.painters) session.shifts entry.shift (record { repeats = []; painters = [] }) (λ i d h. (fits.plans i d h).acts) (none (All there)) in
    given there (acts_of_painter (plan_of session entry.shift) entry.painter) (entry.number - 1) Commit
    (given (All there) (plan_of session entry.shift).painters entry.painter [] plan (none there)) (record { colour = tt; cells = tt; motif = tt })

named_fit : ActsFit → (session : Session) → Fits session → (entries : List Entry) → All (IsActOf session.design) (map (named_act session) entries)
named_fit acts session fits entries =
    All-map (IsActOf session.design) (named_act session) entries (λ i d h. acts session.design session.motifs
    (get_or (acts_of_painter (plan_of session (get_or entries i d).shift) (get_or entries i d).painter) ((get_or entries i d).number - 1) Commit)
    (named_is_there session fits (get_or entries i d)).colour fits.coloured)

-- the cards of papers of a design are for it
cut_for : (design : Design) (paper : PaperCells) → IsPaperOf design paper → (cards_of design paper).design ≡ cards_for design
unfolding bound
cut_for design paper fits = ap (design_by design.casting) (length-line_by paper.picks _ ∙ fits.picks)

numbered_for : (design : Design) (n : ℕ) (papers : List PaperCells) → All (IsPaperOf design) papers
    → All (λ (v : Version). v.cards.design ≡ cards_for design) (numbered design n papers)
numbered_for design n [] all k d h = absurd (omega arith)
numbered_for design n (p ∷ papers) all zero d h = cut_for design p (all 0 p (omega arith))
numbered_for design n (p ∷ papers) all (suc k) d h =
    numbered_for design (n + 1) papers (λ i e below. all (suc i) e (omega arith)) k d (omega arith)

numbered_run : (design : Design) (n : ℕ) (papers : List PaperCells) → All (IsPaperOf design) papers → IsRun (cards_for design) n (numbered design n papers)
numbered_run design n [] all = tt
numbered_run design n (p ∷ papers) all = (refl, cut_for design p (all 0 p (omega arith)), numbered_run design (n + 1) papers (λ i e below. all (suc i) e (omega arith)))

numbered_published : (design : Design) (papers : List PaperCells) → All (IsPaperOf design) papers → IsPublished (numbered design 0 papers)
numbered_published design [] all = tt
numbered_published design (p ∷ papers) all =
    (refl, subst (λ (d : CardDesign). IsRun d 1 (numbered design 1 papers)) (sym (cut_for design p (all 0 p (omega arith)))) (numbered_run design 1 papers (λ i e below. all (suc i) e (omega arith))))

pub stands_ready : ActsFit → VersionsFit → (session : Session) (desk : Desk) → Fits session → Stands session desk → IsReady desk
stands_ready acts fit session desk fits stands =
    let papers = (history_of session desk.core.entries).versions in
    let all : All (IsPaperOf session.design) papers = fit session.design session.opening (map (named_act session) desk.core.entries) fits.opening (named_fit acts session fits desk.core.entries) in
    let long : length desk.end.list ≡ desk.core.version + 1 = ap length stands.shown ∙ numbered_length session.design 0 papers ∙ stands.holds.at.last in
    record {
      of_desk = record {
        published = subst IsPublished (sym stands.shown) (numbered_published session.design papers all);
        some = omega (arith, long);
        cards = subst (λ (l : List Version). All (λ (v : Version). v.cards.design ≡ cards_for desk.core.design) l) (sym stands.shown)
            (subst (λ (d : Design). All (λ (v : Version). v.cards.design ≡ cards_for d) (versions_of session desk)) (sym stands.holds.design) (numbered_for session.design 0 papers all));
        reached = omega (arith, long);
        no_more = omega (arith, long);
      };
      published = omega (arith, long);
    }

-- a desk that is started has the opening as version 0, which is published
pub started_stands : (session : Session) (spare : ℕ) (core : CoreValue) (end : DeskValue) → core ≡ new_core session spare → IsAt (begun session.opening) core
    → end ≡ record { list = record { version = 0; cards = core.cards } ∷ []; refused = 0 } → Stands session (record { core = core; end = end })
started_stands session spare core end is at shown = record {
  holds = record {
    design = ap (λ (c : CoreValue). c.design) is;
    at = subst (λ (es : List Entry). IsAt (history_of session es) core) (sym (ap (λ (c : CoreValue). c.entries) is)) at;
    replied = ap (λ (es : List Entry). map (λ (e : Entry). e.reply) es) (ap (λ (c : CoreValue). c.entries) is)
        ∙ sym (ap (λ (es : List Entry). (history_of session es).replies) (ap (λ (c : CoreValue). c.entries) is));
  };
  shown = ap (λ (e : DeskValue). e.list) shown ∙ ap (λ (c : CoreValue). record { version = 0; cards = c.cards } ∷ []) is
      ∙ sym (ap (λ (c : CoreValue). numbered session.design 0 (history_of session c.entries).versions) is);
}

pub started_ready : (session : Session) (spare : ℕ) (core : CoreValue) (end : DeskValue) → Fits session → core ≡ new_core session spare
    → end ≡ record { list = record { version = 0; cards = core.cards } ∷ []; refused = 0 } → IsReady (record { core = core; end = end })
started_ready session spare core end fits is shown =
    subst (λ (e : DeskValue). IsReady (record { core = core; end = e })) (sym shown)
    (subst (λ (c : CoreValue). IsReady (record { core = c; end = record { list = record { version = 0; cards = c.cards } ∷ []; refused = 0 } })) (sym is) (record {
      of_desk = record { published = (refl, tt); some = omega arith; cards = cards; reached = omega arith; no_more = omega arith };
      published = omega arith;
    })) where
      cards : All (λ (v : Version). v.cards.design ≡ cards_for session.design) (new_list session)
      cards zero d h = cut_for session.design session.opening fits.opening
      cards (suc k) d h = absurd (omega arith)
