-- The published list of a desk after a commit.
use Rattle.std.proofs.Common.{◌≡◌, [], ◌∷◌, length-append, get_or, sym, ap, subst, ◌∙◌, arith}
use Rattle.std.specs.Prelude.{All}
use Rattle.std.proofs.lemmas.List.Elements.{All-push}
use Rattle.std.proofs.lemmas.Option.{slice_get-get_or}
use Rattle.draft_model.specs.declared.design.Design.{Design}
use Rattle.card_image.specs.Sets.{CardDesign, design_by}
use Rattle.version_journal.specs.declared.entry.Reply.{Reply}
use Rattle.version_journal.specs.declared.entry.Reply.TheVariants.{Painted, Accepted, Refused}
use Rattle.shed_publish.specs.Ends.{DeskValue}
use Rattle.shed_publish.specs.Versions.{IsPublished}
use Rattle.shed_publish.specs.declared.newest.Version.{Version}
use Rattle.shed_publish.proofs.lemmas.Published.{next_published}
use Rattle.studio_core.specs.Commits.{IsAnswered}
use Rattle.studio_core.specs.Cores.{CoreValue}
use Rattle.shift_run.specs.DeskActs.{list_after}
use Rattle.shift_run.specs.Desks.{IsReady}
use Rattle.shift_run.specs.declared.desk.Desk.{Desk}

-- what the cards of a core's design are for
abbrev pub cards_for : Design → CardDesign
cards_for design = design_by design.casting design.size.picks

-- the newest version goes on with the list
pub list_published : (reply : Reply) (desk : Desk) (after : CoreValue) → IsReady desk → IsAnswered reply desk.core after → after.design ≡ desk.core.design
    → after.cards.design ≡ cards_for after.design → IsPublished (list_after reply after desk.end.list)
list_published Painted desk after ready answered same cards = absurd answered
list_published (Accepted number) desk after ready answered same cards =
    let next : Version = record { version = after.version; cards = after.cards } in
    let first : Version = get_or desk.end.list 0 next in
    next_published desk.end.list first next ready.of_desk.published (slice_get-get_or desk.end.list 0 next ready.of_desk.some)
    (omega (arith, answered.0, ready.published, ready.of_desk.no_more))
    (cards ∙ ap cards_for same ∙ sym (ready.of_desk.cards 0 next ready.of_desk.some))
list_published (Refused float) desk after ready answered same cards = ready.of_desk.published

-- the desk with that list
pub ready_after : (reply : Reply) (desk : Desk) (after : CoreValue) (end : DeskValue) → IsReady desk → IsAnswered reply desk.core after → after.design ≡ desk.core.design
    → after.cards.design ≡ cards_for after.design → end ≡ record desk.end { list = list_after reply after desk.end.list } → IsReady (record { core = after; end = end })
ready_after reply desk after end ready answered same cards is =
    subst (λ (e : DeskValue). IsReady (record { core = after; end = e })) (sym is) (by reply answered (list_published reply desk after ready answered same cards)) where
      of_design : All (λ (version : Version). version.cards.design ≡ cards_for after.design) desk.end.list
      of_design k d h = ready.of_desk.cards k d h ∙ ap cards_for (sym same)

      by : (reply : Reply) → IsAnswered reply desk.core after → IsPublished (list_after reply after desk.end.list)
          → IsReady (record { core = after; end = record desk.end { list = list_after reply after desk.end.list } })
      by Painted answered published = absurd answered
      by (Accepted number) answered published = record {
        of_desk = record {
          published = published;
          some = omega (arith, length-append desk.end.list (record { version = after.version; cards = after.cards } ∷ []));
          cards = All-push (λ (version : Version). version.cards.design ≡ cards_for after.design) desk.end.list (record { version = after.version; cards = after.cards }) of_design cards;
          reached = omega (arith, answered.0, ready.published, length-append desk.end.list (record { version = after.version; cards = after.cards } ∷ []));
          no_more = omega (arith, answered.0, ready.of_desk.no_more, length-append desk.end.list (record { version = after.version; cards = after.cards } ∷ []));
        };
        published = omega (arith, answered.0, ready.published, length-append desk.end.list (record { version = after.version; cards = after.cards } ∷ []));
      }
      by (Refused float) answered published = record {
        of_desk = record {
          published = published;
          some = ready.of_desk.some;
          cards = of_design;
          reached = omega (arith, answered.0, ready.of_desk.reached);
          no_more = omega (arith, answered.0, ready.of_desk.no_more);
        };
        published = omega (arith, answered.0, ready.published);
      }
