use Rattle.std.proofs.Common.{◌<◌, ◌≡◌, ◌++◌, ◌∷◌, [], length, drop, sym, ap, ◌∙◌, subst, MatchResult}
use Rattle.std.proofs.lemmas.List.{length-map}
use Rattle.left_right.specs.Sides.{view}
use Rattle.shed_publish.specs.declared.board.Board.{Board}
use Rattle.shed_publish.specs.declared.board.View.{View}
use Rattle.shed_publish.specs.inner.Rule.{entries_of}
use Rattle.shed_publish.specs.inner.Writers.{AllAt, list_of}
use Rattle.shed_publish.specs.Versions.{version_of, IsPublished}
use Rattle.shed_publish.proofs.Keeping.{shows_next, after_list, after_writer}
use Rattle.shed_publish.proofs.publishing.publish_entry.Goals as goal

pub publish_as-requires : goal.publish_as-requires
publish_as-requires g c next is =
    let w = c.args.writer in
    let ops = drop w.behind w.log.items in
    let same : entries_of c.append.new.self.desk.shown.value ≡ entries_of w.desk.shown.value = ap (λ k. entries_of k.shown.value) c.in-Ok.ensures.desk in
    let at : c.len-at.result ≡ length (entries_of w.desk.shown.value) =
    c.len-at.ensures ∙ c.published.result.now.entries.ok.0 ∙ ap (λ b. length b.entries.items) c.published.ensures ∙ sym (length-map w.desk.shown.value.entries.items version_of) in
    shows_next _ _ _ next ops _ (record { at = c.len-at.result; entry = c.args.next }) c.in-Ok.ensures.pending
    (subst (λ l. AllAt (length l) ops) (sym same) c.requires.writer.pending)
    (at ∙ ap length (sym same))
    (subst (λ l. IsPublished (l ++ version_of c.args.next ∷ [])) (sym same) c.requires.next)
    is

pub returns-clause-list : goal.returns-clause-list
returns-clause-list g c =
    let w = c.args.writer in
    let a = c.append.new.self in
    let ops = drop w.behind w.log.items in
    let same : entries_of a.desk.shown.value ≡ entries_of w.desk.shown.value = ap (λ k. entries_of k.shown.value) c.in-Ok.ensures.desk in
    let at : c.len-at.result ≡ length (entries_of w.desk.shown.value) =
    c.len-at.ensures ∙ c.published.result.now.entries.ok.0 ∙ ap (λ b. length b.entries.items) c.published.ensures ∙ sym (length-map w.desk.shown.value.entries.items version_of) in
    subst (λ l. MatchResult c.publish_as.result.1 (λ _. list_of c.publish_as.result.0 ≡ l ++ version_of c.args.next ∷ []) (λ _. list_of c.publish_as.result.0 ≡ l)) same
    (after_list (view a.desk.place) (view c.publish_as.result.0.desk.place) a.desk.shown.value c.publish_as.result.0.desk.shown.value ops _ _
    (record { at = c.len-at.result; entry = c.args.next }) c.in-Ok.ensures.pending
    (subst (λ l. AllAt (length l) ops) (sym same) c.requires.writer.pending)
    (at ∙ ap length (sym same)) (subst IsPublished (sym same) c.requires.writer.published) (subst (λ l. 0 < length l) (sym same) c.requires.writer.some) (ap (λ k. (view {T = Board} {V = View} k.place).seen) c.in-Ok.ensures.desk ∙ c.requires.writer.seen ∙ sym same)
    c.publish_as.result.1 c.publish_as.ensures.values)

pub returns-clause-writer : goal.returns-clause-writer
returns-clause-writer g c =
    let w = c.args.writer in
    let a = c.append.new.self in
    let ops = drop w.behind w.log.items in
    let same : entries_of a.desk.shown.value ≡ entries_of w.desk.shown.value = ap (λ k. entries_of k.shown.value) c.in-Ok.ensures.desk in
    let at : c.len-at.result ≡ length (entries_of w.desk.shown.value) =
    c.len-at.ensures ∙ c.published.result.now.entries.ok.0 ∙ ap (λ b. length b.entries.items) c.published.ensures ∙ sym (length-map w.desk.shown.value.entries.items version_of) in
    let after = after_writer (view a.desk.place) (view c.publish_as.result.0.desk.place) a.desk.shown.value c.publish_as.result.0.desk.shown.value ops _ _
    (record { at = c.len-at.result; entry = c.args.next }) c.in-Ok.ensures.pending
    (subst (λ l. AllAt (length l) ops) (sym same) c.requires.writer.pending)
    (at ∙ ap length (sym same)) (subst IsPublished (sym same) c.requires.writer.published) (subst (λ l. 0 < length l) (sym same) c.requires.writer.some) (ap (λ k. (view {T = Board} {V = View} k.place).seen) c.in-Ok.ensures.desk ∙ c.requires.writer.seen ∙ sym same)
    c.publish_as.result.1 c.publish_as.ensures.values c.publish_as.ensures.rule in
    record { seen = after.0; published = after.1; some = after.2; pending = after.3 }
