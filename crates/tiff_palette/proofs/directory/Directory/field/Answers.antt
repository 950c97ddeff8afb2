use Rattle.std.proofs.Common.{◌≢◌, subst}
use Rattle.tiff_palette.specs.declared.entry.Entry.{Entry}
use Rattle.tiff_palette.proofs.Entries.{no_entries, none_more}
use Rattle.tiff_palette.proofs.directory.Directory.field.Goals as goal

pub loop-k-init : goal.loop-k-init
loop-k-init c = no_entries c.args.self.now.bytes.now c.args.tag

pub loop-k-preserved : goal.loop-k-preserved
loop-k-preserved c =
    none_more c.args.self.now.bytes.now c.args.tag c.loop-k.k c.loop-k.invariant
    (subst (λ (entry : Entry). entry.tag ≢ c.args.tag) c.entry-entry.ensures.entry c.if-entry-tag.false)
