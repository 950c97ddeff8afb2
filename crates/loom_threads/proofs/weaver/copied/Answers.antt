use Rattle.std.proofs.Common.{Option, IfSome, subst, length}
use Rattle.std.specs.Option.{ForSome}
use Rattle.draft_model.specs.Cloths.{ClothCells}
use Rattle.loom_threads.specs.inner.Weavers.{HasSize}
use Rattle.loom_threads.proofs.weaver.copied.Goals as goal

pub copy_rows-requires : goal.copy_rows-requires
copy_rows-requires c =
    subst (λ (o : Option ClothCells). IfSome o (λ room. ForSome c.args.rows.now (HasSize room.ends (length room.rows)))) c.in_ok-cloth.was c.requires.size
    c.in-Some.rows c.in-Some.is
