use Rattle.std.proofs.Common.{◌+◌, ◌∷◌, []}
use Rattle.journal_disk.specs.Told.{BothTold}
use Rattle.journal_disk.proofs.lemmas.Tells.{since, chain, now_told, told_same, told_sync}
use Rattle.journal_disk.proofs.Steps.{Staged, Settled, Gated, Tried, tried_body, wrote_body, synced_body, tried_gate, wrote_gate, same_body, settled_within}
use Rattle.journal_disk.proofs.Ends.{after_all, at_end}
use Rattle.journal_disk.proofs.put_block.put_block.Goals as goal

pub returns-in_err-write_at-clause-crash : goal.returns-in_err-write_at-clause-crash
returns-in_err-write_at-clause-crash g c =
    since (g.D.Disk.told c.args.disk.now) (g.D.Disk.told c.write_at.new.self) {P = Tried (c.args.place + 1) c.args.body.now} c.requires.rest c.in_err-write_at.ensures.told (λ a b ready tried. tried_body c.args.place c.args.body.now a b ready tried)

pub returns-in_err-sync-clause-crash : goal.returns-in_err-sync-clause-crash
returns-in_err-sync-clause-crash g c =
    let place = c.args.place in
    let body = c.args.body.now in
    let t0 = g.D.Disk.told c.args.disk.now in
    let t1 = g.D.Disk.told c.write_at.new.self in
    let t2 = g.D.Disk.told c.sync.new.self in
    let one : BothTold t0 t1 (Staged place body) = since t0 t1 c.requires.rest c.in_ok-write_at.ensures.told (λ a b ready is. wrote_body place body a b ready is) in
    chain t0 t1 t2 one (told_same t1 t2 c.in_err-sync.ensures.told) (λ a b d was is. same_body place body a b d was is)

pub write_at-requires-2 : goal.write_at-requires-2
write_at-requires-2 g c =
    let place = c.args.place in
    let body = c.args.body.now in
    let t0 = g.D.Disk.told c.args.disk.now in
    let t1 = g.D.Disk.told c.write_at.new.self in
    let t2 = g.D.Disk.told c.sync.new.self in
    let one : BothTold t0 t1 (Staged place body) = since t0 t1 c.requires.rest c.in_ok-write_at.ensures.told (λ a b ready is. wrote_body place body a b ready is) in
    let two : BothTold t0 t2 (Settled place body) = chain t0 t1 t2 one (told_sync t1 t2 c.in_ok-sync.ensures.told) (λ a b d was is. synced_body place body a b d was is) in
    now_told t0 t2 two (λ a b was. settled_within place body a b was)

pub returns-in_err-write_at-2-clause-crash : goal.returns-in_err-write_at-2-clause-crash
returns-in_err-write_at-2-clause-crash g c =
    let place = c.args.place in
    let body = c.args.body.now in
    let t0 = g.D.Disk.told c.args.disk.now in
    let t1 = g.D.Disk.told c.write_at.new.self in
    let t2 = g.D.Disk.told c.sync.new.self in
    let t3 = g.D.Disk.told c.write_at-2.new.self in
    let one : BothTold t0 t1 (Staged place body) = since t0 t1 c.requires.rest c.in_ok-write_at.ensures.told (λ a b ready is. wrote_body place body a b ready is) in
    let two : BothTold t0 t2 (Settled place body) = chain t0 t1 t2 one (told_sync t1 t2 c.in_ok-sync.ensures.told) (λ a b d was is. synced_body place body a b d was is) in
    chain t0 t2 t3 {Q = Tried place (1 ∷ [])} two c.in_err-write_at-2.ensures.told (λ a b d was tried. tried_gate place body a b d was tried)

pub returns-clause-crash : goal.returns-clause-crash
returns-clause-crash g c =
    let place = c.args.place in
    let body = c.args.body.now in
    let t0 = g.D.Disk.told c.args.disk.now in
    let t1 = g.D.Disk.told c.write_at.new.self in
    let t2 = g.D.Disk.told c.sync.new.self in
    let t3 = g.D.Disk.told c.write_at-2.new.self in
    let t4 = g.D.Disk.told c.sync-2.new.self in
    let one : BothTold t0 t1 (Staged place body) = since t0 t1 c.requires.rest c.in_ok-write_at.ensures.told (λ a b ready is. wrote_body place body a b ready is) in
    let two : BothTold t0 t2 (Settled place body) = chain t0 t1 t2 one (told_sync t1 t2 c.in_ok-sync.ensures.told) (λ a b d was is. synced_body place body a b d was is) in
    let three : BothTold t0 t3 (Gated place body) = chain t0 t2 t3 two c.in_ok-write_at-2.ensures.told (λ a b d was is. wrote_gate place body a b d was is) in
    after_all place body t0 t3 t4 c.sync-2.result three c.sync-2.ensures.told

pub returns-clause-put : goal.returns-clause-put
returns-clause-put g c =
    let place = c.args.place in
    let body = c.args.body.now in
    let t0 = g.D.Disk.told c.args.disk.now in
    let t1 = g.D.Disk.told c.write_at.new.self in
    let t2 = g.D.Disk.told c.sync.new.self in
    let t3 = g.D.Disk.told c.write_at-2.new.self in
    let t4 = g.D.Disk.told c.sync-2.new.self in
    let one : BothTold t0 t1 (Staged place body) = since t0 t1 c.requires.rest c.in_ok-write_at.ensures.told (λ a b ready is. wrote_body place body a b ready is) in
    let two : BothTold t0 t2 (Settled place body) = chain t0 t1 t2 one (told_sync t1 t2 c.in_ok-sync.ensures.told) (λ a b d was is. synced_body place body a b d was is) in
    let three : BothTold t0 t3 (Gated place body) = chain t0 t2 t3 two c.in_ok-write_at-2.ensures.told (λ a b d was is. wrote_gate place body a b d was is) in
    at_end place body t0 t3 t4 c.sync-2.result three c.sync-2.ensures.told
