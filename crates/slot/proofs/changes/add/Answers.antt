use Rattle.slot.proofs.Adding.{spare, slot, kept_after, contents_same}
use Rattle.slot.proofs.changes.add.Goals as goal

pub put-requires-clause-spare : goal.put-requires-clause-spare
put-requires-clause-spare c =
    let e = rw c.files.ensures.contents at c.in_ok-admit.ensures in
    spare c.args.memory.now c.args.number c.args.file.now c.args.bytes.now c.requires e

pub put-requires-clause-slot : goal.put-requires-clause-slot
put-requires-clause-slot c =
    let e = rw c.files.ensures.contents at c.in_ok-admit.ensures in
    slot c.args.memory.now c.args.number c.args.file.now c.args.bytes.now c.requires e

pub returns-clause-kept : goal.returns-clause-kept
returns-clause-kept c =
    let e = rw c.files.ensures.contents at c.in_ok-admit.ensures in
    kept_after c.args.memory.now c.args.number c.args.file.now c.args.bytes.now c.requires e c.put.new.memory c.put.ensures

pub returns-clause-contents : goal.returns-clause-contents
returns-clause-contents c =
    let e = rw c.files.ensures.contents at c.in_ok-admit.ensures in
    contents_same c.args.memory.now c.args.number c.args.file.now c.args.bytes.now c.requires e c.put.new.memory c.put.ensures
