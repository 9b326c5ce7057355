use Rattle.packed.proofs.Adding.{spare, room, packed_after, contents_same}
use Rattle.packed.proofs.changes.add.Goals as goal

pub append-requires-clause-spare : goal.append-requires-clause-spare
append-requires-clause-spare c =
    let e = rw c.files.ensures.contents at c.in_ok-admit.ensures in
    spare c.args.memory.now c.args.number c.args.file.now c.args.bytes.now c.requires e

pub append-requires-clause-room : goal.append-requires-clause-room
append-requires-clause-room c =
    let e = rw c.files.ensures.contents at c.in_ok-admit.ensures in
    room c.args.memory.now c.args.number c.args.file.now c.args.bytes.now c.requires e

pub returns-clause-packed : goal.returns-clause-packed
returns-clause-packed c =
    let e = rw c.files.ensures.contents at c.in_ok-admit.ensures in
    packed_after c.args.memory.now c.args.number c.args.file.now c.args.bytes.now c.requires e c.append.new.memory c.append.ensures

pub returns-clause-contents : goal.returns-clause-contents
returns-clause-contents c =
    let e = rw c.files.ensures.contents at c.in_ok-admit.ensures in
    contents_same c.args.memory.now c.args.number c.args.file.now c.args.bytes.now c.requires e c.append.new.memory c.append.ensures
