use Rattle.slot.proofs.Removing.{kept_after, contents_same}
use Rattle.slot.proofs.changes.remove.Goals as goal

pub returns-clause-kept : goal.returns-clause-kept
returns-clause-kept c =
    let e = rw (c.files.ensures.contents, c.files.ensures.places) at c.in_ok-i.ensures in
    kept_after c.args.memory.now c.take_out.new.memory c.args.number c.in_ok-i.i c.requires e c.take_out.ensures

pub returns-clause-contents : goal.returns-clause-contents
returns-clause-contents c =
    let e = rw (c.files.ensures.contents, c.files.ensures.places) at c.in_ok-i.ensures in
    contents_same c.args.memory.now c.take_out.new.memory c.args.number c.in_ok-i.i c.requires e c.take_out.ensures
