use Rattle.packed.proofs.Removing.{packed_after, contents_same}
use Rattle.packed.proofs.changes.remove.Goals as goal

pub returns-clause-packed : goal.returns-clause-packed
returns-clause-packed c =
    let e = rw (c.files.ensures.contents, c.files.ensures.places) at c.in_ok-i.ensures in
    let l = c.cut_row-gap.ensures.gap in
    packed_after c.args.memory.now l.between c.args.number c.in_ok-i.i l.row c.requires e l.cut
    c.cut_row-gap.new.memory c.close_gap.new.memory c.cut_row-gap.result l.begins l.long l.corrected c.close_gap.ensures

pub returns-clause-contents : goal.returns-clause-contents
returns-clause-contents c =
    let e = rw (c.files.ensures.contents, c.files.ensures.places) at c.in_ok-i.ensures in
    let l = c.cut_row-gap.ensures.gap in
    contents_same c.args.memory.now l.between c.args.number c.in_ok-i.i l.row c.requires e l.cut
    c.cut_row-gap.new.memory c.close_gap.new.memory c.cut_row-gap.result l.begins l.long l.corrected c.close_gap.ensures
