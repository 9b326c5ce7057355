use Rattle.std.proofs.Common.{◌∙◌}
use Rattle.looking.specs.Places.{base_of}
use Rattle.looking.proofs.Listings.{so_far_start}
use Rattle.looking.proofs.listing.gather.Goals as goal

pub loop-number-init : goal.loop-number-init
loop-number-init g c = (
  tt,
  tt,
  so_far_start (g.S.ReadStore.contents c.args.store.now) (g.S.ReadStore.sound c.args.store.now) (base_of c.args.storage) c.args.wanted c.args.handles.now.items _
      (c.into_iter-number-iterator.ensures.into_iter_gives ∙ c.files_of-number-items.ensures),
)
