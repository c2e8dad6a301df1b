use Rattle.std.proofs.Common.{refl}
use Rattle.map_model.proofs.Makings.{get-makes, remove-makes, next-makes}
use Rattle.map_model.proofs.plain_map.PlainMapAnswerer.ask.Goals as goal

pub returns-in-Get : goal.returns-in-Get
returns-in-Get g c = rw c.in-Get.is (record {
  entry = get-makes _ c.in-Get.key _ c.get.ensures.valid.rising c.get.ensures.value;
  valid = c.get.ensures.valid;
  same_room = refl;
})

pub returns-in-Remove : goal.returns-in-Remove
returns-in-Remove g c = rw c.in-Remove.is (record {
  entry = remove-makes _ _ c.in-Remove.key _ c.remove.ensures.valid.rising c.remove.ensures.old c.remove.ensures.pairs;
  valid = c.remove.ensures.valid;
  same_room = c.remove.ensures.room;
})

pub returns-in-Next : goal.returns-in-Next
returns-in-Next g c = rw c.in-Next.is (record {
  entry = next-makes _ c.in-Next.from c.next_from.result c.next_from.ensures.valid.rising c.next_from.ensures.next;
  valid = c.next_from.ensures.valid;
  same_room = refl;
})
