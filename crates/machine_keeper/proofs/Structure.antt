-- What a keeper may do with the phases of its groups, it may still do later.
use Rattle.std.proofs.Common.{refl}
use Rattle.word_layout.specs.declared.phase.Phase.TheVariants.{Frozen, Open}
use Rattle.index_machine.specs.Keepers.{part_of}
use Rattle.machine_keeper.proofs.Others.{AreOthers, group_on, phase_on}
use Rattle.machine_keeper.specs.Staying.{MayFreezeStays, MayThawStays}

pub may_freeze : MayFreezeStays
may_freeze o hand g newer t is_hand valid without may =
    let x : AreOthers o hand (part_of o g) newer t =
    record { is_hand = is_hand; keeper = may.keeper; valid = valid; without = without }
    in
    let k = may.chained in
    record {
      keeper = may.keeper;
      exists = may.exists;
      was = phase_on x g Open refl may.was;
      chained = (k.0, group_on x k.0 g refl k.1);
    }

pub may_thaw : MayThawStays
may_thaw o hand g newer t is_hand valid without may =
    let x : AreOthers o hand (part_of o g) newer t =
    record { is_hand = is_hand; keeper = may.keeper; valid = valid; without = without }
    in
    record { keeper = may.keeper; was = phase_on x g Frozen refl may.was }
