-- What a keeper may store in a new header, it may still store later.
use Rattle.std.proofs.Common.{◌≡◌, ◌≢◌, ℕ, inl, inr, ⊎_elim, Some, refl}
use Rattle.word_layout.specs.declared.phase.Phase.TheVariants.{Open}
use Rattle.index_machine.specs.Groups.{phase}
use Rattle.index_machine.specs.Keepers.{part_of}
use Rattle.index_machine.specs.KeyRanges.{successor}
use Rattle.index_machine.specs.Permissions.{IsGone}
use Rattle.index_machine.specs.RebuildConditions.{IsLateHeader, IsSettled}
use Rattle.machine_keeper.proofs.GoneOver.{gone_over, settled_over}
use Rattle.machine_keeper.proofs.Others.{AreOthers, new_was, phase_on, unowned_on}
use Rattle.machine_keeper.specs.Staying.{MayFillHeaderStays}

pub may_fill_header : MayFillHeaderStays
may_fill_header o hand g which newer t is_hand valid without may =
    let x : AreOthers o hand (part_of o g) newer t =
    record { is_hand = is_hand; keeper = may.keeper; valid = valid; without = without }
    in
    record {
      keeper = may.keeper;
      exists = may.exists;
      is_word = may.is_word;
      unowned = unowned_on x g refl may.unowned;
      stage = ⊎_elim
          (λ (z : IsGone o g t × IsSettled o g t × ((k : ℕ) → successor k t ≢ Some g)).
          inl (
            gone_over x g refl z.0 z.1 (λ c w. z.2 w.1 (new_was x w.1 g refl w.4)),
            settled_over x g refl z.1,
            λ k is. z.2 k (new_was x k g refl is),
          ))
          (λ (z : (phase g t ≡ Open) × IsLateHeader which). inr (phase_on x g Open refl z.0, z.1))
          may.stage;
    }
