-- Along next words pivots rise, and the group of a slot begins at or before it.
use Rattle.std.proofs.Common.{◌≡◌, ℕ, ◌+◌, ◌<◌, ◌≤◌, ⊎_elim, Some, refl, sym, ◌∙◌}
use Rattle.std.proofs.Common.{subst, arith}
use Rattle.index_machine.proofs.OfParts.{key_most}
use Rattle.machine_chain.specs.Chain.{end_of}
use Rattle.index_machine.specs.Groups.{slot}
use Rattle.index_machine.specs.KeyRanges.{group_of, predecessor, successor}
use Rattle.word_layout.specs.Parts.{greatest_key}
use Rattle.index_machine.specs.Permissions.{AreGone}
use Rattle.machine_chain.proofs.Answers.{answers_lead, to_top}
use Rattle.machine_chain.proofs.Idle.{chain_next_words}
use Rattle.machine_chain.proofs.NewGroups.{NewNext, keys_hold, new_scan}
use Rattle.machine_chain.proofs.Old.{old_chained}
use Rattle.machine_chain.proofs.Pivots.{chain_back, old_back, start_at_pivot}
use Rattle.machine_chain.proofs.Slots.{slots_lead}
use Rattle.machine_chain.specs.Chain.{OldAreChained, next_of}
use Rattle.machine_chain.specs.Keepers.{PivotsOfTheChainRise}
use Rattle.machine_chain.specs.Laws.{NewGroupsLeadOn, NextPivotsAreGreater}
use Rattle.machine_chain.specs.Laws.{SlotsAreAtOrBehindTheirGroups}
use Rattle.machine_readers.proofs.StandingCallers.{groups_before_are_opened}

pub chain_rises : PivotsOfTheChainRise
chain_rises o t valid g n k le is e =
    let m = (chain_next_words o t valid g k le is).next n e in
    let low = (chain_back o t g k valid le is).0 in
    let far = m.1 in let p = m.3 in
    omega (arith, low, far, p)

pub walk_rises : NextPivotsAreGreater
walk_rises o t valid c g n k is s le a e =
    let m = (answers_lead o t c g k valid is s le a).next n e in
    let low = (start_at_pivot o t c g k valid is s le a).low in
    let far = m.1 in let p = m.3 in
    omega (arith, low, far, p)

pub slots_behind : SlotsAreAtOrBehindTheirGroups
slots_behind o t valid part side i is_part r =
    let l = (slots_lead o t valid).leads part side i is_part r in
    let le = l.1 in
    let key : l.0 ≤ greatest_key = key_most o part l.0 l.3 in
    ⊎_elim
    (λ (z : group_of o l.0 t ≡ slot o part side i t).
    let low = (chain_back o t (slot o part side i t) l.0 valid key z).0 in omega (arith, low, le))
    (λ (z : predecessor o l.0 t ≡ Some (slot o part side i t)).
    let p = groups_before_are_opened o t valid l.0 (slot o part side i t) z in ⊎_elim
    (λ (all : AreGone o p.0 t). absurd ((all (slot o part side i t) p.1).unnamed part side i r refl))
    (λ (old : OldAreChained o p.0 t).
    let low = (old_back o t p.0 (slot o part side i t) l.0 valid key p.1 old (z, p.1)).0 in
    omega (arith, low, le))
    (old_chained o t valid p.0)) l.2

pub new_lead : NewGroupsLeadOn
new_lead o t valid f g k under made is =
    let top = to_top o k ((keys_hold o t valid).new k g is).0 in
    let scan = new_scan o t f g valid under made top.0 k top.1 is in
    record {
      end = λ e. ⊎_elim
          (λ (z : (next_of o g t ≡ 0)
          × ((m : ℕ) → k ≤ m → m ≤ end_of o k → successor m t ≡ Some g)). z.1)
          (λ (z : (x : ℕ) × (i : ℕ) × (k ≤ i) × (i < end_of o k) × (next_of o g t ≡ x + 1)
          × NewNext o f x i t × ((m : ℕ) → k ≤ m → m ≤ i → successor m t ≡ Some g)).
          let bad : 0 ≡ z.0 + 1 = sym e ∙ z.4 in absurd (omega (arith, bad))) scan;
      next = λ n e. ⊎_elim
          (λ (z : (next_of o g t ≡ 0)
          × ((m : ℕ) → k ≤ m → m ≤ end_of o k → successor m t ≡ Some g)).
          let bad : 0 ≡ n + 1 = sym z.0 ∙ e in absurd (omega (arith, bad)))
          (λ (z : (x : ℕ) × (i : ℕ) × (k ≤ i) × (i < end_of o k) × (next_of o g t ≡ x + 1)
          × NewNext o f x i t × ((m : ℕ) → k ≤ m → m ≤ i → successor m t ≡ Some g)).
          let both : z.0 + 1 ≡ n + 1 = sym z.4 ∙ e in
          let same : z.0 ≡ n = omega (arith, both) in
          (z.1, z.2, z.3, subst (λ (y : ℕ). NewNext o f y z.1 t) same z.5, z.6)) scan;
    }
