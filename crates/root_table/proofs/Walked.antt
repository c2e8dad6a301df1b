-- A walk of a caller on its way along the chain.
use Rattle.std.proofs.Common.{◌≡◌, ℕ, suc, ◌+◌, ◌-◌, ◌<◌, ◌≤◌, ⊎_elim, [], ◌∷◌, refl, ◌∙◌, subst, arith}
use Rattle.std.proofs.Math.Logic.{∥∥₁_elim}
use Rattle.std.proofs.Props.{props}
use Rattle.word_layout.specs.Parts.{greatest_key}
use Rattle.word_layout.specs.Shape.{group_total}
use Rattle.index_machine.specs.declared.events.Action.TheVariants.{LoadNext}
use Rattle.index_machine.specs.Words.{shape}
use Rattle.machine_chain.proofs.Walking.{least_keys}
use Rattle.machine_chain.specs.Chain.{pivot_of}
use Rattle.machine_chain.specs.Walks.{AnswersFor}
use Rattle.index_rule.specs.declared.board.Board.{Board}
use Rattle.index_rule.specs.declared.hand.Hand.{Hand}
use Rattle.index_rule.specs.Hands.{Makes, MakesAll, known, opening_of}
use Rattle.index_rule.specs.Moments.{AddsNoEntry}
use Rattle.root_table.specs.Standing.{IsBehindKey, LeadsIntoTable, StandsIn}
use Rattle.root_table.specs.Walks.{GoesOn, HasGoneTo, LooksAhead, Stops, WalksTo}
use Rattle.root_table.proofs.Ahead.{begins_next, ends_before, ends_last, rises}
use Rattle.root_table.proofs.InTable.{answers_exist, answers_lead_on}

-- the caller that began so has come to this group
pub record HasWalked (b : Board) (from key : ℕ) (h : Hand) (group : ℕ) (m : Hand) : Type 0 where
  pub behind : IsBehindKey b group key m
  pub in_table : group < group_total (shape (opening_of b))
  pub number : m.number ≡ h.number
  pub log : AddsNoEntry h m
  pub steps : ℕ
  pub gone : HasGoneTo b from key h steps group m

-- a group that begins at or before the key is of the table
pub behind_exists : (b : Board) (group key : ℕ) (h : Hand) → key ≤ greatest_key →
    IsBehindKey b group key h → group < group_total (shape (opening_of b))
behind_exists b group key h most behind =
    ∥∥₁_elim (h.following (opening_of b) behind.call.of.opened) (hlevel props)
    (λ follows.
    let low = behind.begins.1 in
    answers_exist (opening_of b) (known h) follows.valid behind.begins.0 group (omega (arith, low, most))
    behind.begins.2)

pub walk_begins : (b : Board) (from key : ℕ) (h : Hand) → key ≤ greatest_key → IsBehindKey b from key h →
    HasWalked b from key h from h
walk_begins b from key h most behind =
    record {
      behind = behind;
      in_table = behind_exists b from key h most behind;
      number = refl;
      log = refl;
      steps = 0;
      gone = (refl, refl);
    }

module _ (b : Board) (from key : ℕ) (h : Hand) (group : ℕ) (m : Hand) (most : key ≤ greatest_key)
    (on : HasWalked b from key h group m) where
  pub stands_there : StandsIn b group m
  stands_there =
      record { call = on.behind.call; stands = on.behind.stands; in_table = on.in_table }

  pub leads_there : LeadsIntoTable (opening_of b) m.number group (known m)
  leads_there =
      let low = on.behind.begins.1 in
      answers_lead_on (opening_of b) m.number group on.behind.begins.0 (known m)
      on.behind.call.reading.caller on.behind.stands (omega (arith, low, most)) on.behind.begins.2

  -- the next group is at or before the key
  module _ (next : ℕ) (k : Hand) (goes : GoesOn b group key m next k) (there : StandsIn b next k)
      (number : k.number ≡ m.number) (log : AddsNoEntry m k) where
    abbrev mid : Hand
    mid = goes.2.0

    loads : Makes b m (LoadNext group (next + 1)) mid
    loads = subst (λ (z : Hand). Makes b z (LoadNext group (next + 1)) mid) goes.2.1.1 goes.2.1.2

    pub walks_on : HasWalked b from key h next k
    walks_on =
        record {
          behind = record {
            call = there.call;
            stands = there.stands;
            begins = begins_next b m mid k group next goes.0 on.behind.call.of loads goes.2.2 key
                on.behind.call.reading.caller most on.behind.stands on.behind.begins goes.1;
          };
          in_table = there.in_table;
          number = number ∙ on.number;
          log = log ∙ on.log;
          steps = suc on.steps;
          gone = (group, m, on.gone, goes);
        }

    -- and nearer to it
    pub nearer : key + 1 - pivot_of (opening_of b) next (known k)
        < key + 1 - pivot_of (opening_of b) group (known m)
    nearer =
        let up = rises b m mid k group next goes.0 on.behind.call.of loads goes.2.2 key
        on.behind.call.reading.caller most on.behind.stands on.behind.begins goes.1 in
        let le = next_below in
        omega (arith, up, le)
      where
        next_below : pivot_of (opening_of b) next (known k) ≤ key
        next_below =
            ∥∥₁_elim (k.following (opening_of b) there.call.of.opened) (hlevel props)
            (λ follows.
            let begins = walks_on.behind.begins in
            let low = begins.1 in
            let least = (least_keys (opening_of b) (known k) follows.valid k.number next begins.0
            there.call.reading.caller there.stands (omega (arith, low, most)) begins.2).low in
            omega (arith, least, low))

  -- there is none
  module _ (k : Hand) (stops : Stops b group key m k) where
    pub answers_there : AnswersFor (opening_of b) key group (known k)
    answers_there =
        ⊎_elim
        (λ (last : MakesAll b m (LoadNext group 0 ∷ []) k).
        ends_last b m k group key on.behind.call.of
        (subst (λ (z : Hand). Makes b z (LoadNext group 0) k) last.1 last.2)
        on.behind.call.reading.caller most on.behind.stands on.behind.begins)
        (λ (before : (next : ℕ) × (pivot : ℕ) × (key < pivot) × LooksAhead b group next pivot m k).
        let ahead = before.3 in
        let mid : Hand = ahead.0 in
        let loads : Makes b m (LoadNext group (before.0 + 1)) mid =
        subst (λ (z : Hand). Makes b z (LoadNext group (before.0 + 1)) mid) ahead.1.1 ahead.1.2 in
        ends_before b m mid k group before.0 before.1 on.behind.call.of loads ahead.2 key
        on.behind.call.reading.caller most on.behind.stands on.behind.begins before.2)
        stops

    pub walked_to : WalksTo b from key h group k
    walked_to = (on.steps, m, on.gone, stops)
