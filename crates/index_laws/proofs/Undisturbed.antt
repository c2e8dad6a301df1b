-- A call that nobody disturbs meets no cause but a frozen group: nobody else stored a word or held
-- a lock.
use Rattle.std.proofs.Common.{◌≡◌, ℕ, zero, suc, Option, Some, None}
use Rattle.std.proofs.Common.{[], ◌∷◌, ◌++◌, refl, sym, ap, ◌∙◌, subst, inl, inr, ◌⊎◌}
use Rattle.map_model.specs.declared.calls.Call.{Call}
use Rattle.map_model.specs.declared.calls.Call.TheVariants as call
use Rattle.word_layout.specs.declared.places.Part.TheVariants.{State}
use Rattle.word_layout.specs.Words.{FreeHead, PlaceWord, Word}
use Rattle.index_machine.specs.declared.events.Action.{Action}
use Rattle.index_machine.specs.declared.events.Action.TheVariants.{FailLink, FailLock, FailPop}
use Rattle.index_machine.specs.declared.events.Action.TheVariants.{Enter, Leave, LoadFree}
use Rattle.index_machine.specs.declared.events.Action.TheVariants.{LoadState}
use Rattle.index_machine.specs.declared.opening.Opening.{Opening}
use Rattle.index_machine.specs.Conditions.{Allowed, Valid}
use Rattle.index_machine.specs.Execution.{Continues, Execution, event}
use Rattle.index_machine.specs.Sections.{IsCaller}
use Rattle.index_machine.specs.Words.{Store, link_behind, store_of, stored, word}
use Rattle.index_machine.proofs.Executions.{continues_trans, valid_before}
use Rattle.index_rule.specs.declared.board.Board.{Board}
use Rattle.index_rule.specs.declared.hand.Hand.{Hand}
use Rattle.tried_calls.specs.declared.tried.Tried.{Tried}
use Rattle.tried_calls.specs.declared.tried.Tried.TheVariants.{Again}
use Rattle.tried_calls.specs.declared.tried.Why.{Why}
use Rattle.tried_calls.specs.declared.tried.Why.TheVariants as why
use Rattle.index_rule.specs.declared.view.View.{View}
use Rattle.index_rule.specs.Hands.{known, opening_of, view}
use Rattle.index_rule.specs.Rule.{Acts, number}
use Rattle.index_rule.proofs.Stepping.{known_is, others_only}
use Rattle.delta_buffer.specs.Walks.{load_of_link}
use Rattle.point_calls.specs.Changing.{LosesLock}
use Rattle.point_calls.specs.Getting.{IsGetCause}
use Rattle.point_calls.specs.PointCalls.{LeavesWord, MakesThen, MeetsChange, MeetsLock}
use Rattle.point_calls.specs.PointCalls.{StoresElsewhere}
use Rattle.point_calls.specs.Putting.{IsPutCause, LosesHead, LosesLink}
use Rattle.point_calls.specs.Removing.{IsRemoveCause}
use Rattle.point_calls.proofs.Knowing.{valid_at}
use Rattle.xindex_core.specs.declared.index.Index.{Index}
use Rattle.xindex_core.specs.declared.pass.Pass.{Pass}
use Rattle.xindex_core.specs.Passes.{IsPassOf, known_to, number_of, opening_with}
use Rattle.xindex_core.specs.Tries.{StepsTell, Tries}
use Rattle.index_laws.specs.Undisturbed.{IsAllBy, IsUndisturbed, OthersHoldNoLock}
use Rattle.index_laws.specs.Undisturbed.{UndisturbedTriesEnd}
use Rattle.index_laws.proofs.OwnEvents.{ContinuesAlone, before_first, moment_alone, part_alone}
use Rattle.index_laws.proofs.OwnEvents.{unlocked_on}
use Rattle.xindex_core.proofs.Inside.{get_since, put_since, remove_since}

-- ---- words ----

-- a store elsewhere leaves the word
stored_elsewhere : (w : Word) (s : Option Store) (n : ℕ) → StoresElsewhere w s → stored s w n ≡ n
stored_elsewhere w None n elsewhere = refl
stored_elsewhere w (Some s) n elsewhere = rw elsewhere refl

-- so do events that are all the hand's, where it stored nothing at the word
word_left : (o : Opening) (hand : ℕ) (w : Word) (newer t : Execution) → IsAllBy hand newer →
    LeavesWord hand w newer → word o (newer ++ t) w ≡ word o t w
word_left o hand w [] t all leaves = refl
word_left o hand w (e ∷ newer) t all leaves =
    subst (λ (z : ℕ). stored (store_of z e.action) w (word o (newer ++ t) w) ≡ word o t w)
    (sym all.0)
    (stored_elsewhere w (store_of hand e.action) (word o (newer ++ t) w) (leaves.0 all.0)
    ∙ word_left o hand w newer t all.1 leaves.1)

-- the load of a link finds the word there
link_found : (o : Opening) (t : Execution) (hand group lane before next : ℕ) →
    Allowed o t hand (load_of_link group lane before next) →
    word o (event hand (load_of_link group lane before next) ∷ t) (link_behind group lane before)
    ≡ next
link_found o t hand group lane zero next may = may.found_word
link_found o t hand group lane (suc n) next may = may.found_word

-- ---- a call that nobody disturbs ----

-- the cause is a frozen group
abbrev IsFrozenGroup : Why → Type 0
IsFrozenGroup cause = (group : ℕ) × (word : ℕ) × (cause ≡ why.Frozen group word)

-- since the execution that the call began with, all events up to its end are the hand's
module _ (b : Board) (h k : Hand) (begun : Execution) (from : Continues begun (known h))
    (valid : Valid (opening_of b) (known k)) (alone : ContinuesAlone h.number begun (known k)) where
  -- the two steps are allowed where they were made, and the second finds the word behind the first
  module _ (w : Word) (first other : Action) (m : MakesThen h w first other k) where
    both : Valid (opening_of b) (event h.number other ∷ m.1 ++ event h.number first ∷ m.0)
    both =
        valid_at b (event h.number other ∷ m.1 ++ event h.number first ∷ m.0) (known k) m.3 valid

    other_allowed : Allowed (opening_of b) (m.1 ++ event h.number first ∷ m.0) h.number other
    other_allowed = both.0

    first_allowed : Allowed (opening_of b) m.0 h.number first
    first_allowed = (valid_before (opening_of b) m.1 (event h.number first ∷ m.0) both.1).0

    same_word_found : word (opening_of b) (m.1 ++ event h.number first ∷ m.0) w
        ≡ word (opening_of b) (event h.number first ∷ m.0) w
    same_word_found =
        let step : Continues (m.1 ++ event h.number first ∷ m.0) (known k) =
        continues_trans (m.1 ++ event h.number first ∷ m.0)
        (event h.number other ∷ m.1 ++ event h.number first ∷ m.0) (known k)
        (event h.number other ∷ [], refl) m.3
        in
        let there : Continues begun (event h.number first ∷ m.0) =
        continues_trans begun m.0 (event h.number first ∷ m.0)
        (continues_trans begun (known h) m.0 from m.2) (event h.number first ∷ [], refl)
        in
        word_left (opening_of b) h.number w m.1 (event h.number first ∷ m.0)
        (part_alone h.number begun (known k) (event h.number first ∷ m.0) m.1 alone there step) m.4

  pub no_change : (key place first second : ℕ) → MeetsChange b key h place first second k → ⊥
  no_change key place first second meets =
      let w : Word = PlaceWord place State in
      let one = first_allowed w (LoadState place first) (LoadState place second) meets.loads in
      let two = other_allowed w (LoadState place first) (LoadState place second) meets.loads in
      meets.differ
      (sym one.found_word
      ∙ (sym (same_word_found w (LoadState place first) (LoadState place second) meets.loads)
      ∙ two.found_word))

  pub no_lost_lock : (key address expected found : ℕ) →
      LosesLock b key h address expected found k → ⊥
  no_lost_lock key address expected found loses =
      let w : Word = PlaceWord loses.place State in
      let load = LoadState loses.place expected in
      let fail = FailLock loses.place expected found in
      let one = first_allowed w load fail loses.steps in
      let two = other_allowed w load fail loses.steps in
      loses.differ
      (sym one.found_word ∙ (sym (same_word_found w load fail loses.steps) ∙ two.found_word))

  pub no_lost_link : (address expected found : ℕ) → LosesLink b h address expected found k → ⊥
  no_lost_link address expected found loses =
      let w : Word = link_behind loses.group loses.lane loses.before in
      let load = load_of_link loses.group loses.lane loses.before expected in
      let fail = FailLink loses.group loses.lane loses.before expected found in
      let one = link_found (opening_of b) loses.steps.0 h.number loses.group loses.lane loses.before
      expected (first_allowed w load fail loses.steps) in
      let two = other_allowed w load fail loses.steps in
      loses.differ
      (sym one ∙ (sym (same_word_found w load fail loses.steps) ∙ two.found_word))

  pub no_lost_head : (address expected found : ℕ) → LosesHead h address expected found k → ⊥
  no_lost_head address expected found loses =
      let load = LoadFree expected in
      let fail = FailPop expected found in
      let one = first_allowed FreeHead load fail loses.steps in
      let two = other_allowed FreeHead load fail loses.steps in
      loses.differ
      (sym one.1 ∙ (sym (same_word_found FreeHead load fail loses.steps) ∙ two.head_word))

  pub no_lock : IsCaller (opening_of b) h.number → OthersHoldNoLock (opening_of b) h.number begun →
      (key place word : ℕ) → MeetsLock b key h place word k → ⊥
  no_lock caller none key place word meets =
      let w = meets.within in
      let there : Continues begun meets.moment =
      continues_trans begun (w.1 ++ known h) meets.moment
      (continues_trans begun (known h) (w.1 ++ known h) from (w.1, refl)) w.4
      in
      let own = moment_alone h.number begun meets.moment (known k) alone there w.5 in
      subst (OthersHoldNoLock (opening_of b) h.number) own.1
      (unlocked_on (opening_of b) h.number own.0 begun caller own.2
      (subst (Valid (opening_of b)) (sym own.1) (valid_at b meets.moment (known k) w.5 valid)) none)
      place meets.by_another

  -- what is left of the causes of each call is a frozen group
  module _ (caller : IsCaller (opening_of b) h.number)
      (none : OthersHoldNoLock (opening_of b) h.number begun) where
    get_frozen : (key : ℕ) (cause : Why) → IsGetCause b key h cause k → IsFrozenGroup cause
    get_frozen key (why.Locked place found) is = absurd (no_lock caller none key place found is)
    get_frozen key (why.Changed place first second) is =
        absurd (no_change key place first second is)
    get_frozen key (why.Frozen group found) is = absurd is
    get_frozen key (why.Raced address expected found) is = absurd is

    remove_frozen : (key : ℕ) (cause : Why) → IsRemoveCause b key h cause k → IsFrozenGroup cause
    remove_frozen key (why.Locked place found) is = absurd (no_lock caller none key place found is)
    remove_frozen key (why.Changed place first second) is = absurd is
    remove_frozen key (why.Frozen group found) is = absurd is
    remove_frozen key (why.Raced address expected found) is =
        absurd (no_lost_lock key address expected found is)

    no_race : (key address expected found : ℕ) →
        LosesLock b key h address expected found k
        ⊎ (LosesLink b h address expected found k ⊎ LosesHead h address expected found k) → ⊥
    no_race key address expected found (inl lock) = no_lost_lock key address expected found lock
    no_race key address expected found (inr (inl link)) = no_lost_link address expected found link
    no_race key address expected found (inr (inr head)) = no_lost_head address expected found head

    put_frozen : (key : ℕ) (cause : Why) → IsPutCause b key h cause k → IsFrozenGroup cause
    put_frozen key (why.Locked place found) is = absurd (no_lock caller none key place found is)
    put_frozen key (why.Changed place first second) is =
        absurd (no_change key place first second is)
    put_frozen key (why.Frozen group found) is = (group, found, refl)
    put_frozen key (why.Raced address expected found) is =
        absurd (no_race key address expected found is)

    pub only_frozen : (made : Call) (cause : Why) → StepsTell b made h (Again cause) k →
        IsFrozenGroup cause
    only_frozen (call.Get key) cause tells = get_frozen key cause tells.1
    only_frozen (call.Next from) cause tells = get_frozen from cause tells.1
    only_frozen (call.Put key value) cause tells = put_frozen key cause tells.1
    only_frozen (call.Remove key) cause tells = remove_frozen key cause tells.1

-- ---- a try ----

-- what a seat knows after a step goes on from what it knew before
acts_on : (v : View) (d : Action) (w : View) → Acts v d w → Continues v.known w.known
acts_on v d w acts = (event (number v) d ∷ acts.0, sym (ap (λ (z : View). z.known) acts.1))

steps_since : (b : Board) (made : Call) (h : Hand) (cause : Why) (k : Hand) →
    StepsTell b made h (Again cause) k → Continues (known h) (known k)
steps_since b (call.Get key) h cause k tells = get_since b key h (Again cause) k tells
steps_since b (call.Next from) h cause k tells = get_since b from h (Again cause) k tells
steps_since b (call.Put key value) h cause k tells = put_since b key value h (Again cause) k tells
steps_since b (call.Remove key) h cause k tells = remove_since b key h (Again cause) k tells

module _ (i : Index) (old : Pass) (made : Call) (cause : Why) (new : Pass) (of : IsPassOf i old)
    (tries : Tries i old made (Again cause) new)
    (calm : IsUndisturbed (number_of old) (known_to old) (known_to new)) where
  abbrev inside : Hand
  inside = tries.steps.inside

  abbrev done : Hand
  done = tries.steps.done

  abbrev begun : Execution
  begun = calm.others ++ known_to old

  within : Continues (known inside) (known done)
  within = steps_since i.board made inside cause done tries.steps.does

  left : Continues (known done) (known_to new)
  left = acts_on (view done) (Leave _) (view new.hand) tries.steps.leaves.acts

  whole : Continues (known inside) (known_to new)
  whole = continues_trans (known inside) (known done) (known_to new) within left

  -- what others did before it entered is all that they did
  others_are : calm.others ≡ tries.steps.enters.acts.0
  others_are =
      let same = known_is i.board old.hand inside (Enter _) of.of tries.steps.enters in
      before_first (number_of old) (Enter _) calm.own calm.others whole.0
      tries.steps.enters.acts.0 (known_to old) calm.alone calm.apart
      (others_only i.board old.hand inside (Enter _) of.of tries.steps.enters)
      (calm.known ∙ (sym whole.1 ∙ ap (λ (z : Execution). whole.0 ++ z) same))

  entered : Continues begun (known inside)
  entered = (
    event (number_of old) (Enter _) ∷ [],
    ap (λ (z : Execution). event (number_of old) (Enter _) ∷ (z ++ known_to old)) others_are
        ∙ sym (known_is i.board old.hand inside (Enter _) of.of tries.steps.enters),
  )

  alone : ContinuesAlone (number_of old) begun (known done)
  alone =
      moment_alone (number_of old) begun (known done) (known_to new)
      (calm.own, calm.known, calm.alone)
      (continues_trans begun (known inside) (known done) entered within) left

  valid : Valid (opening_with i) (known done)
  valid =
      let leaves = tries.steps.leaves in
      let opened = sym (ap (λ (z : View). z.opening) leaves.acts.1) ∙ leaves.of.opened in
      valid_at i.board (known done) (known_to new) left
      (leaves.acts.3 (opening_with i) opened).valid

  pub try_frozen : OthersHoldNoLock (opening_with i) (number_of old) begun → IsFrozenGroup cause
  try_frozen none =
      let own = sym tries.steps.enters.number in
      only_frozen i.board inside done begun entered valid
      (subst (λ (z : ℕ). ContinuesAlone z begun (known done)) own alone)
      (subst (IsCaller (opening_with i)) own of.rests.caller)
      (subst (λ (z : ℕ). OthersHoldNoLock (opening_with i) z begun) own none)
      made cause tries.steps.does

pub undisturbed_end : UndisturbedTriesEnd
undisturbed_end i old made came new of tries calm none cause is =
    try_frozen i old made cause new of
    (subst (λ (z : Tried (Option ℕ)). Tries i old made z new) is tries) calm none
