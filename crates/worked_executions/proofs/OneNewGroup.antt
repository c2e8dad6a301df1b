-- A rebuild of one group with one new group for the same keys: the group is opened to it, and the new group is
-- installed by the first slot of its part.
use Rattle.std.proofs.Common.{◌≡◌, ◌≢◌, ◌⊎◌, inr, ℕ, ◌+◌, ◌<◌, ◌≤◌, Some, Bool, true, false}
use Rattle.std.proofs.Common.{refl, sym, ap, ◌∙◌, subst, arith, nat_lt, ltb-true, ltb-false}
use Rattle.index_machine.proofs.Options.{some_is}
use Rattle.index_machine.proofs.Ranges.{in_range, range_in}
use Rattle.index_machine.specs.Execution.{Execution}
use Rattle.index_machine.specs.Groups.{IsInUse, phase, rebuild, root}
use Rattle.index_machine.specs.Keepers.{IsGroupKeeper, IsKeyIn, IsPartKeeper, first_key, part_of}
use Rattle.index_machine.specs.KeyRanges.{group_of, successor}
use Rattle.index_machine.specs.Openings.{within}
use Rattle.index_machine.specs.Permissions.{IsClosedToInserts, IsGone}
use Rattle.index_machine.specs.LivePlaces.{live_place}
use Rattle.index_machine.specs.RebuildConditions.{HasNewGroup, IsBehindFirst, IsNextWord, IsSized}
use Rattle.index_machine.specs.RebuildConditions.{MayInstall, MayOpen}
use Rattle.index_machine.specs.Rows.{InArray, InBuffer, role}
use Rattle.index_machine.specs.Forms.{Redirect}
use Rattle.index_machine.specs.Places.{form}
use Rattle.index_machine.specs.Words.{word}
use Rattle.index_machine.specs.declared.events.InstallWord.TheVariants.{FirstSlot}
use Rattle.index_machine.specs.declared.opening.Opening.{Opening}
use Rattle.machine_barriers.proofs.OpenedGroups.{opened_is}
use Rattle.word_layout.specs.Words.{Header}
use Rattle.word_layout.specs.declared.headers.HeaderWord.TheVariants as header
use Rattle.word_layout.specs.declared.phase.Phase.TheVariants.{Frozen, Open, Opened}
use Rattle.worked_executions.proofs.Equations.{Same}

-- the rebuild made this new group alone, which is open, is to answer for these keys, and leads to the group behind
-- them in its part
pub record IsOnlyNew (o : Opening) (t : Execution) (part low high new : ℕ) : Type 0 where
  pub made : rebuild new t ≡ Some new
  pub is_open : phase new t ≡ Open
  pub pivot : word o t (Header new header.Pivot) ≡ low
  pub next : IsNextWord o t part high (word o t (Header new header.Next))
  pub only : (h : ℕ) → rebuild h t ≡ Some new → new ≡ h
  pub of_keys : (k : ℕ) → low ≤ k → k ≤ high → successor k t ≡ Some new
  pub keys : (k : ℕ) → successor k t ≡ Some new → (low ≤ k) × (k ≤ high)

-- the place is a row of the new group's buffer for the key, or the group's array has a redirect there for it
abbrev pub IsMergedInto : Opening → ℕ → ℕ → ℕ → Execution → Type 0
IsMergedInto o new k p t =
    (role o p t ≡ InBuffer new k)
    ⊎ ((a : ℕ) × (y : ℕ) × (role o a t ≡ InArray new k) × (form o a t ≡ Redirect p y))

module _ (o : Opening) (t : Execution) (part low high new : ℕ)
    (is : IsOnlyNew o t part low high new) where
  -- ---- opening ----

  has_new : (k : ℕ) → low ≤ k → k ≤ high → HasNewGroup new k t
  has_new k above below = (new, is.of_keys k above below, is.made)

  is_behind : (k : ℕ) → low ≤ k → k ≤ high → IsBehindFirst o new k t
  is_behind k above below = subst (λ (w : ℕ). (w ≤ k) × (successor w t ≡ Some new)
      × ((j : ℕ) → w ≤ j → j ≤ k → HasNewGroup new j t)) (sym is.pivot) (
        above,
        is.of_keys low (omega arith) (omega (arith, above, below)),
        λ j from to. has_new j from (omega (arith, below, to)),
      )

  ends : (k h : ℕ) → successor k t ≡ Some h → rebuild h t ≡ Some new →
      (HasNewGroup new (k + 1) t → ⊥) → IsNextWord o t part k (word o t (Header h header.Next))
  ends k h next made none = go (nat_lt k high) refl
    where
      range : (low ≤ k) × (k ≤ high)
      range = is.keys k (next ∙ ap (λ (y : ℕ). Some y) (sym (is.only h made)))

      go : (w : Bool) → nat_lt k high ≡ w → IsNextWord o t part k (word o t (Header h header.Next))
      go true e = let more : k < high = ltb-true k high e in let from = range.0 in
          absurd (none (has_new (k + 1) (omega (arith, from)) (omega (arith, more))))
      go false e = let top : high ≤ k = ltb-false k high e in let to = range.1 in
          let last : high ≡ k = omega (arith, top, to) in
          subst (λ (y : ℕ). IsNextWord o t part y (word o t (Header h header.Next))) last
          (subst (λ (y : ℕ). IsNextWord o t part high (word o t (Header y header.Next)))
          (is.only h made) is.next)

  -- a frozen group with these keys is opened to the rebuild, where of others of its part nothing is left
  pub one_opens : (hand g : ℕ) → IsGroupKeeper o hand g → part ≡ part_of o g → phase g t ≡ Frozen →
      IsClosedToInserts o g t → ((k : ℕ) → group_of o k t ≡ g → (low ≤ k) × (k ≤ high)) →
      ((k : ℕ) → group_of o k t ≢ new) → ((h : ℕ) → phase h t ≢ Opened new) →
      ((h e : ℕ) → part_of o h ≡ part_of o g → phase h t ≡ Opened e → IsGone o h t) →
      ((h e : ℕ) → phase h t ≡ Opened e → rebuild g t ≡ Some e → IsGone o h t) →
      MayOpen o t hand g new
  one_opens hand g keeper here frozen closed keys unchained none others past = record {
    keeper = keeper;
    frozen = frozen;
    closed = closed;
    named = is.made;
    fresh = λ h e. subst (λ (y : ℕ). phase y t ≡ Open) (is.only h e) is.is_open;
    unchained = λ k h e at. unchained k (at ∙ sym (is.only h e));
    planned = λ k e. has_new k (keys k e).0 (keys k e).1;
    behind = λ k e. is_behind k (keys k e).0 (keys k e).1;
    chained = λ k i h made too one other n. absurd (n (sym (is.only i made) ∙ is.only h too));
    ends = λ k h next made none.
        subst (λ (y : ℕ). IsNextWord o t y k (word o t (Header h header.Next))) here
        (ends k h next made none);
    siblings = λ h at. absurd (none h at);
    only = λ h e at_part at. inr (others h e at_part at);
    past = past;
  }

  -- ---- the install ----

  new_is : (k h : ℕ) → within low k high ≡ true → successor k t ≡ Some h → Same new h
  new_is k h inside e = let range = in_range low high k inside in
      some_is (sym (is.of_keys k range.0 range.1) ∙ e)

  -- the new group of an opened group with just these keys is installed by the first slot of its part
  pub one_installs : (hand g : ℕ) → IsPartKeeper o hand part → IsInUse (root o part t) 0 0 →
      IsKeyIn o part low → IsKeyIn o part high → low ≡ first_key o part →
      low ≤ high → phase g t ≡ Opened new → ((h : ℕ) → phase h t ≡ Opened new → h ≡ g) →
      ((k : ℕ) → low ≤ k → k ≤ high → group_of o k t ≡ g) →
      ((k : ℕ) → group_of o k t ≡ g → (low ≤ k) × (k ≤ high)) → IsSized o new t →
      ((k p : ℕ) → low ≤ k → k ≤ high → live_place o k t ≡ Some p → IsMergedInto o new k p t) →
      MayInstall o t hand (FirstSlot part 0) new low high
  one_installs hand g keeper used of_low of_high begins order opened alone of_keys keys sized live =
      record {
        keeper = keeper;
        in_part = (of_low, of_high);
        leads = (begins, used);
        first = (inside low (omega arith) order, is.of_keys low (omega arith) order);
        named = is.made;
        starts = is.pivot;
        ends = λ h e. let one = new_is high h (inside high order (omega arith)) e in
            subst (λ (y : ℕ). IsNextWord o t part high (word o t (Header y header.Next))) one is.next;
        whole = λ j k e. same (within low j high) (within low k high) (λ a. back k (sym e ∙ of j a))
            (λ b. back j (e ∙ of k b));
        opened = λ k a. let range = in_range low high k a in (
          new,
          new,
          ap (λ (y : ℕ). phase y t) (of k a) ∙ opened,
          is.of_keys k range.0 range.1,
          is.made,
          is.is_open,
        );
        all_old = λ j k f a at e.
            let name : Same new f = opened_is (sym opened ∙ (ap (λ (y : ℕ). phase y t) (sym (of j a)) ∙ at)) in
            back k (alone (group_of o k t) (e ∙ ap (λ (y : ℕ). Opened y) (sym name)));
        all_new = λ j k f i h a next made too by.
            let one : Same new i = new_is j i a next in
            let name : Same new f =
            some_is (sym is.made ∙ (ap (λ (y : ℕ). rebuild y t) one ∙ made)) in
            let two : Same new h = is.only h (by ∙ ap (λ (y : ℕ). Some y) (sym name)) in
            let range = is.keys k (too ∙ ap (λ (y : ℕ). Some y) (sym two)) in
            inside k range.0 range.1;
        sized = λ k h a e. subst (λ (y : ℕ). IsSized o y t) (new_is k h a e) sized;
        merged = λ k h p a e at. let range = in_range low high k a in
            subst (λ (y : ℕ). IsMergedInto o y k p t) (new_is k h a e)
            (live k p range.0 range.1 at);
      }
    where
      inside : (k : ℕ) → low ≤ k → k ≤ high → within low k high ≡ true
      inside k above below = range_in low high k above below

      of : (k : ℕ) → within low k high ≡ true → group_of o k t ≡ g
      of k a = let range = in_range low high k a in of_keys k range.0 range.1

      back : (k : ℕ) → group_of o k t ≡ g → within low k high ≡ true
      back k e = let range = keys k e in inside k range.0 range.1

      same : (x y : Bool) → (x ≡ true → y ≡ true) → (y ≡ true → x ≡ true) → x ≡ y
      same true y f h = sym (f refl)
      same false true f h = h refl
      same false false f h = refl
