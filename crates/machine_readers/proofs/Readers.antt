-- What a caller may conclude at its deciding load, and how it meets the conditions of linking and
-- reviving.
use Rattle.std.proofs.Common.{◌≡◌, ◌≢◌, ℕ, ◌⊎◌, inl, inr, ⊎_elim, Option, Some, None, Bool, true}
use Rattle.std.proofs.Common.{false, [], ◌∷◌, ◌++◌, cond, refl, sym, ap, ◌∙◌, subst}
use Rattle.index_machine.specs.Keepers.{part_of}
use Rattle.index_machine.proofs.OfParts.{opened_elsewhere, successor_of_part, stays_opened, stays_successor}
use Rattle.index_machine.specs.Conditions.{Allowed, Valid}
use Rattle.index_machine.specs.Execution.{Execution, event, own}
use Rattle.index_machine.specs.Forms.{Redirect, is_removed, live_value}
use Rattle.index_machine.specs.Groups.{phase, rebuild}
use Rattle.index_machine.specs.KeyRanges.{group_of, or_else, successor}
use Rattle.index_machine.specs.LivePlaces.{IsPlaceOf, live_place, value_in_map}
use Rattle.index_machine.specs.Openings.{within}
use Rattle.index_machine.specs.Permissions.{IsBufferFor, IsUnopened}
use Rattle.index_machine.specs.Places.{IsInGroup, form}
use Rattle.index_machine.specs.Reaching.{saw_open, saw_opened, stands_in}
use Rattle.index_machine.specs.Rows.{InArray, InBuffer, role, role_key}
use Rattle.index_machine.specs.Sections.{IsCaller, StaysInside}
use Rattle.index_machine.specs.declared.events.Action.{Action}
use Rattle.index_machine.specs.declared.events.Action.TheVariants.{Install, NewGroup, StoreDirect}
use Rattle.index_machine.specs.declared.events.Action.TheVariants.{StoreRedirect}
use Rattle.index_machine.specs.declared.events.InstallWord.{InstallWord}
use Rattle.index_machine.specs.declared.opening.Opening.{Opening}
use Rattle.machine_barriers.proofs.OpenedGroups.{made_still, opened_groups_hold, seen_named}
use Rattle.machine_barriers.proofs.Reaches.{may_as}
use Rattle.machine_places.proofs.Agreement.{map_agrees}
use Rattle.index_machine.proofs.Options.{none_some, not_so, some_is}
use Rattle.machine_places.proofs.LivePlaces.{live_place-lives, live_places_stand}
use Rattle.machine_places.proofs.LiveValues.{only_live}
use Rattle.machine_places.specs.Agreement.{HasLiveValue, LivePlacesStand, MapAgrees, OnlyLive}
use Rattle.machine_readers.proofs.NewRedirects.{new_redirects, redirect_stays}
use Rattle.machine_readers.proofs.ReadSections.{opened_step, group_on, group_step, saw_opened_on}
use Rattle.machine_readers.proofs.ReadSections.{stands_in_on}
use Rattle.machine_readers.proofs.Roles.{array_back}
use Rattle.machine_readers.proofs.Tombstones.{removed-has_no_value}
use Rattle.machine_readers.specs.Redirects.{HasNoValue, IsBehind, RedirectsInto, RedirectsLeadToOld}
use Rattle.word_layout.specs.declared.phase.Phase.TheVariants.{Opened}

-- all that stands at the opening
pub record Starts (o : Opening) : Type 0 where
  pub opening_live : OnlyLive o []
  pub opening_map_agrees : MapAgrees o []
  pub opening_places : LivePlacesStand o []
  pub opening_redirects : RedirectsLeadToOld o []

module _ (o : Opening) (starts : Starts o) where
  -- the map agrees with the live places, after every valid execution
  pub agreement : (t : Execution) → Valid o t → MapAgrees o t
  agreement t valid = map_agrees o starts.opening_live starts.opening_map_agrees t valid

  -- the live place is one of the key's places, and a place with a value is the live place
  pub live_places_placed : (t : Execution) → Valid o t → LivePlacesStand o t
  live_places_placed t valid =
      live_places_stand o starts.opening_live starts.opening_map_agrees starts.opening_places t valid

  pub only_live_place : (t : Execution) → Valid o t → OnlyLive o t
  only_live_place t valid = only_live o starts.opening_live t valid

  -- a value read at a place of the key is the key's value at that moment
  pub value_at : (t : Execution) → Valid o t → (p k x : ℕ) → role_key (role o p t) ≡ Some k →
      live_value (form o p t) ≡ Some x → value_in_map o k t ≡ Some x
  value_at t valid p k x keyed alive = go (live_place o k t)
      (only_live_place t valid p k x keyed alive) (agreement t valid k)
    where
      go : (h : Option ℕ) → h ≡ Some p → HasLiveValue o t k h → value_in_map o k t ≡ Some x
      go None e h = none_some e
      go (Some q) e h = h.2 ∙ (sym h.1 ∙ (ap (λ (y : ℕ). live_value (form o y t)) (some_is e)
          ∙ alive))

  pub none_found : (t : Execution) → Valid o t → (k : ℕ) → live_place o k t ≡ None →
      value_in_map o k t ≡ None
  none_found t valid k none = go (live_place o k t) none (agreement t valid k)
    where
      go : (h : Option ℕ) → h ≡ None → HasLiveValue o t k h → value_in_map o k t ≡ None
      go None e h = h
      go (Some q) e h = none_some (sym e)

  -- where no place of the key has a value it has no live place
  pub has_no_live_place : (t : Execution) → Valid o t → (k : ℕ) →
      ((p : ℕ) → IsPlaceOf o t k p → live_value (form o p t) ≡ None) → live_place o k t ≡ None
  has_no_live_place t valid k no_place = go (live_place o k t) refl
    where
      go : (h : Option ℕ) → live_place o k t ≡ h → h ≡ None
      go None e = refl
      go (Some p) e = let l = live_place-lives o t (agreement t valid) k p e in
          none_some (sym (no_place p (live_places_placed t valid k p e)) ∙ l.1)

  no_value-lives : (t : Execution) (a : ℕ) → HasNoValue o t a → live_value (form o a t) ≡ None
  no_value-lives t a c = ⊎_elim (λ (z : is_removed (form o a t) ≡ true).
      removed-has_no_value (form o a t) z) (λ
      (z : (q : ℕ) × (y : ℕ) × (form o a t ≡ Redirect q y) × (is_removed (form o q t) ≡ true)).
      ap live_value z.2) c

  no_value-target : (t : Execution) (a p y : ℕ) → HasNoValue o t a → form o a t ≡ Redirect p y →
      live_value (form o p t) ≡ None
  no_value-target t a p y c e = ⊎_elim (λ (z : is_removed (form o a t) ≡ true).
      not_so (sym (ap is_removed e) ∙ z))
      (λ (z : (q : ℕ) × (y : ℕ) × (form o a t ≡ Redirect q y) × (is_removed (form o q t) ≡ true)).
      let two : Redirect z.0 z.1 ≡ Redirect p y = sym z.2 ∙ e in let same : z.0 ≡ p = cc in
      removed-has_no_value (form o p t) (subst
      (λ (i : ℕ). is_removed (form o i t) ≡ true) same z.3)) c

  -- the deciding load of a group that isn't opened
  pub absent : (t : Execution) → Valid o t → (k g : ℕ) → group_of o k t ≡ g → IsUnopened g t →
      ((a : ℕ) → role o a t ≡ InArray g k → HasNoValue o t a) →
      ((p : ℕ) → role o p t ≡ InBuffer g k → is_removed (form o p t) ≡ true) →
      live_place o k t ≡ None
  absent t valid k g own un arrays rows = has_no_live_place t valid k (λ p place. ⊎_elim
      (λ (z : role o p t ≡ InArray (group_of o k t) k).
      no_value-lives t p (arrays p (z ∙ ap (λ (i : ℕ). InArray i k) own)))
      (λ (z : ((a : ℕ) × (y : ℕ) × (role o a t ≡ InArray (group_of o k t) k) ×
      (form o a t ≡ Redirect p y)) ⊎ ((h : ℕ) × (role o p t ≡ InBuffer h k) × IsBufferFor o k h t)).
      ⊎_elim
      (λ (w : (a : ℕ) × (y : ℕ) × (role o a t ≡ InArray (group_of o k t) k) ×
      (form o a t ≡ Redirect p y)). no_value-target t w.0 p w.1
      (arrays w.0 (w.2 ∙ ap (λ (i : ℕ). InArray i k) own)) w.3)
      (λ (w : (h : ℕ) × (role o p t ≡ InBuffer h k) × IsBufferFor o k h t).
      ⊎_elim (λ (v : group_of o k t ≡ w.0). removed-has_no_value (form o p t)
      (rows p (w.1 ∙ ap (λ (i : ℕ). InBuffer i k) (sym v ∙ own))))
      (λ (v : (f : ℕ) × (phase (group_of o k t) t ≡ Opened f) × (successor k t ≡ Some w.0)).
      absurd (un v.0 (ap (λ (i : ℕ). phase i t) (sym own) ∙ v.1))) w.2) z) place)

  -- the deciding load of the new group's buffer
  pub absent_behind : (t : Execution) → Valid o t → (k g f h : ℕ) → IsBehind o t g f h k →
      IsUnopened h t → ((a : ℕ) → role o a t ≡ InArray g k →
      (is_removed (form o a t) ≡ true) ⊎ HasNoValue o t a) →
      ((p : ℕ) → role o p t ≡ InBuffer g k → is_removed (form o p t) ≡ true)
      → ((p : ℕ) → role o p t ≡ InBuffer h k → is_removed (form o p t) ≡ true) →
      live_place o k t ≡ None
  absent_behind t valid k g f h behind un arrays rows temps =
      has_no_live_place t valid k (λ p place. ⊎_elim (before p place) (behind_it p place) behind)
    where
      array : (p : ℕ) → (is_removed (form o p t) ≡ true) ⊎ HasNoValue o t p → HasNoValue o t p
      array p c = ⊎_elim (λ (z : is_removed (form o p t) ≡ true). inl z)
          (λ (z : HasNoValue o t p). z) c

      before : (p : ℕ) → IsPlaceOf o t k p → (group_of o k t ≡ g) × (phase g t ≡ Opened f) ×
          (successor k t ≡ Some h) → live_value (form o p t) ≡ None
      before p place b = ⊎_elim
          (λ (z : role o p t ≡ InArray (group_of o k t) k).
          no_value-lives t p (array p (arrays p (z ∙ ap (λ (i : ℕ). InArray i k) b.0))))
          (λ (z : ((a : ℕ) × (y : ℕ) × (role o a t ≡ InArray (group_of o k t) k) ×
          (form o a t ≡ Redirect p y)) ⊎ ((h : ℕ) × (role o p t ≡ InBuffer h k) ×
          IsBufferFor o k h t)). ⊎_elim
          (λ (w : (a : ℕ) × (y : ℕ) × (role o a t ≡ InArray (group_of o k t) k) ×
          (form o a t ≡ Redirect p y)). no_value-target t w.0 p w.1
          (array w.0 (arrays w.0 (w.2 ∙ ap (λ (i : ℕ). InArray i k) b.0))) w.3)
          (λ (w : (h : ℕ) × (role o p t ≡ InBuffer h k) × IsBufferFor o k h t).
          ⊎_elim (λ (v : group_of o k t ≡ w.0).
          removed-has_no_value (form o p t) (rows p
          (w.1 ∙ ap (λ (i : ℕ). InBuffer i k) (sym v ∙ b.0))))
          (λ (v : (f : ℕ) × (phase (group_of o k t) t ≡ Opened f) × (successor k t ≡ Some w.0)).
          removed-has_no_value (form o p t) (temps p
          (w.1 ∙ ap (λ (i : ℕ). InBuffer i k) (some_is (sym v.2 ∙ b.2))))) w.2) z) place

      behind_it : (p : ℕ) → IsPlaceOf o t k p →
          (group_of o k t ≡ h) × ((a : ℕ) → role o a t ≡ InArray h k → RedirectsInto o t g k a) →
          live_value (form o p t) ≡ None
      behind_it p place b = ⊎_elim
          (λ (z : role o p t ≡ InArray (group_of o k t) k).
          ap live_value (b.1 p (z ∙ ap (λ (i : ℕ). InArray i k) b.0)).2)
          (λ (z : ((a : ℕ) × (y : ℕ) × (role o a t ≡ InArray (group_of o k t) k) ×
          (form o a t ≡ Redirect p y)) ⊎ ((h : ℕ) × (role o p t ≡ InBuffer h k) ×
          IsBufferFor o k h t)). ⊎_elim
          (λ (w : (a : ℕ) × (y : ℕ) × (role o a t ≡ InArray (group_of o k t) k) ×
          (form o a t ≡ Redirect p y)). let s = b.1 w.0 (w.2 ∙ ap (λ (i : ℕ). InArray i k) b.0) in
          let two : Redirect s.0 s.1 ≡ Redirect p w.1 = sym s.2 ∙ w.3 in let same : s.0 ≡ p = cc in
          let here : IsInGroup o t g k p = subst (λ (i : ℕ). IsInGroup o t g k i) same s.3 in
          ⊎_elim (λ (v : role o p t ≡ InArray g k). no_value-lives t p (array p (arrays p v)))
          (λ (v : role o p t ≡ InBuffer g k). removed-has_no_value (form o p t) (rows p v)) here)
          (λ (w : (h : ℕ) × (role o p t ≡ InBuffer h k) × IsBufferFor o k h t).
          ⊎_elim (λ (v : group_of o k t ≡ w.0).
          removed-has_no_value (form o p t) (temps p
          (w.1 ∙ ap (λ (i : ℕ). InBuffer i k) (sym v ∙ b.0))))
          (λ (v : (f : ℕ) × (phase (group_of o k t) t ≡ Opened f) × (successor k t ≡ Some w.0)).
          absurd (un v.0 (ap (λ (i : ℕ). phase i t) (sym b.0) ∙ v.1))) w.2) z) place

  -- while the caller stands in the old group and nobody may freeze the new one under it, this
  -- lasts
  behind_step : (t : Execution) (b : ℕ) (d : Action) (c g f h k : ℕ) → Valid o t → Allowed o t b d →
      IsCaller o c → stands_in c g t ≡ true → IsUnopened h t → g ≢ h → IsBehind o t g f h k →
      IsBehind o (event b d ∷ t) g f h k
  behind_step t b d c g f h k valid may is s un apart behind =
      ⊎_elim (first d may) (second d may) behind
    where
      installed : (spot : InstallWord) (lead low high : ℕ) →
          Allowed o t b (Install spot lead low high) →
          (group_of o k t ≡ g) × (phase g t ≡ Opened f) × (successor k t ≡ Some h) → (w : Bool) →
          within low k high ≡ w → IsBehind o (event b (Install spot lead low high) ∷ t) g f h k
      installed spot lead low high may z false e =
          inl (
            ap (λ (i : Bool). cond i (or_else (successor k t) (group_of o k t))
                (group_of o k t)) e ∙ z.0,
            z.1,
            z.2,
          )
      installed spot lead low high may z true e = inr (
        ap (λ (i : Bool). cond i (or_else (successor k t) (group_of o k t)) (group_of o k t)) e
            ∙ ap (λ (i : Option ℕ). or_else i (group_of o k t)) z.2,
        λ a array. subst (λ (i : ℕ). RedirectsInto o t i k a) z.0
            (new_redirects o t valid a k h array z.2 (λ i. apart (sym z.0 ∙ i))),
      )

      begun : (j low high i : ℕ) → Allowed o t b (NewGroup j low high i) →
          (group_of o k t ≡ g) × (phase g t ≡ Opened f) × (successor k t ≡ Some h) →
          IsBehind o (event b (NewGroup j low high i) ∷ t) g f h k
      begun j low high i may z =
          let at : phase (group_of o k t) t ≡ Opened f = ap (λ (y : ℕ). phase y t) z.0 ∙ z.1 in
          let elsewhere = opened_elsewhere o t b j low high i valid may k f at in
          let same = successor_of_part o t k h valid z.2 in
          inl (
            z.0,
            stays_opened o t b j low high i g f valid
                (λ w. elsewhere (ap (part_of o) z.0 ∙ w)) z.1,
            stays_successor o t b j low high i k h valid may (λ w. elsewhere (sym same ∙ w)) z.2,
          )

      first : (d : Action) → Allowed o t b d →
          (group_of o k t ≡ g) × (phase g t ≡ Opened f) × (successor k t ≡ Some h) →
          IsBehind o (event b d ∷ t) g f h k
      first (Install spot lead low high) may z =
          installed spot lead low high may z (within low k high) refl
      first (NewGroup j low high i) may z = begun j low high i may z
      first d may z = inl (z.0, opened_step o t b d c g f may is s z.1, z.2)

      second : (d : Action) → Allowed o t b d →
          (group_of o k t ≡ h) × ((a : ℕ) → role o a t ≡ InArray h k → RedirectsInto o t g k a) →
          IsBehind o (event b d ∷ t) g f h k
      second d may z = inr (
        group_step o t b d k h may un z.0,
        λ a array. ⊎_elim
            (λ (e : role o a t ≡ InArray h k).
            redirect_stays o t b d a g h k may e
            (λ p j r u same. not_copied a p j r u (may_as o t b d (StoreDirect a p j r u) same may)
            (z.1 a e)) (z.1 a e))
            (λ (e : (to : ℕ) × (d ≡ StoreRedirect h a k to)).
            absurd ((may_as o t b d (StoreRedirect h a k e.0) e.1 may).unowned k z.0))
            (array_back o t b d a h k array),
      )
        where
          not_copied : (a p j : ℕ) (r : Bool) (raised : ℕ) →
              Allowed o t b (StoreDirect a p j r raised) → RedirectsInto o t g k a → ⊥
          not_copied a p j r raised m z = let two : Redirect z.0 z.1 ≡ Redirect p m.value = sym z.2
              ∙ m.forwards in let same : z.0 ≡ p = cc in let here : IsInGroup o t g k p =
              subst (λ (i : ℕ). IsInGroup o t g k i) same z.3 in let old = m.old in
              let group : g ≡ old.0 = ⊎_elim
              (λ (u : role o p t ≡ InArray g k).
              ⊎_elim (λ (v : role o p t ≡ InArray old.0 j). array (sym u ∙ v))
              (λ (v : role o p t ≡ InBuffer old.0 j). mixed (sym u ∙ v)) old.1)
              (λ (u : role o p t ≡ InBuffer g k).
              ⊎_elim (λ (v : role o p t ≡ InArray old.0 j). mixed2 (sym u ∙ v))
              (λ (v : role o p t ≡ InBuffer old.0 j). buffer (sym u ∙ v)) old.1) here in
              old.2.empty c is (subst (λ (i : ℕ). stands_in c i t ≡ true) group s)
            where
              array : {g h j k : ℕ} → InArray g k ≡ InArray h j → g ≡ h
              array e = cc

              buffer : {g h j k : ℕ} → InBuffer g k ≡ InBuffer h j → g ≡ h
              buffer e = cc

              mixed : {X : Type 0} {g h j k : ℕ} → InArray g k ≡ InBuffer h j → X
              mixed e = cc

              mixed2 : {X : Type 0} {g h j k : ℕ} → InBuffer g k ≡ InArray h j → X
              mixed2 e = cc

  -- the new group is begun anew as little as the one by which its rebuild is named
  born_step : (t : Execution) (b : ℕ) (d : Action) (c f h : ℕ) → Valid o t → Allowed o t b d →
      IsCaller o c → saw_opened c f t ≡ true → rebuild h t ≡ Some f →
      rebuild h (event b d ∷ t) ≡ Some f
  born_step t b (NewGroup i low high j) c f h valid may is s e =
      made_still i h (Some j) (rebuild h t) f (not_begun h e)
      (λ z. not_begun f (seen_named o t valid c f is s) (sym z)) e
    where
      not_begun : (g : ℕ) → rebuild g t ≡ Some f → i ≢ g
      not_begun g from z = may.closed c is (inr (f, ap (λ (y : ℕ). rebuild y t) z ∙ from, s))
  born_step t b d c f h valid may is s e = e

  -- and over all the steps of a read section in which it saw the group opened
  pub behind_on : (c g f h k : ℕ) → IsCaller o c → g ≢ h → (n t : Execution) → Valid o (n ++ t) →
      StaysInside c n → stands_in c g t ≡ true → saw_opened c f t ≡ true → rebuild h t ≡ Some f →
      IsBehind o t g f h k → IsBehind o (n ++ t) g f h k × (rebuild h (n ++ t) ≡ Some f)
  behind_on c g f h k is apart [] t valid stay s j from behind = (behind, from)
  behind_on c g f h k is apart (e ∷ n) t valid stay s j from behind = let old =
      behind_on c g f h k is apart n t valid.1 stay.1 s j from behind in let j' =
      saw_opened_on c f n t stay.1 j in
      let un : IsUnopened h (n ++ t) = λ i. (opened_groups_hold o (n ++ t) valid.1).closed c h is
      (inr (f, old.1, j')) i in (
        behind_step (n ++ t) e.by e.action c g f h k valid.1 valid.0 is
            (stands_in_on c g n t stay.1 s) un apart old.0,
        born_step
            (n ++ t) e.by e.action c f h valid.1 valid.0 is j' old.1,
      )

  -- LinkRow's and a revival's conditions, with a licence from StoreOpened: at any moment of the
  -- stay
  pub may_link_open : (c g k : ℕ) → IsCaller o c → (n t : Execution) → Valid o (n ++ t) →
      StaysInside c n → stands_in c g t ≡ true → saw_open c g (n ++ t) ≡ true → group_of o k t ≡ g
      → ((a : ℕ) → role o a (n ++ t) ≡ InArray g k → HasNoValue o (n ++ t) a) →
      ((p : ℕ) → role o p (n ++ t) ≡ InBuffer g k → is_removed (form o p (n ++ t)) ≡ true) →
      IsBufferFor o k g (n ++ t) × (live_place o k (n ++ t) ≡ None)
  may_link_open c g k is n t valid stay s wide own arrays rows = let un : IsUnopened g (n ++ t) =
      λ f. (opened_groups_hold o (n ++ t) valid).closed c g is (inl wide) f in
      let own' = group_on o c g is k n t valid stay s un own in
      (inl own', absent (n ++ t) valid k g own' un arrays rows)

  -- and with a licence from Opened
  pub may_link_opened : (c g f h k : ℕ) → IsCaller o c → (t : Execution) → Valid o t →
      saw_opened c f t ≡ true → rebuild h t ≡ Some f → IsBehind o t g f h k
      → ((a : ℕ) → role o a t ≡ InArray g k → HasNoValue o t a) →
      ((p : ℕ) → role o p t ≡ InBuffer g k → is_removed (form o p t) ≡ true) →
      ((p : ℕ) → role o p t ≡ InBuffer h k → is_removed (form o p t) ≡ true) →
      IsBufferFor o k h t × (live_place o k t ≡ None)
  may_link_opened c g f h k is t valid j from behind arrays rows temps = let un : IsUnopened h t =
      λ i. (opened_groups_hold o t valid).closed c h is (inr (f, from, j)) i in
      (serves behind, absent_behind t valid k g f h behind un (λ a z. inr (arrays a z)) rows temps)
    where
      serves : IsBehind o t g f h k → IsBufferFor o k h t
      serves b = ⊎_elim (λ (z : (group_of o k t ≡ g) × (phase g t ≡ Opened f) ×
          (successor k t ≡ Some h)). inr (f, ap (λ (i : ℕ). phase i t) z.0 ∙ z.1, z.2))
          (λ (z : (group_of o k t ≡ h) × ((a : ℕ) → role o a t ≡ InArray h k →
          RedirectsInto o t g k a)). inl z.0) b
