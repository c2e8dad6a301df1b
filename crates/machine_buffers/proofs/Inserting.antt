-- What a caller did not find stays absent until it links its row.
use Rattle.std.proofs.Common.{◌≡◌, ◌≢◌, ℕ, ◌⊎◌, inl, inr, ⊎_elim, None, Some, Bool, true, false}
use Rattle.std.proofs.Common.{[], ◌∷◌, ◌++◌, refl, sym, ap, ◌∙◌, subst, append_assoc}
use Rattle.index_machine.proofs.Executions.{valid_before}
use Rattle.index_machine.specs.Conditions.{Allowed, Valid}
use Rattle.index_machine.specs.Execution.{Execution, event}
use Rattle.index_machine.specs.Groups.{phase, rebuild}
use Rattle.index_machine.specs.KeyRanges.{group_of}
use Rattle.index_machine.specs.Openings.{within}
use Rattle.index_machine.specs.Reaching.{saw_open, saw_opened, stands_in}
use Rattle.index_machine.specs.Rows.{InArray, InBuffer, role}
use Rattle.index_machine.specs.Sections.{IsCaller, StaysInside}
use Rattle.index_machine.specs.declared.events.Action.{Action}
use Rattle.index_machine.specs.declared.events.Action.TheVariants.{Install, LinkRow}
use Rattle.index_machine.specs.declared.events.Action.TheVariants.{StoreRedirect}
use Rattle.index_machine.specs.declared.opening.Opening.{Opening}
use Rattle.machine_barriers.proofs.OpenedGroups.{open_not, opened_groups_hold}
use Rattle.machine_barriers.proofs.Reaches.{may_as}
use Rattle.machine_buffers.proofs.OutOfUse.{group_out}
use Rattle.machine_buffers.specs.Inserting.{ArraysWithoutValueStay, GapsAreAbsent}
use Rattle.machine_buffers.specs.Inserting.{GapsBehindAreAbsent, HasFinalArray}
use Rattle.machine_buffers.specs.Inserting.{MayLinkBehindOpened, MayLinkWhereSeenOpen}
use Rattle.machine_buffers.specs.Inserting.{IsNewKeyFor, OpenedBuffersWithoutValueStay}
use Rattle.machine_buffers.specs.Phases.{OpenedPhasesStay}
use Rattle.machine_readers.proofs.FromOpening.{buffer_tombstones, gaps, insert_behind, insert_open}
use Rattle.machine_readers.proofs.FromOpening.{not_found, not_found_behind, stay_behind, without_value}
use Rattle.machine_readers.proofs.ReadSections.{opened_step, saw_opened_on, stands_in_on}
use Rattle.machine_readers.proofs.Roles.{IsLinkOf, array_back, row_back}
use Rattle.machine_readers.specs.Readers.{ArrayHasNone, BufferHasNone}
use Rattle.machine_readers.specs.Buffers.{rows}
use Rattle.map_model.specs.Map.{look}
use Rattle.word_layout.specs.declared.phase.Phase.TheVariants.{Opened}

-- ---- groups where a caller stands ----

-- an opened group stays so
pub opened_while : OpenedPhasesStay
opened_while o c g f is [] t valid stay s e = e
opened_while o c g f is (x ∷ n) t valid stay s e =
    opened_step o (n ++ t) x.by x.action c g f valid.0 is (stands_in_on c g n t stay.1 s)
    (opened_while o c g f is n t valid.1 stay.1 s e)

-- a group that answers for a key does so after an action, or was opened
answers_on : (o : Opening) (t : Execution) (b : ℕ) (d : Action) (g k : ℕ) → Allowed o t b d →
    group_of o k t ≡ g → (group_of o k (event b d ∷ t) ≡ g) ⊎ ((f : ℕ) × (phase g t ≡ Opened f))
answers_on o t b (Install spot lead low high) g k may e = go (within low k high) refl
  where
    go : (w : Bool) → within low k high ≡ w →
        (group_of o k (event b (Install spot lead low high) ∷ t) ≡ g)
        ⊎ ((f : ℕ) × (phase g t ≡ Opened f))
    go false out = inl (group_out o t b spot lead low high k out ∙ e)
    go true here = let m = may.opened k here in
        inr (m.0, ap (λ (y : ℕ). phase y t) (sym e) ∙ m.2)
answers_on o t b d g k may e = inl e

-- a final array stays so
final_on : (o : Opening) (t : Execution) (b : ℕ) (d : Action) (c g : ℕ) → Allowed o t b d →
    IsCaller o c → stands_in c g t ≡ true → HasFinalArray o g t →
    HasFinalArray o g (event b d ∷ t)
final_on o t b d c g may is s final = ⊎_elim
    (λ (z : (k : ℕ) × (group_of o k t ≡ g)). ⊎_elim
    (λ (y : group_of o z.0 (event b d ∷ t) ≡ g). inl (z.0, y))
    (λ (y : (f : ℕ) × (phase g t ≡ Opened f)).
    inr (y.0, opened_step o t b d c g y.0 may is s y.1))
    (answers_on o t b d g z.0 may z.1))
    (λ (z : (f : ℕ) × (phase g t ≡ Opened f)).
    inr (z.0, opened_step o t b d c g z.0 may is s z.1)) final

final_while : (o : Opening) (c g : ℕ) → IsCaller o c → (n t : Execution) → Valid o (n ++ t) →
    StaysInside c n → stands_in c g t ≡ true → HasFinalArray o g t → HasFinalArray o g (n ++ t)
final_while o c g is [] t valid stay s final = final
final_while o c g is (x ∷ n) t valid stay s final =
    final_on o (n ++ t) x.by x.action c g valid.0 is (stands_in_on c g n t stay.1 s)
    (final_while o c g is n t valid.1 stay.1 s final)

-- ---- what has no value ----

array_on : (o : Opening) (t : Execution) (b : ℕ) (d : Action) (g k : ℕ) → Valid o t →
    Allowed o t b d → HasFinalArray o g t → ArrayHasNone o t g k →
    ArrayHasNone o (event b d ∷ t) g k
array_on o t b d g k valid may final none a e = ⊎_elim
    (λ (z : role o a t ≡ InArray g k). without_value o t b d a g k valid may z (none a z))
    (λ (z : (to : ℕ) × (d ≡ StoreRedirect g a k to)).
    let m = may_as o t b d (StoreRedirect g a k z.0) z.1 may in
    absurd (⊎_elim (λ (y : (j : ℕ) × (group_of o j t ≡ g)). m.unowned y.0 y.1)
    (λ (y : (f : ℕ) × (phase g t ≡ Opened f)). open_not (sym m.is_open ∙ y.1)) final))
    (array_back o t b d a g k e)

pub array_while : ArraysWithoutValueStay
array_while o c g k is [] t valid stay s final none = none
array_while o c g k is (x ∷ n) t valid stay s final none =
    array_on o (n ++ t) x.by x.action g k valid.1 valid.0
    (final_while o c g is n t valid.1 stay.1 s final)
    (array_while o c g k is n t valid.1 stay.1 s final none)

buffer_on : (o : Opening) (t : Execution) (b : ℕ) (d : Action) (g f k : ℕ) → Valid o t →
    Allowed o t b d → phase g t ≡ Opened f → BufferHasNone o t g k →
    BufferHasNone o (event b d ∷ t) g k
buffer_on o t b d g f k valid may at none p e = ⊎_elim
    (λ (z : role o p t ≡ InBuffer g k). buffer_tombstones o t b d p g k may
    (λ c is leave. (opened_groups_hold o t valid).closed c g is leave f at) z (none p z))
    (λ (z : IsLinkOf g p k d).
    let m = may_as o t b d (LinkRow g z.lane p z.change z.before z.next) z.is may in
    absurd ((opened_groups_hold o t valid).closed b g m.caller m.permission f at))
    (row_back o t b d p g k e)

pub buffer_while : OpenedBuffersWithoutValueStay
buffer_while o c g f k is [] t valid stay s at none = none
buffer_while o c g f k is (x ∷ n) t valid stay s at none =
    buffer_on o (n ++ t) x.by x.action g f k valid.1 valid.0
    (opened_while o c g f is n t valid.1 stay.1 s at)
    (buffer_while o c g f k is n t valid.1 stay.1 s at none)

-- ---- linking ----

stays_append : (c : ℕ) (m n : Execution) → StaysInside c m → StaysInside c n →
    StaysInside c (m ++ n)
stays_append c [] n later stay = stay
stays_append c (x ∷ m) n later stay = (later.0, stays_append c m n later.1 stay)

-- a gap has no row, so none with a value
gap_none : (o : Opening) (t : Execution) → Valid o t → (g k : ℕ) → look (rows g t) k ≡ None →
    BufferHasNone o t g k
gap_none o t valid g k gap p e = absurd (gaps o t valid g k gap p e)

pub link_open : MayLinkWhereSeenOpen
link_open o c g k is l n t valid stay later s own none seen gap =
    let T : Execution = l ++ (n ++ t) in
    let before = valid_before o l (n ++ t) valid in
    let same : (l ++ n) ++ t ≡ T = append_assoc l n t in
    let final : HasFinalArray o g (n ++ t) =
    final_while o c g is n t before stay s (inl (k, own)) in
    let arrays : ArrayHasNone o T g k =
    array_while o c g k is l (n ++ t) valid later (stands_in_on c g n t stay s) final none in
    let back = λ (P : Execution → Type 0) (p : P T). subst P (sym same) p in
    let m = insert_open o c g k is (l ++ n) t (back (Valid o) valid)
    (stays_append c l n later stay) s (back (λ z. saw_open c g z ≡ true) seen) own
    (back (λ z. ArrayHasNone o z g k) arrays)
    (back (λ z. BufferHasNone o z g k) (gap_none o T valid g k gap)) in
    subst (λ (z : Execution). IsNewKeyFor o k g z) same m

-- the new group is not the old one
behind_apart : (o : Opening) (c g f h : ℕ) (t : Execution) → IsCaller o c → Valid o t →
    phase g t ≡ Opened f → saw_opened c f t ≡ true → rebuild h t ≡ Some f → g ≢ h
behind_apart o c g f h t is valid at saw made same =
    (opened_groups_hold o t valid).closed c h is (inr (f, made, saw)) f
    (subst (λ (z : ℕ). phase z t ≡ Opened f) same at)

pub link_behind_opened : MayLinkBehindOpened
link_behind_opened o c g f h k is n t valid stay s at saw made behind arrays buffer gap =
    let apart = behind_apart o c g f h t is (valid_before o n t valid) at saw made in
    let b = stay_behind o c g f h k is apart n t valid stay s saw made behind in
    insert_behind o c g f h k is (n ++ t) valid (saw_opened_on c f n t stay saw) b.1 b.0
    (array_while o c g k is n t valid stay s (inr (f, at)) arrays)
    (buffer_while o c g f k is n t valid stay s at buffer)
    (gap_none o (n ++ t) valid h k gap)

-- ---- absence ----

-- the group of a key answers for it to the end of the read section, or was opened
own_or_opened : (o : Opening) (c g k : ℕ) → IsCaller o c → (n t : Execution) → Valid o (n ++ t) →
    StaysInside c n → stands_in c g t ≡ true → group_of o k t ≡ g →
    (group_of o k (n ++ t) ≡ g) ⊎ ((f : ℕ) × (phase g (n ++ t) ≡ Opened f))
own_or_opened o c g k is [] t valid stay s own = inl own
own_or_opened o c g k is (x ∷ n) t valid stay s own =
    let on = λ (f : ℕ) (e : phase g (n ++ t) ≡ Opened f).
    opened_step o (n ++ t) x.by x.action c g f valid.0 is (stands_in_on c g n t stay.1 s) e in
    ⊎_elim
    (λ (y : group_of o k (n ++ t) ≡ g). ⊎_elim
    (λ (z : group_of o k (event x.by x.action ∷ (n ++ t)) ≡ g). inl z)
    (λ (z : (f : ℕ) × (phase g (n ++ t) ≡ Opened f)). inr (z.0, on z.0 z.1))
    (answers_on o (n ++ t) x.by x.action g k valid.0 y))
    (λ (z : (f : ℕ) × (phase g (n ++ t) ≡ Opened f)). inr (z.0, on z.0 z.1))
    (own_or_opened o c g k is n t valid.1 stay.1 s own)

pub gap_absent : GapsAreAbsent
gap_absent o c g k is n t valid stay s own arrays unopened gap = ⊎_elim
    (λ (y : group_of o k (n ++ t) ≡ g). not_found o (n ++ t) valid k g y unopened
    (array_while o c g k is n t valid stay s (inl (k, own)) arrays)
    (gap_none o (n ++ t) valid g k gap))
    (λ (z : (f : ℕ) × (phase g (n ++ t) ≡ Opened f)). absurd (unopened z.0 z.1))
    (own_or_opened o c g k is n t valid stay s own)

pub gap_behind_absent : GapsBehindAreAbsent
gap_behind_absent o c g f h k is n t valid stay s at saw made behind arrays buffer unopened gap =
    let apart = behind_apart o c g f h t is (valid_before o n t valid) at saw made in
    let b = stay_behind o c g f h k is apart n t valid stay s saw made behind in
    not_found_behind o (n ++ t) valid k g f h b.0 unopened
    (array_while o c g k is n t valid stay s (inr (f, at)) arrays)
    (buffer_while o c g f k is n t valid stay s at buffer)
    (gap_none o (n ++ t) valid h k gap)
