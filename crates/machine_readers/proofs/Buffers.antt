-- The rows of a buffer as a map from keys to places, grown by each link: it has every row that
-- stands in the buffer. So a gap in it says that the key has no row.
use Rattle.std.proofs.Common.{◌≡◌, ◌≢◌, ℕ, ⊎_elim, Some, None, Bool, true, false, [], ◌∷◌}
use Rattle.std.proofs.Common.{cond, refl, sym, ap, ◌∙◌}
use Rattle.std.specs.Prelude.{◌==◌}
use mathlib.Core.Logic.{dite}
use native.Mathlib.Decide.{ℕ_discrete}
use Rattle.index_machine.proofs.Executions.{choice-other, choice-same}
use Rattle.index_machine.specs.Conditions.{Allowed, Valid}
use Rattle.index_machine.specs.Execution.{Execution, event}
use Rattle.index_machine.specs.Rows.{InBuffer, role}
use Rattle.index_machine.specs.declared.events.Action.{Action}
use Rattle.index_machine.specs.declared.events.Action.TheVariants.{LinkRow, NewGroup}
use Rattle.index_machine.specs.declared.opening.Opening.{Opening}
use Rattle.index_machine.proofs.Options.{none_some}
use Rattle.machine_readers.proofs.Roles.{IsLinkOf, row_back}
use Rattle.machine_readers.specs.Buffers.{RowsAreListed, rows}
use Rattle.map_model.proofs.Histories.{look-put-else, look-put-here}
use Rattle.map_model.specs.Map.{Map, key_of, look, put}
use Rattle.map_model.specs.declared.entries.Change.{Change}

look_if : (b : Bool) (m n : Map) (k q : ℕ) → look m k ≡ Some q → look n k ≡ Some q →
    look (cond b m n) k ≡ Some q
look_if true m n k q e f = e
look_if false m n k q e f = f

link_is : {g h l m q p u v x y : ℕ} {c d : Change} → LinkRow h l q c u v ≡ LinkRow g m p d x y →
    (h ≡ g) × (q ≡ p) × (c ≡ d)
link_is e = (cc, cc, cc)

listed_link : (o : Opening) (t : Execution) (b h lane q : ℕ) (d : Change) (prior next : ℕ) →
    Allowed o t b (LinkRow h lane q d prior next) → RowsAreListed o t →
    RowsAreListed o (event b (LinkRow h lane q d prior next) ∷ t)
listed_link o t b h lane q d prior next may old g k p e =
    ⊎_elim (λ (z : role o p t ≡ InBuffer g k). before z)
    (λ (z : IsLinkOf g p k (LinkRow h lane q d prior next)). here z.lane z.change z.before z.next z.is z.key)
    (row_back o t b (LinkRow h lane q d prior next) p g k e)
  where
    before : role o p t ≡ InBuffer g k → look
        (cond (h == g) (put (rows g t) (key_of d) q) (rows g t)) k ≡ Some p
    before z = dite (ℕ_discrete h g)
        (λ (w : h ≡ g). look_if (h == g) (put (rows g t) (key_of d) q) (rows g t) k p
        (look-put-else (rows g t) (key_of d) q k
        (λ i. may.alone p (z ∙ (ap (λ (y : ℕ). InBuffer y k) (sym w)
        ∙ ap (λ (y : ℕ). InBuffer h y) i))) ∙ old g k p z) (old g k p z))
        (λ (n : h ≢ g). ap (λ (y : Map). look y k)
        (choice-other h g (put (rows g t) (key_of d) q) (rows g t) n) ∙ old g k p z)

    here : (l : ℕ) (c : Change) (u v : ℕ) → LinkRow h lane q d prior next ≡ LinkRow g l p c u v →
        key_of c ≡ k →
        look (cond (h == g) (put (rows g t) (key_of d) q) (rows g t)) k ≡ Some p
    here l c u v same key = let s = link_is same in
        ap (λ (y : Map). look y k) (choice-same h g (put (rows g t) (key_of d) q) (rows g t) s.0)
        ∙ (ap (look (put (rows g t) (key_of d) q)) (sym key ∙ ap key_of (sym s.2))
        ∙ (look-put-here (rows g t) (key_of d) q ∙ ap Some s.1))

listed_new : (o : Opening) (t : Execution) (b h low high f : ℕ) →
    Allowed o t b (NewGroup h low high f) → RowsAreListed o t →
    RowsAreListed o (event b (NewGroup h low high f) ∷ t)
listed_new o t b h low high f may old g k p e = ⊎_elim
    (λ (z : role o p t ≡ InBuffer g k). ap (λ (y : Map). look y k)
    (choice-other h g [] (rows g t) (λ w. may.no_row p k
    (z ∙ ap (λ (y : ℕ). InBuffer y k) (sym w)))) ∙ old g k p z)
    (λ (z : IsLinkOf g p k (NewGroup h low high f)). let bad = z.is in cc)
    (row_back o t b (NewGroup h low high f) p g k e)

listed_else : (o : Opening) (t : Execution) (b : ℕ) (d : Action) →
    ((g : ℕ) → rows g (event b d ∷ t) ≡ rows g t) →
    ((g l p u v : ℕ) (c : Change) → d ≡ LinkRow g l p c u v → ⊥) → RowsAreListed o t →
    RowsAreListed o (event b d ∷ t)
listed_else o t b d same never old g k p e = ⊎_elim
    (λ (z : role o p t ≡ InBuffer g k). ap (λ (y : Map). look y k) (same g) ∙ old g k p z)
    (λ (z : IsLinkOf g p k d). absurd (never g z.lane p z.before z.next z.change z.is)) (row_back o t b d p g k e)

listed_step : (o : Opening) (t : Execution) (b : ℕ) (d : Action) → Allowed o t b d →
    RowsAreListed o t → RowsAreListed o (event b d ∷ t)
listed_step o t b (LinkRow h lane q d prior next) may old = listed_link o t b h lane q d prior next may old
listed_step o t b (NewGroup h low high f) may old = listed_new o t b h low high f may old
listed_step o t b d may old = listed_else o t b d (λ g. refl) (λ g l p u v c e. let bad = e in cc) old

pub listed : (o : Opening) → ((g k q : ℕ) → role o q [] ≢ InBuffer g k) → (t : Execution) →
    Valid o t → RowsAreListed o t
listed o start [] valid = λ g k q e. absurd (start g k q e)
listed o start (e ∷ t) valid = listed_step o t e.by e.action valid.0 (listed o start t valid.1)

-- a gap
pub alone : (o : Opening) → ((g k q : ℕ) → role o q [] ≢ InBuffer g k) → (t : Execution) →
    Valid o t → (g k : ℕ) → look (rows g t) k ≡ None → (q : ℕ) → role o q t ≢ InBuffer g k
alone o start t valid g k gap q e = none_some (sym gap ∙ listed o start t valid g k q e)
