-- The phases of a chain: a group is opened only at the stage at which new groups are coming.
use Rattle.std.proofs.Common.{◌≡◌, ◌⊎◌, ℕ, ◌-◌, ◌<◌, List, length, replicate, refl, inl, inr, ⊎_elim}
use Rattle.std.proofs.lemmas.List.{get_or-map, length-map}
use Rattle.std.proofs.lemmas.List.Elements.{All-append, All-get_or, All-replicate, All-same}
use Rattle.std.specs.Prelude.{All}
use Rattle.word_layout.specs.Shape.{Shape}
use Rattle.layout_model.specs.Groups.{Group, group_at, no_group}
use Rattle.layout_model.specs.Layout.{Part, behind}
use Rattle.layout_model.specs.Phase.{Phase}
use Rattle.layout_model.specs.Phase as phase
use Rattle.layout_model.specs.Stage.{Stage}
use Rattle.layout_model.specs.Stage as stage
use Rattle.layout_model.specs.WellFormed.{ComingAt, IsWellFormedPart, phases_at, phases_of, span_phase}

-- an open phase, or this one
abbrev pub OpenOr : Phase → Phase → Type 0
OpenOr other is = (is ≡ phase.Open) ⊎ (is ≡ other)

-- each group of the chain is open, or has the phase of the span
pub phase-open_or : (h : Shape) (part : ℕ) (p : Part) (i : ℕ) → IsWellFormedPart h part p → i < length p.chain →
    OpenOr (span_phase p.stage) (group_at p.chain i).phase
phase-open_or h part p i formed within =
    let P : Phase → Type 0 = OpenOr (span_phase p.stage) in
    let rest = length p.chain - behind p.span in
    let all : All P (phases_at p) =
    All-append P _ (replicate rest phase.Open)
    (All-append P (replicate p.span.first phase.Open) (replicate p.span.many (span_phase p.stage))
    (All-replicate P p.span.first phase.Open (inl refl))
    (All-replicate P p.span.many (span_phase p.stage) (inr refl)))
    (All-replicate P rest phase.Open (inl refl)) in
    let here = All-same P (phases_of p.chain) (phases_at p) formed.phases all in
    let long = length-map p.chain (λ (g : Group). g.phase) in
    let at = All-get_or P (phases_of p.chain) i no_group.phase (rw long within) here in
    rw (get_or-map (λ (g : Group). g.phase) p.chain i no_group no_group.phase within) at at

-- the span is opened at one stage alone, and then new groups are coming
coming-at : (at : Stage) (coming : List Group) → ComingAt at coming →
    OpenOr (span_phase at) phase.Opened → 0 < length coming
coming-at stage.Opened coming some is = some
coming-at stage.Look coming none is = ⊎_elim (λ e. cc) (λ e. cc) is
coming-at stage.Frozen coming none is = ⊎_elim (λ e. cc) (λ e. cc) is
coming-at stage.Ready coming none is = ⊎_elim (λ e. cc) (λ e. cc) is
coming-at stage.Installed coming none is = ⊎_elim (λ e. cc) (λ e. cc) is
coming-at stage.Copying coming none is = ⊎_elim (λ e. cc) (λ e. cc) is
coming-at stage.Copied coming none is = ⊎_elim (λ e. cc) (λ e. cc) is
coming-at stage.Reclaiming coming none is = ⊎_elim (λ e. cc) (λ e. cc) is

-- where a group of the chain is opened, new groups are coming
pub coming-some : (h : Shape) (part : ℕ) (p : Part) (i : ℕ) → IsWellFormedPart h part p → i < length p.chain →
    (group_at p.chain i).phase ≡ phase.Opened → 0 < length p.coming
coming-some h part p i formed within opened =
    coming-at p.stage p.coming formed.coming_at (rw opened at (phase-open_or h part p i formed within))
