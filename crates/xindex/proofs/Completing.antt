-- Where the input is whole, no mode ends by finding fault with it.
use Rattle.std.proofs.Common.{◌≡◌, ℕ, ◌<◌, ◌++◌, List, length, Some, None, Option, sym, subst, ap, ◌∙◌, arith, append-nil, length-append}
use Rattle.std.specs.Prelude.{MatchOption}
use Rattle.std.specs.Io.KnownBytes.{prepend_known, IsAtEnd}
use Rattle.word_layout.specs.declared.limits.Limits.{Limits}
use Rattle.command_line.specs.declared.answers.Command.{Command}
use Rattle.command_line.specs.declared.answers.Mode.{Mode}
use Rattle.command_line.specs.declared.answers.Mode.TheVariants.{Pipe, Run, Gen}
use Rattle.command_line.specs.declared.answers.Recipe.{Recipe}
use Rattle.line_session.specs.declared.ends.Ended.{Ended}
use Rattle.line_session.specs.declared.ends.Ended.TheVariants as ended
use Rattle.line_session.specs.Asked.{KeepsLimit}
use Rattle.line_session.specs.Ends.{EndsState}
use Rattle.trace_text.specs.declared.lines.Line.{Line}
use Rattle.trace_text.specs.Traces.{IsTrace}
use Rattle.trace_text.proofs.OnceLaws.{read_once}
use Rattle.xindex_core.specs.declared.index.Opened.{Opened}
use Rattle.xindex.specs.declared.outcome.Outcome.{Outcome}
use Rattle.xindex.specs.declared.status.Status.{Status}
use Rattle.xindex.specs.declared.status.Status.TheVariants.{Done, Usage, ReadFault, WriteFault, BadTrace, Memory, BadLimits, Limit}
use Rattle.xindex.specs.Completing.{BlamesNoInput, HasItsInput, IsInput}
use Rattle.xindex.specs.Generated.{Generates}
use Rattle.xindex.specs.Outcome.{Does, Pipes, status_of}
use Rattle.xindex.specs.Ran.{IsOutput, Runs}
use Rattle.xindex.proofs.Endings.{own_told, told_own}

-- ---- the input ----

-- no input that ends before the limit has as many bytes as that
below_limit : (bytes taken : List ℕ) (left : Option (List ℕ)) (most : ℕ) →
    Some bytes ≡ prepend_known taken left → length bytes < most → length taken ≡ most → ⊥
below_limit bytes taken None most took below all = absurd (cc took)
below_limit bytes taken (Some rest) most took below all =
    let is : bytes ≡ taken ++ rest = cc took in
    let long = ap (λ (z : List ℕ). length z) is in
    let parts = length-append taken rest in
    absurd (omega arith)

-- a text behind which the input ended is the whole input
is_whole : (bytes text : List ℕ) (left : Option (List ℕ)) → Some bytes ≡ prepend_known text left →
    IsAtEnd left → text ≡ bytes
is_whole bytes text None took at_end = absurd (cc took)
is_whole bytes text (Some rest) took at_end =
    let is : bytes ≡ text ++ rest = cc took in
    sym (is ∙ (ap (λ (z : List ℕ). text ++ z) at_end ∙ append-nil text))

-- ---- mode by mode ----

ended_so : (how : Ended) (most : ℕ) (bytes taken : List ℕ) (left : Option (List ℕ)) →
    Some bytes ≡ prepend_known taken left → length bytes < most → KeepsLimit how most (length taken) →
    BlamesNoInput (status_of how)
ended_so ended.End most bytes taken left took below keeps = tt
ended_so ended.Quit most bytes taken left took below keeps = tt
ended_so ended.ReadFault most bytes taken left took below keeps = tt
ended_so ended.WriteFault most bytes taken left took below keeps = tt
ended_so ended.Limit most bytes taken left took below keeps =
    absurd (below_limit bytes taken left most took below keeps)

piped : (l : Limits) (most : ℕ) (old new : EndsState) (status : Status) (opened : Option Opened) →
    MatchOption opened (status ≡ Memory) (Pipes l most old new status) → (bytes : List ℕ) →
    IsInput most old bytes → BlamesNoInput status
piped l most old new status None lacks bytes input = subst BlamesNoInput (sym lacks) tt
piped l most old new status (Some opened) pipes bytes input =
    subst BlamesNoInput (sym pipes.status_is)
    (ended_so pipes.ended most bytes pipes.served.taken new.left (sym input.0 ∙ pipes.served.took) input.1
    pipes.served.limit)

-- a trace is told by no bad line
no_bad_line : (l : Limits) (text : List ℕ) (told : List Line) (own : Status) (output : List ℕ) →
    IsTrace l.callers text told → own ≡ BadTrace → IsOutput l text own output → ⊥
no_bad_line l text told own output trace bad is =
    let first = subst (λ (z : Status). IsOutput l text z output) bad is in
    (read_once l.callers text).not_both told first.0 trace first.1

ran : (l : Limits) (most : ℕ) (old new : EndsState) (status : Status) → Runs l most old new status →
    (bytes : List ℕ) (told : List Line) → IsInput most old bytes → IsTrace l.callers bytes told →
    BlamesNoInput status
ran l most old new Done runs bytes told input trace = tt
ran l most old new ReadFault runs bytes told input trace = tt
ran l most old new WriteFault runs bytes told input trace = tt
ran l most old new Memory runs bytes told input trace = tt
ran l most old new Limit runs bytes told input trace =
    absurd (below_limit bytes runs.0.taken new.left most (sym input.0 ∙ runs.0.took) input.1 runs.0.stops)
ran l most old new BadTrace runs bytes told input trace =
    let whole = is_whole bytes runs.text new.left (sym input.0 ∙ runs.takes.took) runs.takes.at_end in
    let tells = runs.tells in
    let own = own_told tells.1 tells.0 BadTrace old new (λ e. cc e) (λ e. cc e) tells.3 in
    absurd (no_bad_line l runs.text told tells.0 tells.1
    (subst (λ (z : List ℕ). IsTrace l.callers z told) (sym whole) trace) (sym own) tells.2)
ran l most old new Usage runs bytes told input trace =
    absurd (told_own l runs.text Usage old new (λ e. cc e) (λ e. cc e) runs.tells)
ran l most old new BadLimits runs bytes told input trace =
    absurd (told_own l runs.text BadLimits old new (λ e. cc e) (λ e. cc e) runs.tells)

made : (l : Limits) (recipe : Recipe) (old new : EndsState) (status : Status) →
    Generates l recipe old new status → BlamesNoInput status
made l recipe old new Done gen = tt
made l recipe old new ReadFault gen = tt
made l recipe old new WriteFault gen = tt
made l recipe old new Memory gen = tt
made l recipe old new Usage gen =
    absurd (cc (own_told gen.0 Done Usage old new (λ e. cc e) (λ e. cc e) gen.2))
made l recipe old new BadTrace gen =
    absurd (cc (own_told gen.0 Done BadTrace old new (λ e. cc e) (λ e. cc e) gen.2))
made l recipe old new BadLimits gen =
    absurd (cc (own_told gen.0 Done BadLimits old new (λ e. cc e) (λ e. cc e) gen.2))
made l recipe old new Limit gen =
    absurd (cc (own_told gen.0 Done Limit old new (λ e. cc e) (λ e. cc e) gen.2))

-- a mode that has its input finds no fault with it
pub completes : (mode : Mode) (command : Command) (old new : EndsState) (outcome : Outcome) →
    Does mode command old new outcome → HasItsInput mode command old → BlamesNoInput outcome.status
completes Pipe command old new outcome does input =
    piped command.limits command.bytes old new outcome.status outcome.opened does input.0 input.1
completes Run command old new outcome does input =
    ran command.limits command.bytes old new outcome.status does.0 input.0 input.1 input.2 input.3
completes Gen command old new outcome does input =
    made command.limits command.recipe old new outcome.status does.0
