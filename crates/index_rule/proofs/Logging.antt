-- A seat's log stays true while others step, and has an entry more after a change of its own.
use Rattle.std.proofs.Common.{◌≡◌, ◌≢◌, ℕ, [], ◌∷◌, ◌++◌, sym, ◌∙◌}
use Rattle.std.proofs.Common.{Bool}
use Rattle.map_model.specs.declared.entries.Change.{Change}
use Rattle.map_model.specs.declared.entries.Change.TheVariants as change
use Rattle.map_model.specs.History.{caller_of}
use Rattle.map_model.specs.Logs.{Log, IsLogOf}
use Rattle.map_model.proofs.Logging.{others_keep, changes_end}
use Rattle.index_machine.specs.declared.events.Action.{Action}
use Rattle.index_machine.specs.declared.events.Action.TheVariants.{Unlock, LinkRow}
use Rattle.index_machine.specs.declared.opening.Opening.{Opening}
use Rattle.index_machine.specs.Execution.{Execution, Without, event}
use Rattle.index_machine.specs.Openings.{opening_map}
use Rattle.index_machine.specs.LivePlaces.{history}
use Rattle.index_machine.specs.RecordConditions.{IsChangeTo}
use Rattle.index_machine.specs.Conditions.{Allowed, Valid}
use Rattle.index_rule.specs.Rule.{log_after}

-- a change that a hand makes is by this hand
by_maker : (hand : ℕ) (was removed : Bool) (value : ℕ) (d : Change) →
    IsChangeTo hand was removed value d → caller_of d ≡ hand
by_maker hand was removed value (change.Put c k v) m = m.0
by_maker hand was removed value (change.Remove c k) m = m.0

-- the log of a hand, after an event of another one
other_step : (o : Opening) (t : Execution) (by hand : ℕ) (d : Action) (log : Log) →
    Allowed o t by d → by ≢ hand → IsLogOf (opening_map o) hand (history t) log →
    IsLogOf (opening_map o) hand (history (event by d ∷ t)) log
other_step o t by hand (Unlock p r d w) log may other old =
    let m = may.1 in
    others_keep (opening_map o) hand (history t) log d old
    (λ e. other (sym (by_maker by m.was r m.value d m.makes) ∙ e))
other_step o t by hand (LinkRow g lane p d before next) log may other old =
    others_keep (opening_map o) hand (history t) log d old
    (λ e. other (sym (by_maker by _ _ may.value d may.makes) ∙ e))
other_step o t by hand d log may other old = old

-- and after events of others
pub log_on : (o : Opening) (hand : ℕ) (newer t : Execution) (log : Log) →
    Valid o (newer ++ t) → Without hand newer → IsLogOf (opening_map o) hand (history t) log →
    IsLogOf (opening_map o) hand (history (newer ++ t)) log
log_on o hand [] t log valid out old = old
log_on o hand (e ∷ newer) t log valid out old =
    other_step o (newer ++ t) e.by hand e.action log valid.0 out.0
    (log_on o hand newer t log valid.1 out.1 old)

-- the hand's log after an event of its own
pub log_more : (o : Opening) (t : Execution) (hand : ℕ) (d : Action) (log : Log) →
    Allowed o t hand d → IsLogOf (opening_map o) hand (history t) log →
    IsLogOf (opening_map o) hand (history (event hand d ∷ t)) (log_after o t d log)
log_more o t hand (Unlock p r d w) log may old =
    let m = may.1 in
    changes_end (opening_map o) hand (history t) log d old
    (by_maker hand m.was r m.value d m.makes)
log_more o t hand (LinkRow g lane p d before next) log may old =
    changes_end (opening_map o) hand (history t) log d old
    (by_maker hand _ _ may.value d may.makes)
log_more o t hand d log may old = old
