-- What the conditions refuse, read off them.
use Rattle.std.proofs.Common.{◌≡◌, ℕ, Bool, true, sym, ap, ◌∙◌}
use Rattle.index_machine.specs.Forms.{Locked, live_value}
use Rattle.index_machine.specs.RefusalLaws.{BeginningsWaitForInstalls}
use Rattle.index_machine.specs.RefusalLaws.{CopiesHoldTheLock, OpeningWaitsForInserters}
use Rattle.index_machine.specs.RefusalLaws.{CopyingWaitsForReaders, ClosingWaitsForReaders}
use Rattle.index_machine.specs.RefusalLaws.{RetiringWaitsForReaders, LinksWhereNoneLives}
use Rattle.index_machine.specs.RefusalLaws.{RevivesInBuffersAlone, InstallsMergeLivePlaces}
use Rattle.index_machine.specs.RefusalLaws.{ForwardingPlacesHaveNoValue, SlotsWaitForReaders}
use Rattle.index_machine.specs.RefusalLaws.{PushesWaitForReaders}

pub copies_locked : CopiesHoldTheLock
copies_locked o t hand place from k removed stored may =
    (may.version, removed, may.value, may.value, may.holds)

pub opening_waits : OpeningWaitsForInserters
opening_waits o t hand group first may = may.closed

pub copying_waits : CopyingWaitsForReaders
copying_waits o t hand place from k removed stored may =
    let old = may.old in (old.0, old.1, old.3)

pub closing_waits : ClosingWaitsForReaders
closing_waits o t hand place expected may = may.old

pub retiring_waits : RetiringWaitsForReaders
retiring_waits o t hand place next may = may.unreached

pub slots_wait : SlotsWaitForReaders
slots_wait o t hand part side i group may = may.unused.empty

pub pushes_wait : PushesWaitForReaders
pushes_wait o t hand place head may = may.unobserved

pub links_where_none_lives : LinksWhereNoneLives
links_where_none_lives o t hand group lane place change before next may = may.not_live_elsewhere

was_removed : {c v x y d w a b : ℕ} {r : Bool} → Locked c v r x y ≡ Locked d w true a b → r ≡ true
was_removed e = cc

pub revives_in_buffers : RevivesInBuffersAlone
revives_in_buffers o t hand place removed change stored version before value may is =
    let r = may.1.revives (was_removed (sym may.1.holds ∙ is)) in (r.0, r.1)

pub installs_merge : InstallsMergeLivePlaces
installs_merge o t hand spot first low high may k h p is new live = may.merged k h p is new live

pub forwards_without_value : ForwardingPlacesHaveNoValue
forwards_without_value o t place to value e = ap live_value e

pub beginnings_wait : BeginningsWaitForInstalls
beginnings_wait o t hand group low high first may = may.idle
