use denote.Param.Send.{sendable}
use Rattle.share_laws.proofs.Crosses.{State-send, State-sync}
use Rattle.share_laws.proofs.shared.states_are_shared.Goals as goal

pub is_shared-requires : goal.is_shared-requires
is_shared-requires c = (search (State-send, sendable) depth 40, search (State-sync, sendable) depth 40)
