use denote.Param.Send.{sendable}
use Rattle.desk_serve.proofs.Crossing.{Session-send}
use Rattle.desk_serve.proofs.running.start.Goals as goal

pub started-requires-send-J : goal.started-requires-send-J
started-requires-send-J g c κs within = search (Session-send, sendable) depth 40
