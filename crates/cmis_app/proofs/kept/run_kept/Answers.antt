use denote.Param.Send.{sendable}
use Rattle.cmis_app.proofs.Sharing.{Write-send, Write-sync}
use Rattle.cmis_app.proofs.kept.run_kept.Goals as goal

pub run-requires-send-P-Face-Call : goal.run-requires-send-P-Face-Call
run-requires-send-P-Face-Call g c κs within = search (Write-send, sendable) depth 40

pub run-requires-sync-P-Face-Call : goal.run-requires-sync-P-Face-Call
run-requires-sync-P-Face-Call g c κs within = search (Write-sync, sendable) depth 40
