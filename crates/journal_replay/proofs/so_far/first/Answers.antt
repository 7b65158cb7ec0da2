use Rattle.std.proofs.Common.{[], ◌∷◌, subst, sym}
use Rattle.journal_replay.specs.Replayed.{reading_of, Replays}
use Rattle.journal_replay.specs.OneMore.{root_replays}
use Rattle.journal_replay.proofs.so_far.first.Goals as goal

pub returns-in-Ok-behind_root-clause-replays : goal.returns-in-Ok-behind_root-clause-replays
returns-in-Ok-behind_root-clause-replays g c =
    let reading = reading_of g.F.JournalCode.root_codec g.F.JournalCode.record_codec g.M.Restarts.opening g.M.Machine.next g.M.Restarts.adopt in
    subst (Replays reading (c.args.bytes.now ∷ [])) (sym c.in-Ok-behind_root.ensures) (root_replays reading c.args.bytes.now c.in-Ok.root c.in-Ok.ensures)
