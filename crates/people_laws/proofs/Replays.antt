-- A repository that is replayed has its people.
use Rattle.std.specs.Prelude.{List, [], ◌∷◌, Ok, Err}
use Rattle.std.proofs.Common.{refl, ◌∙◌}
use Rattle.cm_base.specs.declared.shown.Shown.{Shown}
use Rattle.cm_base.specs.Judged.{Judged, ◌>>=◌, ◌>>◌}
use Rattle.cm_call.specs.declared.reply.Reply.{Reply}
use Rattle.cm_call.specs.declared.write.Write.{Write}
use Rattle.bind_json.specs.Replies.{shown_reply}
use Rattle.cmis_spec.specs.Repository.{Repository}
use Rattle.desk_model.specs.declared.entry.Entry.{Entry}
use Rattle.desk_model.specs.Histories.{state_after}
use Rattle.journal_people.specs.Told.{PeopleTold}
use Rattle.journal_replay.specs.declared.record.Record.{Record}
use Rattle.journal_replay.specs.declared.record.Record.TheVariants.{Written, Changed}
use Rattle.journal_replay.specs.declared.record.Root.{Root}
use Rattle.journal_replay.specs.Recorded.{Replay, replayed, with_record}
use Rattle.journal_replay.specs.Replayed.{at_root}
use Rattle.cm_people.proofs.Named.{names_stay}
use Rattle.cm_repo.specs.Calls.{acknowledgement, after, refusal_of}
use Rattle.cm_repo.specs.Restarting.{begun_at}
use Rattle.cm_repo.specs.ServerMachine.{shown_step}
use Rattle.people_laws.specs.Peopled.{HasItsPeople, server_steps}
use Rattle.people_laws.proofs.Staying.{SamePeople}
use Rattle.people_laws.proofs.Writing.{write_stays}

-- what is sent of a step
abbrev told : Repository × Reply → Judged (Repository × Shown)
told made = Ok (made.0, shown_reply made.1 made.0.step)

-- a step that is refused changes nothing
step_stays : (r : Repository) (made : Repository × Reply) (judged : Judged (Unit {0})) → SamePeople r made.0 → SamePeople r (state_after r ((judged >> Ok made) >>= told))
step_stays r made (Ok x) h = h
step_stays r made (Err c) h = (refl, refl)

entry_stays : (r : Repository) (e : Entry Write) → SamePeople r (state_after r (shown_step r e))
entry_stays r e =
    let made : Repository × Reply = (after r e.user e.moment e.call, acknowledgement r e.user e.moment e.call) in
    step_stays r made (refusal_of r e.user e.moment e.call) (write_stays r e.user e.moment e.call)

has_its_people : (replay : Replay Repository PeopleTold) (record_of : Record Write PeopleTold) → HasItsPeople replay → HasItsPeople (with_record server_steps replay record_of)
has_its_people replay (Written e) h = ((entry_stays replay.state e).0 ∙ h.0, (entry_stays replay.state e).1 ∙ h.1)
has_its_people replay (Changed people) h = (refl, refl)

all_have : (replay : Replay Repository PeopleTold) (rs : List (Record Write PeopleTold)) → HasItsPeople replay → HasItsPeople (replayed server_steps replay rs)
all_have replay [] h = h
all_have replay (r ∷ rs) h = all_have (with_record server_steps replay r) rs (has_its_people replay r h)

pub replays_have : (root : Root PeopleTold) (rs : List (Record Write PeopleTold)) → HasItsPeople (replayed server_steps (at_root begun_at root) rs)
replays_have root rs = all_have (at_root begun_at root) rs (names_stay root.people.names, refl)
