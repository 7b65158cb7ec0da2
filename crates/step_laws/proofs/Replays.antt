-- A replay keeps what is well formed, whatever its entries are: a refused one changes nothing.
use Rattle.std.specs.Prelude.{◌≡◌, List, [], ◌∷◌, Result, Ok, Err}
use Rattle.std.proofs.Common.{refl}
use Rattle.cm_base.specs.declared.cause.Cause.{Cause}
use Rattle.cm_base.specs.declared.shown.Shown.{Shown}
use Rattle.cm_base.specs.Judged.{◌>>=◌}
use Rattle.bind_json.specs.Replies.{shown_reply}
use Rattle.cm_call.specs.declared.reply.Reply.{Reply}
use Rattle.cm_call.specs.declared.write.Write.{Write}
use Rattle.cmis_spec.specs.Repository.{Repository}
use Rattle.cmis_spec.specs.Well.{IsWellFormed}
use Rattle.desk_model.specs.declared.entry.Entry.{Entry}
use Rattle.desk_model.specs.Histories.{replay, state_after}
use Rattle.cm_repo.specs.Calls.{step_of}
use Rattle.cm_repo.specs.ServerMachine.{shown_step}
use Rattle.step_laws.proofs.Steps.{step_well}

abbrev shown_made : Repository × Reply → Result (Repository × Shown) Cause
shown_made made = Ok (made.0, shown_reply made.1 made.0.step)

well_by : (r : Repository) (e : Entry Write) (made : Result (Repository × Reply) Cause) → IsWellFormed r → step_of r e ≡ made → IsWellFormed (state_after r (made >>= shown_made))
well_by r e (Ok x) w h = step_well r e x w h
well_by r e (Err c) w h = w

pub well_replay : (r : Repository) (h : List (Entry Write)) → IsWellFormed r → IsWellFormed (replay shown_step r h)
well_replay r [] w = w
well_replay r (e ∷ es) w = well_replay (state_after r (shown_step r e)) es (well_by r e (step_of r e) w refl)
