-- The arguments of createType, updateType and deleteType, judged in their order (CMIS 1.1, section 5.4).
use Rattle.std.specs.Prelude.{List, Ok, codes}
use Rattle.cm_base.specs.Judged.{Judged, ◌>>=◌}
use Rattle.cm_types.specs.declared.request.TypeRequest.{TypeRequest}
use Rattle.type_change_parts.specs.declared.writes.CreateType.{CreateType}
use Rattle.type_change_parts.specs.declared.writes.UpdateType.{UpdateType}
use Rattle.type_change_parts.specs.declared.writes.DeleteType.{DeleteType}
use Rattle.type_json.specs.Reading.{judge_type_text}
use Rattle.form_args.specs.declared.pairs.Pair.{Pair}
use Rattle.form_args.specs.Single.{needed}
use Rattle.bind_parts.specs.declared.asking.Asking.{Asking}

-- what the text of the definition asks of a type (section 5.2.9); it must be given
abbrev pub definition_of : List Pair → Judged TypeRequest
definition_of pairs = needed pairs (codes "type") >>= judge_type_text

abbrev pub create_type_of : Asking → Judged CreateType
create_type_of asking = do
  definition ← definition_of asking.form.pairs
  Ok (record { definition = definition })

abbrev pub update_type_of : Asking → Judged UpdateType
update_type_of asking = do
  definition ← definition_of asking.form.pairs
  Ok (record { definition = definition })

abbrev pub delete_type_of : Asking → Judged DeleteType
delete_type_of asking = do
  id ← needed asking.form.pairs (codes "typeId")
  Ok (record { type_id = id })
