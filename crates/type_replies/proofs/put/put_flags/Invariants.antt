use Rattle.std.proofs.Common.{◌≡◌, map, take}
use Rattle.std.specs.Prelude.{fold}
use Rattle.json_text.specs.Build.{with_field}
use Rattle.json_text.specs.Shown.{fields_of}
use Rattle.type_show.specs.Showing.{flag_field}
use Rattle.type_replies.proofs.put.put_flags.Given as goal

abbrev pub invariant-loop-flag : goal.invariant-loop-flag
invariant-loop-flag l = fields_of l.fields ≡ fold with_field (fields_of l.initial.fields) (map flag_field (take l.flag-index l.flags))
