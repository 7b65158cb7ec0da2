use Rattle.std.proofs.Common.{◌≡◌, map, take}
use Rattle.std.specs.Prelude.{fold}
use Rattle.json_text.specs.Build.{with_field}
use Rattle.json_text.specs.Shown.{fields_of}
use Rattle.type_show.specs.Showing.{text_field}
use Rattle.type_replies.proofs.put.put_texts.Given as goal

abbrev pub invariant-loop-text : goal.invariant-loop-text
invariant-loop-text l = fields_of l.fields ≡ fold with_field (fields_of l.initial.fields) (map text_field (take l.text-index l.texts))
