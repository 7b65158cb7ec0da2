use Rattle.std.proofs.Common.{◌∙◌, ap}
use Rattle.cm_see.specs.System.{system_named}
use Rattle.show_json.specs.Columns.{setting_of}
use Rattle.show_json.proofs.column.setting.Goals as goal

pub returns : goal.returns
unfolding setting_of
returns c = c.find_system.ensures ∙ ap system_named c.as_str.ensures
