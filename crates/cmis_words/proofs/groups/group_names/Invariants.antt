use Rattle.std.proofs.Common.{◌≡◌, take, map}
use Rattle.cm_base.specs.UserLists.{name_part, texts_of}
use Rattle.cmis_words.proofs.groups.group_names.Given as goal

abbrev pub invariant-loop-piece : goal.invariant-loop-piece
invariant-loop-piece l = l.all ≡ map name_part (texts_of (take l.piece-index l.list))
