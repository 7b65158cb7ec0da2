use Rattle.std.proofs.Common.{◌≡◌, take, map, true}
use Rattle.std.specs.List.{list_all}
use Rattle.cm_base.specs.UserLists.{texts_of}
use Rattle.cmis_words.specs.GroupLists.{is_group, group_of, by_name}
use Rattle.cmis_words.proofs.groups.groups.Given as goal

abbrev pub invariant-loop-piece : goal.invariant-loop-piece
invariant-loop-piece l = record {
  each : list_all (is_group l.users) (texts_of (take l.piece-index l.list)) ≡ true;
  sorted : l.all.items ≡ by_name (map group_of (texts_of (take l.piece-index l.list)));
}
