use Rattle.std.proofs.Common.{◌≡◌, take}
use Rattle.cm_base.specs.UserLists.{texts_of}
use Rattle.cmis_words.proofs.groups.texts.Given as goal

abbrev pub invariant-loop-word : goal.invariant-loop-word
invariant-loop-word l = l.all ≡ texts_of (take l.word-index l.words)
