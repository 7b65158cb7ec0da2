use Rattle.std.proofs.Common.{◌≡◌, take, map}
use Rattle.cmis_words.proofs.groups.user_names.Given as goal

abbrev pub invariant-loop-user : goal.invariant-loop-user
invariant-loop-user l = l.all ≡ map (λ u. u.name) (take l.user-index l.users)
