-- What the calls on applied policies share: the pairs of a policy and an object, and their changes (CMIS 1.1, sections 2.1.9 and 2.2.9).
use Rattle.std.specs.Prelude.{Bool, ◌&&◌, not, filter, Option, unwrap_or, option_map}
use Rattle.cm_base.specs.declared.number.Oid.{Oid}
use Rattle.cm_base.specs.declared.object.Object.{Object}
use Rattle.cm_base.specs.declared.filing.Applied.{Applied}
use Rattle.cmis_spec.specs.Repository.{Repository, same, root}

-- the pair of this policy and this object
abbrev pub is_pair : Oid → Oid → Applied → Bool
is_pair policy object a = same a.policy policy && same a.object object

-- the policy no longer on the object
abbrev pub without_policy : Repository → Oid → Oid → Repository
without_policy r policy object = record r { applied = filter (λ a. not (is_pair policy object a)) r.applied }

-- the number of what is named; where there is nothing the call is refused, and the root stands for it
abbrev pub number_or_root : Option Object → Oid
number_or_root found = unwrap_or (option_map (λ p. p.id) found) root
