-- A repository under other limits.
use Rattle.std.specs.Prelude.{◌≤◌}
use Rattle.cm_base.specs.declared.limits.Limits.{Limits}
use Rattle.cmis_spec.specs.Repository.{Repository}

-- the same repository under these limits
abbrev pub under : Limits → Repository → Repository
under limits r = record r { limits = limits }

-- the first limits are at least as great as the second, in both numbers
abbrev pub AreAsGreat : Limits → Limits → Type 0
AreAsGreat greater limits = (limits.most_steps ≤ greater.most_steps) × (limits.most_bytes ≤ greater.most_bytes)
