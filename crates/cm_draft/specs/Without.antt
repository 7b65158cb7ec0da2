-- What goes besides objects, lists and contents.
use Rattle.std.specs.Prelude.{◌&&◌, not, filter}
use Rattle.cm_base.specs.declared.number.Oid.{Oid}
use Rattle.cmis_spec.specs.Repository.{Repository, same}

-- the series of this number gone (CMIS 1.1, section 2.1.13.1)
abbrev pub without_series : Repository → Oid → Repository
without_series r n = record r { series = filter (λ s. not (same s.id n)) r.series }

-- the policy no longer on the object (section 2.1.9)
abbrev pub without_policy : Repository → Oid → Oid → Repository
without_policy r policy n = record r { applied = filter (λ a. not (same a.policy policy && same a.object n)) r.applied }

-- no policy on the object any more
abbrev pub without_policies : Repository → Oid → Repository
without_policies r n = record r { applied = filter (λ a. not (same a.object n)) r.applied }

-- the renditions of the document gone (section 2.1.4.2)
abbrev pub without_renditions : Repository → Oid → Repository
without_renditions r n = record r { renditions = filter (λ d. not (same d.of n)) r.renditions }
