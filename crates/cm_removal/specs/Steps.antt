-- The parts of a deletion (CMIS 1.1, sections 2.1.3 and 2.1.13).
use Rattle.std.specs.Prelude.{◌≡◌, ℕ, Bool, false, ◌&&◌, not, if◌then◌else◌, List, [], ◌∷◌, ◌++◌, map, filter, Option, Some, None, unwrap_or, option_map}
use Rattle.core.specs.Ordering.{nat_cmp}
use Rattle.cm_map.specs.Sets.{has_key}
use Rattle.cm_base.specs.declared.number.Oid.{Oid}
use Rattle.cm_base.specs.declared.series.Series.{Series}
use Rattle.cm_base.specs.declared.filing.Filed.{Filed}
use Rattle.cm_types.specs.declared.definition.BaseType.TheVariants as bases
use Rattle.cmis_spec.specs.Repository.{Repository, same, object_at, series_at, is_a, entry_of}
use Rattle.cmis_spec.specs.Changes.{edited_series}
use Rattle.cm_state.specs.Looks.{folders_in}
use Rattle.cm_draft.specs.Without.{without_series}
use Rattle.cmis_spec.specs.Removal.{left_in, has_members, entry_goes, among}

-- the object of this number is a relationship
abbrev pub is_tie : Repository → Oid → Bool
is_tie r n = unwrap_or (option_map (is_a r bases.Relationship) (object_at r n)) false

-- what the object of this number is filed, named and listed by
abbrev pub entry_at : Repository → Oid → Oid
entry_at r n = unwrap_or (option_map entry_of (object_at r n)) n

-- the pair is one of this child, in one of its folders
abbrev pub is_pair_of : Repository → Filed → Oid → Bool
is_pair_of r p n = among (folders_in r n) p.folder && same p.child n

-- the series in place of the one of this number, or none in its place where it has no document
abbrev pub series_put : Repository → Oid → Option Series → Repository
series_put r n None = r
series_put r n (Some s) = if has_members s then edited_series r s else without_series r n

-- the series of this number with the documents that stay
abbrev pub with_left : (Oid → Bool) → Repository → Oid → Repository
with_left gone r n = series_put r n (option_map (left_in gone) (series_at r n))

-- one more at the end, where it isn't there
abbrev pub with_last : List Oid → Oid → List Oid
with_last ns n = if among ns n then ns else ns ++ n ∷ []

-- the set has the numbers
pub record IsSetOf (set : List ℕ) (ns : List Oid) : Type 0 where
  pub has : (n : Oid) → has_key nat_cmp n.0 set ≡ among ns n

-- without the pairs, lists and series of what goes
abbrev pub unlisted : Repository → (Oid → Bool) → Repository
unlisted r gone = record r {
  series = filter has_members (map (left_in gone) r.series);
  filed = filter (λ p. not (entry_goes r gone p.child)) r.filed;
  access = filter (λ l. not (entry_goes r gone l.at)) r.access;
}
