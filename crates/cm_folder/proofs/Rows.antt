-- Rows: the root (1) with the folder a (2), in it the folder b (3), and in b the item c (4), which stands in the root too.
use Rattle.std.proofs.Common.{◌≡◌, true, false, List, [], ◌∷◌, Ok, Err, refl}
use Rattle.std.specs.Prelude.{codes}
use Rattle.cm_base.specs.declared.number.Oid.{Oid}
use Rattle.cm_base.specs.declared.cause.Cause.TheVariants as causes
use Rattle.cmis_spec.specs.Repository.{most_levels, levels_up}
use Rattle.cm_folder.specs.declared.entry.FilingEntry.{FilingEntry}
use Rattle.cm_folder.specs.Filings.{depth_in, path_in, refusal_shift}

abbrev n1 : Oid
n1 = record { 0 = 1 }

abbrev n2 : Oid
n2 = record { 0 = 2 }

abbrev n3 : Oid
n3 = record { 0 = 3 }

abbrev n4 : Oid
n4 = record { 0 = 4 }

abbrev tree : List FilingEntry
tree =
    record { folder = n1; child = n2; is_folder = true; name = codes "a" }
    ∷ record { folder = n2; child = n3; is_folder = true; name = codes "b" }
    ∷ record { folder = n3; child = n4; is_folder = false; name = codes "c" }
    ∷ record { folder = n1; child = n4; is_folder = false; name = codes "c" } ∷ []

depth_row : depth_in tree n3 ≡ 2
unfolding levels_up
depth_row = refl

path_row : path_in tree n3 ≡ codes "/a/b"
unfolding levels_up
path_row = refl

-- a folder would stand below itself
below_row : refusal_shift tree n2 n1 n3 ≡ Err causes.Below
unfolding levels_up
below_row = refl

moved_row : refusal_shift tree n3 n2 n1 ≡ Ok tt
unfolding levels_up most_levels
moved_row = refl

already_row : refusal_shift tree n4 n3 n1 ≡ Err causes.AlreadyFiled
unfolding levels_up
already_row = refl
