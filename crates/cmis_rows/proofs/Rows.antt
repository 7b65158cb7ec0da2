-- A small repository: in the root the folder a, which admin alone reads; in a the folder b, which anyone would read; in b the folder c.
use Rattle.std.specs.Prelude.{◌≡◌, ℕ, pos, true, false, List, [], ◌∷◌, map, Some, None, codes}
use Rattle.std.proofs.Common.{refl}
use Rattle.cm_base.specs.declared.number.Oid.{Oid}
use Rattle.cm_base.specs.declared.number.Moment.{Moment}
use Rattle.cm_base.specs.declared.object.Object.{Object}
use Rattle.cm_base.specs.declared.access.Ace.{Ace}
use Rattle.cm_base.specs.declared.access.Level.TheVariants as levels
use Rattle.cm_base.specs.declared.log.ChangeKind.TheVariants as changes
use Rattle.cm_base.specs.declared.user.User.{User}
use Rattle.cm_base.specs.Limits.{usual_limits}
use Rattle.cm_types.specs.BaseTypes.{base_types}
use Rattle.cmis_spec.specs.Repository.{Repository, opening, root, depth_of, is_under, is_taken, path_of, levels_up}
use Rattle.cmis_spec.specs.Access.{level_of_caller, reads, object_named, read_named, at_path, children_of, lacks}
use Rattle.cmis_spec.specs.Changes.{stepped, noted, with_object, with_pair}
use Rattle.cmis_spec.specs.Seen.{seen}

abbrev pub admin : List ℕ
admin = codes "admin"

abbrev pub bob : List ℕ
bob = codes "bob"

abbrev pub dawn : Moment
dawn = record { 0 = pos 0 }

abbrev pub number : ℕ → Oid
number n = record { 0 = n }

abbrev folder : ℕ → List ℕ → Object
folder n name = record {
  id = number n;
  kind = codes "cmis:folder";
  name = Some name;
  secondary = [];
  values = [];
  created_by = admin;
  created_at = dawn;
  modified_by = admin;
  modified_at = dawn;
  token = n;
  series = None;
}

abbrev own : List Ace
own = record { principal = admin; level = levels.All } ∷ []

abbrev shared : List Ace
shared = record { principal = admin; level = levels.All } ∷ record { principal = codes "anyone"; level = levels.Read } ∷ []

-- one folder more in this one
abbrev with_folder : Repository → ℕ → List ℕ → List Ace → ℕ → Repository
with_folder r n name aces parent = noted (stepped (with_pair (with_object r (folder n name) aces []) (number parent) (number n)) 64) changes.Created (number n) dawn []

abbrev users : List User
users = record { name = admin; secret = codes "pw" } ∷ record { name = bob; secret = codes "b" } ∷ []

abbrev begun : Repository
begun = opening base_types users [] (record { moment = dawn; first_step = 0; limits = usual_limits })

-- the first folder has this name
abbrev small : List ℕ → Repository
small name = with_folder (with_folder (with_folder begun 2 name own 1) 3 (codes "b") shared 2) 4 (codes "c") own 3

abbrev r : Repository
r = small (codes "a")

-- ---- levels and reading

anyone_reads_the_root : level_of_caller r bob (folder 1 (codes "root")) ≡ levels.Read
anyone_reads_the_root = refl

the_administrator_may_do_anything : level_of_caller r admin (folder 4 (codes "c")) ≡ levels.All
the_administrator_may_do_anything = refl

a_stranger_has_no_level : level_of_caller r bob (folder 2 (codes "a")) ≡ levels.None
a_stranger_has_no_level = refl

reading_is_not_writing : lacks r bob levels.Write (folder 1 (codes "root")) ≡ true
reading_is_not_writing = refl

the_administrator_reads_all : map (reads r admin) r.objects ≡ true ∷ true ∷ true ∷ true ∷ []
unfolding levels_up
the_administrator_reads_all = refl

-- b has an entry for anyone, and stands in a, which bob does not read
folders_above_count : map (reads r bob) r.objects ≡ true ∷ false ∷ false ∷ false ∷ []
unfolding levels_up
folders_above_count = refl

-- ---- what is found

ids_are_decimal_numbers : map (object_named r) (codes "2" ∷ codes "02" ∷ codes "+2" ∷ codes "x" ∷ codes "9" ∷ []) ≡ Some (folder 2 (codes "a")) ∷ None ∷ None ∷ None ∷ None ∷ []
ids_are_decimal_numbers = refl

unread_is_not_found : read_named r bob (codes "2") ≡ read_named r bob (codes "9")
unfolding levels_up
unread_is_not_found = refl

a_path_goes_by_names : at_path r admin (codes "a" ∷ codes "b" ∷ codes "c" ∷ []) ≡ Some (folder 4 (codes "c"))
unfolding levels_up
a_path_goes_by_names = refl

a_path_ends_at_what_is_not_read : at_path r bob (codes "a" ∷ codes "b" ∷ []) ≡ None
unfolding levels_up
a_path_ends_at_what_is_not_read = refl

the_path_of_a_folder : path_of r (number 4) ≡ codes "/a/b/c"
unfolding levels_up
the_path_of_a_folder = refl

children_are_those_that_are_read : children_of r admin root ≡ folder 2 (codes "a") ∷ []
unfolding levels_up
children_are_those_that_are_read = refl

nobody_else_sees_a_child : children_of r bob root ≡ []
unfolding levels_up
nobody_else_sees_a_child = refl

-- ---- the tree

a_name_is_taken_in_its_folder : is_taken r root (number 5) (codes "a") ≡ true
a_name_is_taken_in_its_folder = refl

and_free_in_another : is_taken r (number 2) (number 5) (codes "a") ≡ false
and_free_in_another = refl

its_own_name_is_free : is_taken r root (number 2) (codes "a") ≡ false
its_own_name_is_free = refl

pairs_to_the_root : map (λ n. depth_of r (number n)) (1 ∷ 2 ∷ 3 ∷ 4 ∷ []) ≡ 0 ∷ 1 ∷ 2 ∷ 3 ∷ []
unfolding levels_up
pairs_to_the_root = refl

-- a moved into c would stand below itself
a_folder_would_stand_below_itself : is_under r (number 4) (number 2) ≡ true
unfolding levels_up
a_folder_would_stand_below_itself = refl

-- ---- what is seen

-- two repositories that differ in a hidden tree look the same to bob
a_hidden_name_is_not_seen : seen (small (codes "a")) bob ≡ seen (small (codes "z")) bob
unfolding levels_up
a_hidden_name_is_not_seen = refl
