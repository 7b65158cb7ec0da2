-- The entry of what may be filed.
use Rattle.std.specs.Prelude.{◌≡◌, ℕ, Bool, true, false, ◌&&◌, ◌||◌, not, [], Option, Some, None, unwrap_or, option_map}
use Rattle.std.proofs.Common.{refl, sym, ap, subst, inl, inr}
use Rattle.std.proofs.lemmas.Bool.{both_ways, and_parts}
use Rattle.cm_base.specs.declared.number.Oid.{Oid}
use Rattle.cm_base.specs.declared.number.Moment.{Moment}
use Rattle.cm_base.specs.declared.object.Object.{Object}
use Rattle.cm_base.specs.declared.filing.Filed.{Filed}
use Rattle.cm_base.specs.declared.log.ChangeKind.TheVariants as changes
use Rattle.cm_types.specs.declared.definition.BaseType.TheVariants as bases
use Rattle.cmis_spec.specs.Repository.{Repository, same, root, object_at, is_a, type_of, entry_of}
use Rattle.cmis_spec.specs.Changes.{stepped, without_pair}
use Rattle.cmis_spec.specs.Documents.{is_working_copy}
use Rattle.cmis_spec.specs.Well.{IsBaseAt, Belongs, IsWellFormed}
use Rattle.cmis_laws.proofs.Lists.{by_test, found_holds, same_eq, same_refl}
use Rattle.cmis_laws.proofs.Entries.{entry_folder, entry_other, leaf_other, IsLeafAt}
use Rattle.cmis_laws.proofs.Steps.{HasRoom, step_keeps, note_keeps}
use Rattle.wr_filing.specs.Filing.{is_filed_kind, may_be_filed, unfiled, changed_by}
use Rattle.wr_filing.proofs.Unfiled.{pairs_left}

belongs_of : (r : Repository) (x : Object) → IsWellFormed r → object_at r x.id ≡ Some x → Belongs r x x.series
belongs_of r x w there = found_holds (λ y. Belongs r y y.series) (λ y. same y.id x.id) r.objects x w.documents there

-- what is not the root has another entry
pub entry_no_root : (r : Repository) (x : Object) → IsWellFormed r → object_at r x.id ≡ Some x → same x.id root ≡ false → same (entry_of x) root ≡ false
entry_no_root r x w there no_root = by_test (is_a r bases.Folder x)
    (λ f. subst (λ z. same z root ≡ false) (sym (entry_folder r x x.series (belongs_of r x w there) f)) no_root)
    (λ f. entry_other r x x.series w.firsts w.documents (belongs_of r x w there) there f root w.root.0)

-- a folder is its own entry
pub entry_own : (r : Repository) (x : Object) → IsWellFormed r → object_at r x.id ≡ Some x → is_a r bases.Folder x ≡ true → entry_of x ≡ x.id
entry_own r x w there f = entry_folder r x x.series (belongs_of r x w there) f

filed_kind : (r : Repository) (x : Object) → may_be_filed r x ≡ true → is_filed_kind r x ≡ true
filed_kind r x h =
    let a = and_parts (is_filed_kind r x && unwrap_or (option_map (λ t. t.fileable) (type_of r x)) false) (not (is_working_copy r x)) h in
    (and_parts (is_filed_kind r x) (unwrap_or (option_map (λ t. t.fileable) (type_of r x)) false) a.0).0

third : (a b c : Bool) → a || b || c ≡ true → a ≡ false → b ≡ false → c ≡ true
third true b c h e f = absurd (both_ways true e refl)
third false true c h e f = absurd (both_ways true f refl)
third false false c h e f = h

leaf_by : (r : Repository) (x : Object) (o : Option Oid) → Belongs r x o → object_at r x.id ≡ Some x → is_filed_kind r x ≡ true → is_a r bases.Folder x ≡ false → IsLeafAt r (unwrap_or o x.id)
leaf_by r x None b there kind no_folder = inl (x, there, third (is_a r bases.Folder x) (is_a r bases.Document x) (is_a r bases.Item x) kind no_folder b)
leaf_by r x (Some n) b there kind no_folder = inr (b.1.0, b.1.1)

-- what may be filed and is no folder is an item, or in a series
pub leaf_of : (r : Repository) (x : Object) → IsWellFormed r → object_at r x.id ≡ Some x → may_be_filed r x ≡ true → is_a r bases.Folder x ≡ false → IsLeafAt r (entry_of x)
leaf_of r x w there may no_folder = leaf_by r x x.series (belongs_of r x w there) there (filed_kind r x may) no_folder

-- no folder is such an entry
no_folder_of : (r : Repository) (n : Oid) → IsWellFormed r → IsLeafAt r n → (p : Filed) → IsBaseAt r bases.Folder p.child → same p.child n ≡ false
no_folder_of r n w leaf p f = by_test (same p.child n)
    (λ e. absurd (both_ways (same n p.child) (leaf_other r n w.firsts w.documents leaf p.child f) (subst (λ m. same m p.child ≡ true) (same_eq p.child n e) (same_refl p.child))))
    (λ e. e)

last_false : (a b : Bool) → b ≡ false → not (a && b) ≡ true
last_false true b h = ap not h
last_false false b h = refl

-- so it may go out of a folder, and out of all
pub out_keeps : (r : Repository) (folder n : Oid) → IsWellFormed r → IsLeafAt r n → IsWellFormed (without_pair r folder n)
out_keeps r folder n w leaf = pairs_left r (λ p. not (same p.folder folder && same p.child n)) w (λ p f. last_false (same p.folder folder) (same p.child n) (no_folder_of r n w leaf p f))

pub unfiled_keeps : (r : Repository) (n : Oid) → IsWellFormed r → IsLeafAt r n → IsWellFormed (unfiled r n)
unfiled_keeps r n w leaf = pairs_left r (λ p. not (same p.child n)) w (λ p f. ap not (no_folder_of r n w leaf p f))

-- a step with its event keeps what is well formed
pub change_keeps : (r : Repository) (n : Oid) (m : Moment) (cost : ℕ) → IsWellFormed r → HasRoom r cost → IsWellFormed (changed_by r n m cost)
change_keeps r n m cost w room = note_keeps (stepped r cost) changes.Updated n m [] (step_keeps r cost w room)
