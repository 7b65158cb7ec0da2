-- Working copies are found among the objects of the document types.
use Rattle.std.specs.Prelude.{◌≡◌, ℕ, Bool, true, false, ◌&&◌, if◌then◌else◌, List, [], ◌∷◌, ◌++◌, map, filter, All, Option, Some, None, is_some, unwrap_or, option_map, option_and_then, bytes_eq}
use Rattle.std.specs.List.{list_any, flat_map}
use Rattle.std.proofs.Common.{refl, sym, ap, ◌∙◌}
use Rattle.std.proofs.lemmas.Bool.{both_ways, and_parts, or_left, or_right}
use Rattle.std.proofs.lemmas.List.Elements.{All-head, All-tail, All-weaker}
use Rattle.cm_base.specs.declared.number.Oid.{Oid}
use Rattle.cm_base.specs.declared.object.Object.{Object}
use Rattle.cm_types.specs.declared.definition.TypeDef.{TypeDef}
use Rattle.cm_types.specs.declared.definition.BaseType.TheVariants as bases
use Rattle.cm_types.specs.Types.{is_of_base, same_base}
use Rattle.cmis_spec.specs.Repository.{Repository, object_at, owner_of, same, series_at}
use Rattle.cmis_spec.specs.Access.{reads}
use Rattle.cmis_spec.specs.Well.{Belongs, IsWellFormed}
use Rattle.cmis_laws.proofs.Entries.{all_there}
use Rattle.cmis_laws.proofs.Kept.{bytes_true, bytes_same}
use Rattle.cmis_laws.proofs.Lists.{by_test, find_yes, find_no}
use Rattle.row_store.specs.Rows.{is_of_types, of_types}
use Rattle.rd_trees.specs.ReadCheckedOut.{copies, is_copy, is_filed_at}
use Rattle.rd_trees.specs.Walks.{document_types, found_among, object_if}

-- ---- objects found by their numbers

-- where all that pass are among these
found_all : (at : Oid → Option Object) (p q : Object → Bool) (xs : List Object) → All (λ x. at x.id ≡ Some x) xs → All (λ x. p x ≡ true → q x ≡ true) xs
    → flat_map (λ n. object_if p (at n)) (map (λ x. x.id) (filter q xs)) ≡ filter p xs
found_all at p q [] there only = refl
found_all at p q (x ∷ xs) there only =
    let here : at x.id ≡ Some x = All-head (λ x. at x.id ≡ Some x) x xs there in
    let rest = found_all at p q xs (All-tail (λ x. at x.id ≡ Some x) x xs there) (All-tail (λ x. p x ≡ true → q x ≡ true) x xs only) in
    by_test (q x)
    (λ d. by_test (p x)
    (λ e. rw (d, e) (ap (λ o. object_if p o ++ flat_map (λ n. object_if p (at n)) (map (λ x. x.id) (filter q xs))) here ∙ rw e (ap (λ ys. x ∷ ys) rest)))
    (λ e. rw (d, e) (ap (λ o. object_if p o ++ flat_map (λ n. object_if p (at n)) (map (λ x. x.id) (filter q xs))) here ∙ rw e rest)))
    (λ d. by_test (p x)
    (λ e. absurd (both_ways (q x) d (All-head (λ x. p x ≡ true → q x ≡ true) x xs only e)))
    (λ e. rw (d, e) rest))

-- ---- a working copy is of a document type

-- an id that names a document type is among theirs
type_among : (types : List TypeDef) (id : List ℕ) → is_of_base types bases.Document id ≡ true → list_any (bytes_eq id) (document_types types) ≡ true
type_among [] id h = absurd (both_ways false refl h)
type_among (t ∷ ts) id h =
    let based : Option TypeDef → Bool = λ o. unwrap_or (option_map (same_base bases.Document) (option_map (λ t. t.base) o)) false in
    by_test (bytes_eq t.id id)
    (λ e.
    let d : same_base bases.Document t.base ≡ true = sym (ap based (find_yes (λ t. bytes_eq t.id id) t ts e)) ∙ h in
    rw d (or_left (bytes_eq id t.id) (list_any (bytes_eq id) (document_types ts)) (bytes_same id t.id (sym (bytes_true t.id id e)))))
    (λ e.
    let rest = type_among ts id (sym (ap based (find_no (λ t. bytes_eq t.id id) t ts e)) ∙ h) in
    by_test (same_base bases.Document t.base)
    (λ d. rw d (or_right (bytes_eq id t.id) (list_any (bytes_eq id) (document_types ts)) rest))
    (λ d. rw d rest))

owned_is_document : (r : Repository) (x : Object) (series : Option Oid) → x.series ≡ series → Belongs r x series → is_some (owner_of r x) ≡ true → is_of_base r.types bases.Document x.kind ≡ true
owned_is_document r x None e b h = absurd (both_ways false refl (sym (ap (λ o. is_some (option_and_then (λ s. option_and_then (λ w. if same w.copy x.id then Some w.owner else None) s.working) (option_and_then (series_at r) o))) e) ∙ h))
owned_is_document r x (Some n) e b h = b.0

copy_typed : (r : Repository) (u : List ℕ) (folder : Option Oid) (x : Object) → Belongs r x x.series → (is_copy r folder x && reads r u x) ≡ true → is_of_types (document_types r.types) x ≡ true
copy_typed r u folder x b h =
    let owned : is_some (owner_of r x) ≡ true = (and_parts (is_some (owner_of r x)) (is_filed_at r folder x) (and_parts (is_copy r folder x) (reads r u x) h).0).0 in
    or_left (list_any (bytes_eq x.kind) (document_types r.types)) (list_any (λ s. list_any (bytes_eq s) (document_types r.types)) x.secondary)
    (type_among r.types x.kind (owned_is_document r x x.series refl b owned))

-- those among the objects of the document types are all of them
pub copies_found : (r : Repository) (u : List ℕ) (folder : Option Oid) → IsWellFormed r
    → found_among (λ x. is_copy r folder x && reads r u x) r (of_types r (document_types r.types)) ≡ copies r u folder
copies_found r u folder w = found_all (object_at r) (λ x. is_copy r folder x && reads r u x) (is_of_types (document_types r.types)) r.objects
    (all_there r.objects w.numbers.0)
    (All-weaker (λ x. Belongs r x x.series) (λ x. (is_copy r folder x && reads r u x) ≡ true → is_of_types (document_types r.types) x ≡ true) (λ x b. copy_typed r u folder x b) r.objects w.documents)
