-- What is there: objects and series under their numbers, their base types and their names.
use Rattle.std.specs.Prelude.{◌≡◌, ◌<◌, true, false, if◌then◌else◌, ◌⊎◌, List, [], ◌∷◌, find, All, Option, Some, None, IfSome, option_map, unwrap_or, bytes_eq, codes}
use Rattle.std.proofs.Common.{refl, sym, ap, subst, ◌∙◌, inl, inr, ⊎_elim, arith}
use Rattle.std.proofs.lemmas.Bool.{both_ways}
use Rattle.std.proofs.lemmas.List.Elements.{All-nil, All-cons, All-weaker}
use Rattle.cm_base.specs.declared.number.Oid.{Oid}
use Rattle.cm_base.specs.declared.object.Object.{Object}
use Rattle.cm_base.specs.declared.series.Series.{Series}
use Rattle.cm_types.specs.declared.definition.BaseType.{BaseType}
use Rattle.cm_types.specs.declared.definition.BaseType.TheVariants as bases
use Rattle.cm_types.specs.declared.property.PropDef.{PropDef}
use Rattle.cm_types.specs.Types.{same_base, base_of}
use Rattle.cm_types.specs.Properties.{value_in, is_faulty}
use Rattle.cmis_spec.specs.Repository.{Repository, same, object_at, series_at, is_a, entry_of, entry_name, name_of}
use Rattle.cmis_spec.specs.Values.{words, texts}
use Rattle.cmis_spec.specs.Well.{Apart, IsThere, IsBaseAt, IsSeriesAt, IsEntryAt, HasNumbers, HasSeriesNumbers, HasFirsts, HasDocuments, Belongs, IsKept, HasAccess, IsAccess}
use Rattle.cmis_laws.proofs.Lists.{by_test, find_yes, find_no, found_holds, found_passes, same_eq, same_refl, differ, some_eq, all_zip}

-- ---- base types

base_eq : (a b : BaseType) → same_base a b ≡ true → a ≡ b
base_eq a b h = grind (arith, h)

-- an object has one base type
pub not_both : (r : Repository) (x : Object) (a b : BaseType) → same_base a b ≡ false → is_a r a x ≡ true → is_a r b x ≡ false
not_both r x a b other h = by (base_of r.types x.kind) h
  where
    by : (o : Option BaseType) → unwrap_or (option_map (same_base a) o) false ≡ true → unwrap_or (option_map (same_base b) o) false ≡ false
    by None h = refl
    by (Some c) h = by_test (same_base b c)
        (λ e. absurd (both_ways (same_base a b) other (subst (λ d. same_base a d ≡ true) (sym (base_eq b c e)) h)))
        (λ e. e)

-- ---- numbers

pub is_other : (a b : Oid) → a.0 < b.0 → same a b ≡ false
is_other a b l = differ a b (λ e. let k : a.0 ≡ b.0 = ap (λ n. n.0) e in omega (arith, k, l))

pub is_other' : (a b : Oid) → a.0 < b.0 → same b a ≡ false
is_other' a b l = differ b a (λ e. let k : b.0 ≡ a.0 = ap (λ n. n.0) e in omega (arith, k, l))

-- the number under which an object is found is its own
pub number_found : (r : Repository) (n : Oid) (x : Object) → object_at r n ≡ Some x → x.id ≡ n
number_found r n x h = same_eq x.id n (found_passes (λ y. same y.id n) r.objects x h)

pub series_found : (r : Repository) (n : Oid) (s : Series) → series_at r n ≡ Some s → s.id ≡ n
series_found r n s h = same_eq s.id n (found_passes (λ t. same t.id n) r.series s h)

-- numbers that are there are below the next
pub object_below : (r : Repository) (n : Oid) (y : Object) → HasNumbers r → object_at r n ≡ Some y → n.0 < r.next
object_below r n y h e = subst (λ m. m.0 < r.next) (number_found r n y e) (found_holds (λ x. x.id.0 < r.next) (λ x. same x.id n) r.objects y h.1 e)

pub series_below : (r : Repository) (n : Oid) (s : Series) → HasSeriesNumbers r → series_at r n ≡ Some s → n.0 < r.next
series_below r n s h e = subst (λ m. m.0 < r.next) (series_found r n s e) (found_holds (λ x. x.id.0 < r.next) (λ x. same x.id n) r.series s h.1 e)

pub entry_below : (r : Repository) (n : Oid) → HasNumbers r → HasSeriesNumbers r → IsEntryAt r n → n.0 < r.next
entry_below r n h k (inl e) = object_below r n e.0 h e.1
entry_below r n h k (inr (inl e)) = object_below r n e.0 h e.1
entry_below r n h k (inr (inr e)) = series_below r n e.0 k e.1

-- and so are those of the access lists
pub lists_below : (r : Repository) → HasNumbers r → HasSeriesNumbers r → HasAccess r → All (λ l. l.at.0 < r.next) r.access
lists_below r h k a = All-weaker (IsAccess r) (λ l. l.at.0 < r.next) (λ l i. ⊎_elim (λ t. object_below r l.at t.0 h t.1) (λ t. series_below r l.at t.0 k t.1) i.0) r.access a.1

-- each object is found by its number
pub all_there : (xs : List Object) → Apart (λ x y. x.id.0 < y.id.0) xs → All (λ x. find (λ y. same y.id x.id) xs ≡ Some x) xs
all_there [] a = All-nil (λ x. find (λ y. same y.id x.id) [] ≡ Some x)
all_there (x ∷ xs) a = All-cons (λ z. find (λ y. same y.id z.id) (x ∷ xs) ≡ Some z) x xs (find_yes (λ y. same y.id x.id) x xs (same_refl x.id))
    (all_zip (λ z. x.id.0 < z.id.0) (λ z. find (λ y. same y.id z.id) xs ≡ Some z) (λ z. find (λ y. same y.id z.id) (x ∷ xs) ≡ Some z) xs
    (λ z l e. find_no (λ y. same y.id z.id) x xs (is_other x.id z.id l) ∙ e) a.0 (all_there xs a.1))

-- ---- what has a name

-- an object or a series has the number
abbrev pub IsNamed : Repository → Oid → Type 0
IsNamed r n = IsThere r n ⊎ IsSeriesAt r n

pub entry_is_named : (r : Repository) (n : Oid) → IsEntryAt r n → IsNamed r n
entry_is_named r n (inl h) = inl (h.0, h.1)
entry_is_named r n (inr (inl h)) = inl (h.0, h.1)
entry_is_named r n (inr (inr h)) = inr h

pub belongs_is_named : (r : Repository) (x : Object) (o : Option Oid) → object_at r x.id ≡ Some x → Belongs r x o → IsNamed r (unwrap_or o x.id)
belongs_is_named r x None there b = inl (x, there)
belongs_is_named r x (Some n) there b = inr (b.1.0, b.1.1)

-- an object's values are judged by its name alone, besides what is kept with it
pub kept_by_name : (r r' : Repository) (defs : List PropDef) (x : Object) → name_of r' x ≡ name_of r x → IsKept r defs x → IsKept r' defs x
kept_by_name r r' defs x e k = subst (λ name. All (λ d. is_faulty d (if bytes_eq d.id (codes "cmis:name") then words name
    else if bytes_eq d.id (codes "cmis:objectTypeId") then words x.kind
    else if bytes_eq d.id (codes "cmis:secondaryObjectTypeIds") then texts x.secondary
    else value_in x.values d.id) ≡ false) defs) (sym e) k

-- where the entries keep their names, the objects do
pub name_by_entry : (r r' : Repository) (x : Object) → entry_name r' (entry_of x) ≡ entry_name r (entry_of x) → name_of r' x ≡ name_of r x
name_by_entry r r' x e = ap (λ name. unwrap_or x.name name) e

-- ---- folders

-- the entry of a folder is its own number
pub entry_folder : (r : Repository) (x : Object) (o : Option Oid) → Belongs r x o → is_a r bases.Folder x ≡ true → unwrap_or o x.id ≡ x.id
entry_folder r x None b h = refl
entry_folder r x (Some n) b h = absurd (both_ways (is_a r bases.Document x) (not_both r x bases.Folder bases.Document refl h) b.0)

-- a series has no folder's number
pub series_other : (r : Repository) (n : Oid) → HasFirsts r → HasDocuments r → IsSeriesAt r n → (h : Oid) → IsBaseAt r bases.Folder h → same n h ≡ false
series_other r n firsts docs s h k = differ n h (λ e.
    let id : s.0.id ≡ n = series_found r n s.0 s.1 in
    let first : IfSome (object_at r s.0.id) (λ z. z.series ≡ Some s.0.id) = found_holds (λ t. IfSome (object_at r t.id) (λ z. z.series ≡ Some t.id)) (λ t. same t.id n) r.series s.0 firsts s.1 in
    let own : k.0.series ≡ Some s.0.id = subst (λ o. IfSome o (λ z. z.series ≡ Some s.0.id)) (ap (object_at r) (id ∙ e) ∙ k.1) first in
    let belongs : Belongs r k.0 (Some s.0.id) = subst (Belongs r k.0) own (found_holds (λ z. Belongs r z z.series) (λ z. same z.id h) r.objects k.0 docs k.1) in
    both_ways (is_a r bases.Document k.0) (not_both r k.0 bases.Folder bases.Document refl k.2) belongs.0)

-- two objects under one number are one
pub one_there : (r : Repository) (n : Oid) (x y : Object) → object_at r n ≡ Some x → object_at r n ≡ Some y → x ≡ y
one_there r n x y a b = some_eq x y (sym a ∙ b)

-- what is no folder has no folder's number
pub object_other : (r : Repository) (n : Oid) (x : Object) → object_at r n ≡ Some x → is_a r bases.Folder x ≡ false → (h : Oid) → IsBaseAt r bases.Folder h → same n h ≡ false
object_other r n x there isnt h k = differ n h (λ e. both_ways (is_a r bases.Folder x) isnt
    (subst (λ z. is_a r bases.Folder z ≡ true) (sym (one_there r n x k.0 there (ap (object_at r) e ∙ k.1))) k.2))

-- an item or a series that is filed has no folder's number
abbrev pub IsLeafAt : Repository → Oid → Type 0
IsLeafAt r n = IsBaseAt r bases.Item n ⊎ IsSeriesAt r n

pub leaf_other : (r : Repository) (n : Oid) → HasFirsts r → HasDocuments r → IsLeafAt r n → (h : Oid) → IsBaseAt r bases.Folder h → same n h ≡ false
leaf_other r n firsts docs (inl i) h k = object_other r n i.0 i.1 (not_both r i.0 bases.Item bases.Folder refl i.2) h k
leaf_other r n firsts docs (inr s) h k = series_other r n firsts docs s h k

-- the entry of what is no folder is no folder's number
pub entry_other : (r : Repository) (x : Object) (o : Option Oid) → HasFirsts r → HasDocuments r → Belongs r x o → object_at r x.id ≡ Some x → is_a r bases.Folder x ≡ false
    → (h : Oid) → IsBaseAt r bases.Folder h → same (unwrap_or o x.id) h ≡ false
entry_other r x None firsts docs b there isnt h k = object_other r x.id x there isnt h k
entry_other r x (Some n) firsts docs b there isnt h k = series_other r n firsts docs (b.1.0, b.1.1) h k
