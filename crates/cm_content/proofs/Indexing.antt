-- What the index tells of the renditions, and what changes make of it.
use Rattle.std.proofs.Common.{◌≡◌, ℕ, ◌<◌, ◌==◌, ◌&&◌, ◌||◌, Bool, true, false, not, cond, List, [], ◌∷◌, ◌++◌, All, map, filter, filter_map, find, if◌then◌else◌, Option, None, Some, option_map, option_and_then, unwrap_or, inl, inr, sym, ap, subst, refl, ◌∙◌, arith, T}
use Rattle.std.specs.List.{list_any}
use Rattle.core.specs.Ordering.{nat_cmp, eq_by_cmp}
use Rattle.core.specs.Cmp.{unsigned_tied}
use Rattle.core.specs.FinMap.Entries as entries
use Rattle.std.proofs.lemmas.Bool.{eqb-true}
use Rattle.std.proofs.lemmas.List.Elements.{All-head, All-tail}
use Rattle.cm_base.specs.declared.number.Oid.{Oid}
use Rattle.cm_base.specs.declared.content.Rendition.{Rendition}
use Rattle.cmis_spec.specs.Repository.{same}
use Rattle.cm_map.specs.Buckets.{find_in}
use Rattle.cm_map.specs.Keyed.{keyed, Rises}
use Rattle.place_laws.specs.Places.{placed, value_at}
use Rattle.place_laws.proofs.Placing.{by_test, bucket_is, tells_changed}
use Rattle.place_laws.proofs.Clearing.{nothing_there}
use Rattle.place_laws.proofs.Numbered.{found_keyed, found_last, found_without, members_found, numbers_placed, sorted_keyed, taken_out}
use Rattle.cm_content.specs.Indexed.{number_of, document_key, member_at, IsIndexOf}

abbrev Index : Type 0
Index = List (ℕ × List (ℕ × Unit {0}))

-- ---- a rendition more

-- its number is above all others, so none is found under it
none_there : (n : ℕ) (ds : List Rendition) → All (λ d. d.id.0 < n) ds → member_at ds n ≡ None
none_there n [] h = refl
none_there n (d ∷ ds) h =
    let lt : d.id.0 < n = All-head (λ d. d.id.0 < n) d ds h in
    let other : (d.id.0 == n) ≡ false = by_test (d.id.0 == n) (λ e. let k : d.id.0 ≡ n = eqb-true d.id.0 n e in absurd (omega (arith, k, lt))) (λ e. e) in
    ap (λ b. cond b (Some d) (member_at ds n)) other ∙ none_there n ds (All-tail (λ d. d.id.0 < n) d ds h)

pub index_last : (ds es : List Rendition) (d : Rendition) (old new : Index) → IsIndexOf ds old → All (λ x. x.id.0 < d.id.0) ds → es ≡ ds ++ d ∷ []
    → ((k p : ℕ) → find_in nat_cmp nat_cmp new k p ≡ (if eq_by_cmp nat_cmp k d.of.0 && eq_by_cmp nat_cmp p d.id.0 then Some tt else find_in nat_cmp nat_cmp old k p)) → IsIndexOf es new
index_last ds es d old new tells above at is =
    tells_changed nat_cmp document_key (λ x. tt) (member_at ds) (member_at es) d.id.0 d (Some d) (find_in nat_cmp nat_cmp old) (find_in nat_cmp nat_cmp new) tells (inl (none_there d.id.0 ds above, refl))
    (λ p. ap (λ l. member_at l p) at ∙ found_last number_of p d ds above) is

-- ---- a rendition less

pub index_without : (n : ℕ) (ds : List Rendition) (d : Rendition) (old new : Index) → IsIndexOf ds old → member_at ds n ≡ Some d
    → ((k p : ℕ) → find_in nat_cmp nat_cmp new k p ≡ (if eq_by_cmp nat_cmp k d.of.0 && eq_by_cmp nat_cmp p n then None else find_in nat_cmp nat_cmp old k p)) → IsIndexOf (filter (λ d. not (d.id.0 == n)) ds) new
index_without n ds d old new tells there is =
    tells_changed nat_cmp document_key (λ x. tt) (member_at ds) (member_at (filter (λ d. not (d.id.0 == n)) ds)) n d None (find_in nat_cmp nat_cmp old) (find_in nat_cmp nat_cmp new) tells (inr (there, refl))
    (λ p. found_without number_of p n ds) is

pub index_stays : (n : ℕ) (ds : List Rendition) (old new : Index) → IsIndexOf ds old → member_at ds n ≡ None → new ≡ old → IsIndexOf (filter (λ d. not (d.id.0 == n)) ds) new
index_stays n ds old new tells none at k p =
    ap (λ s. find_in nat_cmp nat_cmp s k p) at
    ∙ (tells k p ∙ ap (value_at nat_cmp document_key (λ x. tt) k) (nothing_there n (member_at ds) none p ∙ sym (found_without number_of p n ds)))

-- ---- those of a document

flip : (a b : ℕ) → (b == a) ≡ (a == b)
flip a b = grind arith

tied_as : (o n : Oid) → eq_by_cmp nat_cmp o.0 n.0 ≡ same n o
tied_as o n = unsigned_tied o.0 n.0 ∙ flip n.0 o.0

-- what the index has under a document
under : (n : Oid) (ds : List Rendition) (index : Index) → IsIndexOf ds index → Rises number_of ds
    → (o : Option (List (ℕ × Unit {0}))) → o ≡ entries.find nat_cmp n.0 index → T (entries.is_sorted nat_cmp (unwrap_or o [])) → unwrap_or o [] ≡ placed nat_cmp document_key (λ x. tt) n.0 (keyed number_of ds)
under n ds index tells rise o at sorted =
    ap (λ m. unwrap_or m []) at
    ∙ bucket_is nat_cmp document_key (λ x. tt) n.0 (keyed number_of ds) index (sorted_keyed number_of ds rise) (subst (λ m. T (entries.is_sorted nat_cmp (unwrap_or m []))) at sorted)
    (λ p. tells n.0 p ∙ ap (value_at nat_cmp document_key (λ x. tt) n.0) (sym (found_keyed number_of p ds)))

pub document_found : (n : Oid) (ds : List Rendition) (index : Index) → IsIndexOf ds index → Rises number_of ds
    → (o : Option (List (ℕ × Unit {0}))) → o ≡ entries.find nat_cmp n.0 index → T (entries.is_sorted nat_cmp (unwrap_or o []))
    → filter_map (λ e. find (λ d. d.id.0 == e.0) ds) (unwrap_or o []) ≡ filter (λ d. same d.of n) ds
document_found n ds index tells rise o at sorted =
    ap (filter_map (λ e. find (λ d. d.id.0 == e.0) ds)) (under n ds index tells rise o at sorted)
    ∙ members_found number_of nat_cmp document_key (λ x. tt) n.0 (λ d. same d.of n) (λ d. tied_as n d.of) ds rise

pub document_gone : (n : Oid) (ds : List Rendition) (index : Index) → IsIndexOf ds index → Rises number_of ds
    → (o : Option (List (ℕ × Unit {0}))) → o ≡ entries.find nat_cmp n.0 index → T (entries.is_sorted nat_cmp (unwrap_or o []))
    → filter (λ d. not (list_any (λ q. d.id.0 == q) (map (λ e. e.0) (unwrap_or o [])))) ds ≡ filter (λ d. not (same d.of n)) ds
document_gone n ds index tells rise o at sorted =
    ap (λ l. filter (λ d. not (list_any (λ q. d.id.0 == q) l)) ds)
    (ap (map (λ e. e.0)) (under n ds index tells rise o at sorted) ∙ numbers_placed number_of nat_cmp document_key (λ x. tt) n.0 (λ d. same d.of n) (λ d. tied_as n d.of) ds)
    ∙ taken_out number_of (λ d. same d.of n) ds rise

pub all_pass : {A : Type 0} (xs : List A) → filter (λ x. true) xs ≡ xs
all_pass [] = refl
all_pass (x ∷ xs) = ap (λ l. x ∷ l) (all_pass xs)
