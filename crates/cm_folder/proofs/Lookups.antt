-- What the indexes tell of the filing.
use Rattle.std.proofs.Common.{◌≡◌, ℕ, zero, suc, ◌-◌, option_map, option_and_then, ◌<◌, ◌==◌, ◌&&◌, ◌||◌, Bool, true, false, not, cond, List, [], ◌∷◌, ◌++◌, map, filter, is_some, if◌then◌else◌, Option, None, Some, unwrap_or, ap, subst, refl, ◌∙◌, arith, Ordering, Less, Equal, Greater, is_eq, bytes_eq, codes, T}
use Rattle.std.specs.List.{list_any}
use Rattle.std.specs.List.{find as find_by}
use Rattle.core.specs.Ordering.{nat_cmp, eq_by_cmp, ordering_then, ordering_reverse}
use Rattle.core.specs.Cmp.{unsigned_tied}
use Rattle.core.specs.Cmp.Lexicographic.{slice_cmp, nat_list_cmp_total}
use Rattle.core.specs.FinMap.Entries.{find, is_sorted}
use Rattle.std.proofs.lemmas.Map.Text.{is_eq-slice_cmp}
use Rattle.cm_base.specs.declared.number.Oid.{Oid}
use Rattle.cm_base.specs.declared.filing.Filed.{Filed}
use Rattle.cmis_spec.specs.Repository.{same, root, path_by}
use Rattle.cm_map.specs.Buckets.{find_in}
use Rattle.cm_folder.specs.declared.entry.FilingEntry.{FilingEntry}
use Rattle.cm_folder.specs.Filings.{pair_of, is_entry, is_filed_in, is_name_taken, child_named, children_in, folders_in, folder_of, folders_up_in}
use Rattle.place_laws.specs.Places.{placed}
use Rattle.place_laws.proofs.Clearing.{all_values}
use Rattle.cm_folder.specs.Places.{name_order, name_key, child_key, folder_key, is_folder_at, names_under, IsIndexed}
use Rattle.cm_folder.specs.Trees.{is_folder_in}
use Rattle.place_laws.proofs.Placing.{any_placed, any_at, by_test, placed_at, bucket_is, values_are}

flip : (a b : ℕ) → (b == a) ≡ (a == b)
flip a b = grind arith

and_turned : (a b : Bool) → (a && b) ≡ (b && a)
and_turned true true = refl
and_turned true false = refl
and_turned false true = refl
and_turned false false = refl

pub any_by : {A : Type 0} (p q : A → Bool) → ((a : A) → p a ≡ q a) → (xs : List A) → list_any p xs ≡ list_any q xs
any_by p q e [] = refl
any_by p q e (x ∷ xs) = λ i. e x i || any_by p q e xs i

-- the child is filed in the folder
pub filed_same : (f c : Oid) (es : List (ℕ × FilingEntry)) → list_any (λ e. same e.1 f) (placed nat_cmp child_key (λ e. e.folder) c.0 es) ≡ is_filed_in (map (λ e. e.1) es) f c
filed_same f c es =
    any_placed nat_cmp child_key (λ e. e.folder) (λ x. same x f) c.0 es
    ∙ any_by (λ (e : FilingEntry). eq_by_cmp nat_cmp c.0 e.child.0 && same e.folder f) (is_entry f c) (λ e. and_turned (eq_by_cmp nat_cmp c.0 e.child.0) (same e.folder f) ∙ ap (λ b. same e.folder f && b) (unsigned_tied c.0 e.child.0 ∙ flip e.child.0 c.0)) (map (λ e. e.1) es)

pub tied_then : (a b : Ordering) → is_eq (ordering_then a b) ≡ (is_eq a && is_eq b)
tied_then Less b = refl
tied_then Equal b = refl
tied_then Greater b = refl

text_flip : (s t : List ℕ) → is_eq (slice_cmp nat_cmp s t) ≡ bytes_eq t s
text_flip s t = ap is_eq (nat_list_cmp_total.antisymm s t) ∙ turned (slice_cmp nat_cmp t s) ∙ is_eq-slice_cmp t s
  where
    turned : (r : Ordering) → is_eq (ordering_reverse r) ≡ is_eq r
    turned Less = refl
    turned Equal = refl
    turned Greater = refl

and_moved : (a b c : Bool) → ((a && b) && c) ≡ ((a && c) && b)
and_moved true b c = and_turned b c
and_moved false b c = refl

-- another child of the folder has the name
pub taken_same : (f c : Oid) (name : List ℕ) (es : List (ℕ × FilingEntry)) → list_any (λ e. not (same e.1 c)) (placed name_order name_key (λ e. e.child) (f.0, name) es) ≡ is_name_taken (map (λ e. e.1) es) f c name
taken_same f c name es =
    any_placed name_order name_key (λ e. e.child) (λ x. not (same x c)) (f.0, name) es
    ∙ any_by (λ (e : FilingEntry). eq_by_cmp name_order (f.0, name) (e.folder.0, e.name) && not (same e.child c)) (λ (e : FilingEntry). same e.folder f && not (same e.child c) && bytes_eq e.name name)
    (λ (e : FilingEntry). ap (λ b. b && not (same e.child c)) (tied_then (nat_cmp f.0 e.folder.0) (slice_cmp nat_cmp name e.name) ∙ (λ i. (unsigned_tied f.0 e.folder.0 ∙ flip e.folder.0 f.0) i && text_flip name e.name i)) ∙ and_moved (same e.folder f) (bytes_eq e.name name) (not (same e.child c)))
    (map (λ e. e.1) es)

-- the folders of a child, by their places
pub folders_of : (es : List (ℕ × FilingEntry)) (children inside : List (ℕ × List (ℕ × Oid))) (names : List (ℕ × List (List ℕ × List (ℕ × Oid)))) → IsIndexed es children inside names
    → (c : ℕ) (o : Option (List (ℕ × Oid))) → o ≡ find nat_cmp c children → T (is_sorted nat_cmp (unwrap_or o [])) → unwrap_or o [] ≡ placed nat_cmp child_key (λ e. e.folder) c es
folders_of es children inside names w c o e rising =
    ap (λ m. unwrap_or m []) e
    ∙ bucket_is nat_cmp child_key (λ e. e.folder) c es children w.sorted (subst (λ m. T (is_sorted nat_cmp (unwrap_or m []))) e rising) (w.children c)

-- the children of a folder under a name, by their places
pub names_of : (es : List (ℕ × FilingEntry)) (children inside : List (ℕ × List (ℕ × Oid))) (names : List (ℕ × List (List ℕ × List (ℕ × Oid)))) → IsIndexed es children inside names
    → (k : ℕ × List ℕ) → T (is_sorted nat_cmp (names_under names k)) → names_under names k ≡ placed name_order name_key (λ e. e.child) k es
names_of es children inside names w k rising = values_are name_order name_key (λ e. e.child) k es (names_under names k) w.sorted rising (w.names k)

pub named_in : (es : List (ℕ × FilingEntry)) (children inside : List (ℕ × List (ℕ × Oid))) (names : List (ℕ × List (List ℕ × List (ℕ × Oid)))) → IsIndexed es children inside names
    → (k : ℕ × List ℕ) (o : Option (List (ℕ × Oid))) → o ≡ find_in nat_cmp (slice_cmp nat_cmp) names k.0 k.1 → T (is_sorted nat_cmp (unwrap_or o [])) → unwrap_or o [] ≡ placed name_order name_key (λ e. e.child) k es
named_in es children inside names w k o e rising = ap (λ m. unwrap_or m []) e ∙ names_of es children inside names w k (subst (λ m. T (is_sorted nat_cmp (unwrap_or m []))) e rising)

-- the children of a folder, by their places
pub children_of : (es : List (ℕ × FilingEntry)) (children inside : List (ℕ × List (ℕ × Oid))) (names : List (ℕ × List (List ℕ × List (ℕ × Oid)))) → IsIndexed es children inside names
    → (f : ℕ) (o : Option (List (ℕ × Oid))) → o ≡ find nat_cmp f inside → T (is_sorted nat_cmp (unwrap_or o [])) → unwrap_or o [] ≡ placed nat_cmp folder_key (λ e. e.child) f es
children_of es children inside names w f o e rising =
    ap (λ m. unwrap_or m []) e
    ∙ bucket_is nat_cmp folder_key (λ e. e.child) f es inside w.sorted (subst (λ m. T (is_sorted nat_cmp (unwrap_or m []))) e rising) (w.folders f)

-- a test of the children of a folder
pub any_inside : (f : Oid) (t : Oid → Bool) (es : List (ℕ × FilingEntry)) → list_any (λ e. t e.1) (placed nat_cmp folder_key (λ e. e.child) f.0 es) ≡ list_any (λ e. same e.folder f && t e.child) (map (λ e. e.1) es)
any_inside f t es =
    any_placed nat_cmp folder_key (λ e. e.child) t f.0 es
    ∙ any_by (λ (e : FilingEntry). eq_by_cmp nat_cmp f.0 e.folder.0 && t e.child) (λ e. same e.folder f && t e.child) (λ e. ap (λ b. b && t e.child) (unsigned_tied f.0 e.folder.0 ∙ flip e.folder.0 f.0)) (map (λ e. e.1) es)

-- the child is filed as a folder
pub folder_same : (c : Oid) (es : List (ℕ × FilingEntry)) → T (is_sorted nat_cmp es) → list_any (λ d. is_folder_at es d.0) (placed nat_cmp child_key (λ e. e.folder) c.0 es) ≡ is_folder_in (map (λ e. e.1) es) c
folder_same c es h =
    any_at nat_cmp child_key (λ e. e.folder) (λ e. e.is_folder) c.0 es h
    ∙ any_by (λ (e : FilingEntry). eq_by_cmp nat_cmp c.0 e.child.0 && e.is_folder) (λ e. e.is_folder && same e.child c) (λ e. and_turned (eq_by_cmp nat_cmp c.0 e.child.0) e.is_folder ∙ ap (λ b. e.is_folder && b) (unsigned_tied c.0 e.child.0 ∙ flip e.child.0 c.0)) (map (λ e. e.1) es)

find_by_test : {A : Type 0} (p q : A → Bool) → ((a : A) → p a ≡ q a) → (xs : List A) → find_by p xs ≡ find_by q xs
find_by_test p q e [] = refl
find_by_test p q e (x ∷ xs) = λ i. cond (e x i) (Some x) (find_by_test p q e xs i)

and_true : (a : Bool) → (a && true) ≡ a
and_true true = refl
and_true false = refl

-- the child's first entry stands in the first of its places
pub first_same : (c : Oid) (es : List (ℕ × FilingEntry)) → T (is_sorted nat_cmp es)
    → option_and_then (λ p. find nat_cmp p es) (option_map (λ d. d.0) (find_by (λ d. true) (placed nat_cmp child_key (λ e. e.folder) c.0 es))) ≡ find_by (λ e. same e.child c) (map (λ e. e.1) es)
first_same c es h =
    placed_at nat_cmp child_key (λ e. e.folder) (λ x. true) c.0 es h
    ∙ find_by_test (λ (e : FilingEntry). eq_by_cmp nat_cmp c.0 e.child.0 && true) (λ e. same e.child c) (λ e. and_true (eq_by_cmp nat_cmp c.0 e.child.0) ∙ (unsigned_tied c.0 e.child.0 ∙ flip e.child.0 c.0)) (map (λ e. e.1) es)

-- and that in a folder in the first place that has the folder
pub under_same : (f c : Oid) (es : List (ℕ × FilingEntry)) → T (is_sorted nat_cmp es)
    → option_and_then (λ p. find nat_cmp p es) (option_map (λ d. d.0) (find_by (λ d. same d.1 f) (placed nat_cmp child_key (λ e. e.folder) c.0 es))) ≡ find_by (is_entry f c) (map (λ e. e.1) es)
under_same f c es h =
    placed_at nat_cmp child_key (λ e. e.folder) (λ x. same x f) c.0 es h
    ∙ find_by_test (λ (e : FilingEntry). eq_by_cmp nat_cmp c.0 e.child.0 && same e.folder f) (is_entry f c) (λ e. and_turned (eq_by_cmp nat_cmp c.0 e.child.0) (same e.folder f) ∙ ap (λ b. same e.folder f && b) (unsigned_tied c.0 e.child.0 ∙ flip e.child.0 c.0)) (map (λ e. e.1) es)

-- one place more: the first that has the folder
pub place_more : (f : Oid) (ys : List (ℕ × Oid)) (y : ℕ × Oid)
    → (if is_some (option_map (λ e. e.0) (find_by (λ e. same e.1 f) ys)) then option_map (λ e. e.0) (find_by (λ e. same e.1 f) ys) else if same y.1 f then Some y.0 else None) ≡ option_map (λ e. e.0) (find_by (λ e. same e.1 f) (ys ++ y ∷ []))
place_more f [] y = elim (same y.1 f) as (λ b. (if b then Some y.0 else None) ≡ option_map (λ (e : ℕ × Oid). e.0) (cond b (Some y) None)) [ true ↦ refl | false ↦ refl ]
place_more f (z ∷ ys) y = elim (same z.1 f) as (λ b. (if is_some (option_map (λ (e : ℕ × Oid). e.0) (cond b (Some z) (find_by (λ e. same e.1 f) ys))) then option_map (λ (e : ℕ × Oid). e.0) (cond b (Some z) (find_by (λ e. same e.1 f) ys)) else if same y.1 f then Some y.0 else None) ≡ option_map (λ (e : ℕ × Oid). e.0) (cond b (Some z) (find_by (λ e. same e.1 f) (ys ++ y ∷ [])))) [
  | true ↦ refl
  | false ↦ place_more f ys y
]

-- the first of the values that have a key
first_value : {K X : Type 0} (R : K → K → Ordering) (key : FilingEntry → K) (value : FilingEntry → X) (k : K) (t : FilingEntry → Bool) → ((e : FilingEntry) → eq_by_cmp R k (key e) ≡ t e) → (es : List (ℕ × FilingEntry))
    → option_map (λ d. d.1) (find_by (λ d. true) (placed R key value k es)) ≡ option_map value (find_by t (map (λ e. e.1) es))
first_value R key value k t alike [] = refl
first_value R key value k t alike (e ∷ es) = by_test (t e.1)
    (λ h. rw (alike e.1 ∙ h, h) refl)
    (λ h. rw (alike e.1 ∙ h, h) (first_value R key value k t alike es))

pub name_ties : (f : Oid) (name : List ℕ) (e : FilingEntry) → eq_by_cmp name_order (f.0, name) (name_key e) ≡ (same e.folder f && bytes_eq e.name name)
name_ties f name e = tied_then (nat_cmp f.0 e.folder.0) (slice_cmp nat_cmp name e.name) ∙ (λ i. (unsigned_tied f.0 e.folder.0 ∙ flip e.folder.0 f.0) i && text_flip name e.name i)

pub named_same : (f : Oid) (name : List ℕ) (es : List (ℕ × FilingEntry)) → option_map (λ d. d.1) (find_by (λ d. true) (placed name_order name_key (λ e. e.child) (f.0, name) es)) ≡ child_named (map (λ e. e.1) es) f name
named_same f name es = first_value name_order name_key (λ e. e.child) (f.0, name) (λ e. same e.folder f && bytes_eq e.name name) (name_ties f name) es

pub children_same : (f : Oid) (es : List (ℕ × FilingEntry)) → map (λ d. d.1) (placed nat_cmp folder_key (λ e. e.child) f.0 es) ≡ children_in (map (λ e. e.1) es) f
children_same f es = all_values nat_cmp folder_key (λ e. e.child) f.0 (λ e. same e.folder f) (λ e. unsigned_tied f.0 e.folder.0 ∙ flip e.folder.0 f.0) es

pub folders_same : (c : Oid) (es : List (ℕ × FilingEntry)) → map (λ d. d.1) (placed nat_cmp child_key (λ e. e.folder) c.0 es) ≡ folders_in (map (λ e. e.1) es) c
folders_same c es = all_values nat_cmp child_key (λ e. e.folder) c.0 (λ e. same e.child c) (λ e. unsigned_tied c.0 e.child.0 ∙ flip e.child.0 c.0) es

-- the folder of a child is that of its first entry
pub folder_first : (c : Oid) (es : List FilingEntry) → folder_of es c ≡ option_map (λ e. e.folder) (find_by (λ e. same e.child c) es)
folder_first c [] = refl
folder_first c (e ∷ es) = elim (same e.child c) as (λ b. option_map (λ (p : Filed). p.folder) (cond b (Some (pair_of e)) (find_by (λ (p : Filed). same p.child c) (map pair_of es))) ≡ option_map (λ (e : FilingEntry). e.folder) (cond b (Some e) (find_by (λ e. same e.child c) es))) [
  | true ↦ refl
  | false ↦ folder_first c es
]

-- in one of the child's folders another child has the name
pub taken_in_one : (c : Oid) (t : Oid → Bool) (es : List (ℕ × FilingEntry)) → list_any (λ e. t e.1) (placed nat_cmp child_key (λ e. e.folder) c.0 es) ≡ list_any (λ e. same e.child c && t e.folder) (map (λ e. e.1) es)
taken_in_one c t es =
    any_placed nat_cmp child_key (λ e. e.folder) t c.0 es
    ∙ any_by (λ (e : FilingEntry). eq_by_cmp nat_cmp c.0 e.child.0 && t e.folder) (λ e. same e.child c && t e.folder) (λ e. ap (λ b. b && t e.folder) (unsigned_tied c.0 e.child.0 ∙ flip e.child.0 c.0)) (map (λ e. e.1) es)

pub any_values : {A : Type 0} (p : A → Bool) (es : List (ℕ × A)) → list_any (λ e. p e.1) es ≡ list_any p (map (λ e. e.1) es)
any_values p [] = refl
any_values p (e ∷ es) = ap (λ b. p e.1 || b) (any_values p es)

-- one folder further up
pub up_none : (a : Oid) (n : ℕ) (list : List FilingEntry) (f : Oid) → n ≡ 0 → list_any (same a) (folders_up_in n list f) ≡ false
up_none a zero list f e = refl
up_none a (suc n) list f e = absurd (omega (arith, e))

pub up_step : (a : Oid) (n : ℕ) (list : List FilingEntry) (f : Oid) → 0 < n → list_any (same a) (folders_up_in n list f) ≡ (same a f || list_any (same a) (unwrap_or (option_map (folders_up_in (n - 1) list) (folder_of list f)) []))
up_step a zero list f lt = absurd (omega (arith, lt))
up_step a (suc n) list f lt = let e : n ≡ suc n - 1 = omega arith in ap (λ m. same a f || list_any (same a) (unwrap_or (option_map (folders_up_in m list) (folder_of list f)) [])) e

-- one step more of a path
pub path_step : (m n : ℕ) (up : Oid → Option Oid) (name : Oid → List ℕ) (f : Oid) → suc n ≡ m → same f root ≡ false
    → unwrap_or (option_map (path_by n up name) (up f)) [] ++ codes "/" ++ name f ≡ path_by m up name f
path_step m n up name f e h = subst (λ k. unwrap_or (option_map (path_by n up name) (up f)) [] ++ codes "/" ++ name f ≡ path_by k up name f) e (rw h refl)
