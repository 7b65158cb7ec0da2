-- The indexes after an entry more, one less, and the change of a child's entries.
use Rattle.std.proofs.Common.{◌≡◌, ℕ, ◌+◌, ◌≤◌, ◌==◌, ◌||◌, ◌&&◌, Bool, true, false, cond, List, [], ◌∷◌, ◌++◌, map, filter_map, Option, None, Some, is_some, option_map, option_and_then, unwrap_or, sym, ap, subst, refl, ◌∙◌, arith, T, if◌then◌else◌}
use Rattle.std.specs.List.{list_any}
use Rattle.core.specs.Ordering.{nat_cmp, eq_by_cmp}
use Rattle.core.specs.Cmp.{unsigned_tied}
use Rattle.core.specs.FinMap.Entries.{put, find, is_sorted}
use Rattle.std.proofs.lemmas.Bool.{eqb-true}
use Rattle.cm_base.specs.declared.number.Oid.{Oid}
use Rattle.cmis_spec.specs.Repository.{same}
use Rattle.cm_map.specs.Buckets.{find_in}
use Rattle.cm_folder.specs.declared.entry.FilingEntry.{FilingEntry}
use Rattle.cm_folder.specs.declared.edit.Edit.{Edit}
use Rattle.cm_folder.specs.Filings.{edit_of, edit_child}
use Rattle.place_laws.specs.Places.{value_at}
use Rattle.cm_folder.specs.Places.{name_order, name_key, child_key, folder_key, find_named, IsIndexed}
use Rattle.place_laws.proofs.Placing.{by_test, find_under, find-put_at, Turns, tells_changed}

-- an entry that comes or goes keeps the indexes
pub indexed_changed : (es fs : List (ℕ × FilingEntry)) (n : ℕ) (e : FilingEntry) (now : Option FilingEntry) (children more inside inner : List (ℕ × List (ℕ × Oid))) (names others : List (ℕ × List (List ℕ × List (ℕ × Oid))))
    → IsIndexed es children inside names → Turns e (find nat_cmp n es) now → T (is_sorted nat_cmp fs)
    → ((p : ℕ) → find nat_cmp p fs ≡ cond (p == n) now (find nat_cmp p es))
    → ((c p : ℕ) → find_in nat_cmp nat_cmp more c p ≡ (if eq_by_cmp nat_cmp c e.child.0 && eq_by_cmp nat_cmp p n then option_map (λ d. d.folder) now else find_in nat_cmp nat_cmp children c p))
    → ((f p : ℕ) → find_in nat_cmp nat_cmp inner f p ≡ (if eq_by_cmp nat_cmp f e.folder.0 && eq_by_cmp nat_cmp p n then option_map (λ d. d.child) now else find_in nat_cmp nat_cmp inside f p))
    → ((k : ℕ × List ℕ) (p : ℕ) → find_named others k p ≡ (if eq_by_cmp name_order k (e.folder.0, e.name) && eq_by_cmp nat_cmp p n then option_map (λ d. d.child) now else find_named names k p))
    → IsIndexed fs more inner others
indexed_changed es fs n e now children more inside inner names others w turns sorted found c f k = record {
  sorted = sorted;
  children = tells_changed nat_cmp child_key (λ d. d.folder) (λ p. find nat_cmp p es) (λ p. find nat_cmp p fs) n e now (find_in nat_cmp nat_cmp children) (find_in nat_cmp nat_cmp more) w.children turns found c;
  folders = tells_changed nat_cmp folder_key (λ d. d.child) (λ p. find nat_cmp p es) (λ p. find nat_cmp p fs) n e now (find_in nat_cmp nat_cmp inside) (find_in nat_cmp nat_cmp inner) w.folders turns found f;
  names = tells_changed name_order name_key (λ d. d.child) (λ p. find nat_cmp p es) (λ p. find nat_cmp p fs) n e now (find_named names) (find_named others) w.names turns found k;
}

self_test : (n : ℕ) → (n == n) ≡ true
self_test n = grind arith

-- where nothing is in a place, nothing goes
pub nothing_there : {X : Type 0} (n : ℕ) (es : List (ℕ × X)) → find nat_cmp n es ≡ None → (p : ℕ) → find nat_cmp p es ≡ cond (p == n) None (find nat_cmp p es)
nothing_there n es none p = by_test (p == n)
    (λ t. rw t (subst (λ m. find nat_cmp m es ≡ None) (sym (eqb-true p n t)) none))
    (λ t. rw t refl)

-- a place that was cleared is free
pub cleared_free : {X : Type 0} (n : ℕ) (es cs : List (ℕ × X)) → ((p : ℕ) → find nat_cmp p cs ≡ cond (p == n) None (find nat_cmp p es)) → find nat_cmp n cs ≡ None
cleared_free n es cs found = found n ∙ ap (λ b. cond b None (find nat_cmp n es)) (self_test n)

-- an entry in a place that was cleared
pub put_after : {X : Type 0} (n : ℕ) (e : X) (es cs fs : List (ℕ × X)) → ((p : ℕ) → find nat_cmp p cs ≡ cond (p == n) None (find nat_cmp p es)) → fs ≡ put nat_cmp n e cs
    → (p : ℕ) → find nat_cmp p fs ≡ cond (p == n) (Some e) (find nat_cmp p es)
put_after n e es cs fs found at p =
    ap (find nat_cmp p) at ∙ (find-put_at p n e cs ∙ by_test (p == n)
    (λ t. rw t refl)
    (λ t. rw t (found p ∙ rw t refl)))

any_last : {A : Type 0} (t : A → Bool) (xs : List A) (x : A) → list_any t (xs ++ x ∷ []) ≡ (t x || list_any t xs)
any_last t [] x = refl
any_last t (y ∷ ys) x = ap (λ b. t y || b) (any_last t ys x) ∙ turned (t y) (t x) (list_any t ys)
  where
    turned : (a b c : Bool) → (a || (b || c)) ≡ (b || (a || c))
    turned true true c = refl
    turned true false c = refl
    turned false b c = refl

-- one place more is changed
pub changed_more : {X Y : Type 0} (f : X → Option X) (es now fs : List (ℕ × X)) (ys : List (ℕ × Y)) (y : ℕ × Y) (new : Option X)
    → ((p : ℕ) → find nat_cmp p now ≡ cond (list_any (λ e. p == e.0) ys) (option_and_then f (find nat_cmp p es)) (find nat_cmp p es))
    → new ≡ option_and_then f (find nat_cmp y.0 es)
    → ((p : ℕ) → find nat_cmp p fs ≡ cond (p == y.0) new (find nat_cmp p now))
    → (p : ℕ) → find nat_cmp p fs ≡ cond (list_any (λ e. p == e.0) (ys ++ y ∷ [])) (option_and_then f (find nat_cmp p es)) (find nat_cmp p es)
changed_more f es now fs ys y new before is found p =
    found p ∙ (by_test (p == y.0)
    (λ t. rw t (is ∙ (ap (λ m. option_and_then f (find nat_cmp m es)) (sym (eqb-true p y.0 t))
    ∙ ap (λ b. cond b (option_and_then f (find nat_cmp p es)) (find nat_cmp p es)) (sym (any_last (λ e. p == e.0) ys y ∙ ap (λ b. b || list_any (λ e. p == e.0) ys) t)))))
    (λ t. rw t (before p
    ∙ ap (λ b. cond b (option_and_then f (find nat_cmp p es)) (find nat_cmp p es)) (sym (any_last (λ e. p == e.0) ys y ∙ ap (λ b. b || list_any (λ e. p == e.0) ys) t)))))

has_place : {X : Type 0} (p : ℕ) (b : List (ℕ × X)) → list_any (λ e. p == e.0) b ≡ is_some (find nat_cmp p b)
has_place p [] = refl
has_place p (e ∷ b) = by_test (eq_by_cmp nat_cmp p e.0)
    (λ t. rw (t, sym (unsigned_tied p e.0) ∙ t) refl)
    (λ t. rw (t, sym (unsigned_tied p e.0) ∙ t) (has_place p b))

-- the places of a child are those of its entries
pub changed_child : (edit : Edit) (c : Oid) (es : List (ℕ × FilingEntry)) (children inside : List (ℕ × List (ℕ × Oid))) (names : List (ℕ × List (List ℕ × List (ℕ × Oid)))) → IsIndexed es children inside names
    → (o : Option (List (ℕ × Oid))) → o ≡ find nat_cmp c.0 children
    → (p : ℕ) → cond (list_any (λ e. p == e.0) (unwrap_or o [])) (option_and_then (edit_of edit) (find nat_cmp p es)) (find nat_cmp p es) ≡ option_and_then (edit_child edit c) (find nat_cmp p es)
changed_child edit c es children inside names w o at p =
    ap (λ b. cond b (option_and_then (edit_of edit) (find nat_cmp p es)) (find nat_cmp p es))
    (has_place p (unwrap_or o []) ∙ ap (λ m. is_some (find nat_cmp p (unwrap_or m []))) at ∙ ap is_some (find_under nat_cmp children c.0 p ∙ w.children c.0 p))
    ∙ by (find nat_cmp p es)
  where
    flip : (a b : ℕ) → (b == a) ≡ (a == b)
    flip a b = grind arith

    by : (o : Option FilingEntry) → cond (is_some (value_at nat_cmp child_key (λ e. e.folder) c.0 o)) (option_and_then (edit_of edit) o) o ≡ option_and_then (edit_child edit c) o
    by None = refl
    by (Some e) =
        let at : eq_by_cmp nat_cmp c.0 e.child.0 ≡ same e.child c = unsigned_tied c.0 e.child.0 ∙ flip e.child.0 c.0 in
        by_test (same e.child c)
        (λ t. rw (at, t) refl)
        (λ t. rw (at, t) refl)
