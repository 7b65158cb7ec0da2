-- The children under a folder and a name: one more, and one less.
use Rattle.std.proofs.Common.{◌≡◌, ℕ, ◌&&◌, true, List, [], ◌∷◌, Option, Some, None, if◌then◌else◌, length, unwrap_or, refl, sym, ap, ◌∙◌, arith}
use Rattle.core.specs.Ordering.{nat_cmp, eq_by_cmp}
use Rattle.core.specs.Cmp.{nat_cmp_total, unsigned_tied}
use Rattle.core.specs.Cmp.Lexicographic.{slice_cmp}
use Rattle.core.specs.FinMap.Entries.{put, find, find-put}
use Rattle.std.proofs.lemmas.Bool.{eqb-true}
use Rattle.std.proofs.lemmas.Slice.Eq.{bytes_eq-Decides}
use Rattle.std.proofs.lemmas.Map.Text.{is_eq-slice_cmp}
use Rattle.cm_map.specs.Parts.{without_key}
use Rattle.cm_base.specs.declared.number.Oid.{Oid}
use Rattle.cm_map.specs.Buckets.{find_in}
use Rattle.cm_folder.specs.Places.{name_order, names_under, find_named}
use Rattle.place_laws.proofs.Placing.{by_test, find-without_at}
use Rattle.cm_folder.proofs.Lookups.{tied_then}

-- what is found where other children stand under one folder and name
pub found_under : (m old : List (ℕ × List (List ℕ × List (ℕ × Oid)))) (f : ℕ) (name : List ℕ) (new : List (ℕ × Oid)) (place : ℕ) (now : Option Oid)
    → ((k : ℕ × List ℕ) → names_under m k ≡ (if eq_by_cmp nat_cmp k.0 f && eq_by_cmp (slice_cmp nat_cmp) k.1 name then new else names_under old k))
    → ((p : ℕ) → find nat_cmp p new ≡ (if eq_by_cmp nat_cmp p place then now else find_named old (f, name) p))
    → (k : ℕ × List ℕ) (p : ℕ) → find_named m k p ≡ (if eq_by_cmp name_order k (f, name) && eq_by_cmp nat_cmp p place then now else find_named old k p)
found_under m old f name new place now under is k p =
    ap (find nat_cmp p) (under k)
    ∙ (by_test (eq_by_cmp nat_cmp k.0 f)
    (λ a. by_test (eq_by_cmp (slice_cmp nat_cmp) k.1 name)
    (λ b. rw (a, b) (is p ∙ (λ i. if eq_by_cmp nat_cmp p place then now else find_named old (sym (at a) i, sym (named b) i) p)))
    (λ b. rw (a, b) refl))
    (λ a. rw a refl)
    ∙ sym (ap (λ t. if t && eq_by_cmp nat_cmp p place then now else find_named old k p) (tied_then (nat_cmp k.0 f) (slice_cmp nat_cmp k.1 name))))
  where
    at : eq_by_cmp nat_cmp k.0 f ≡ true → k.0 ≡ f
    at e = eqb-true k.0 f (sym (unsigned_tied k.0 f) ∙ e)

    named : eq_by_cmp (slice_cmp nat_cmp) k.1 name ≡ true → k.1 ≡ name
    named e = (bytes_eq-Decides k.1 name).0 (sym (is_eq-slice_cmp k.1 name) ∙ e)

pub found_more : (old : List (ℕ × List (List ℕ × List (ℕ × Oid)))) (k : ℕ × List ℕ) (place : ℕ) (child : Oid) (new : List (ℕ × Oid)) → new ≡ put nat_cmp place child (names_under old k)
    → (p : ℕ) → find nat_cmp p new ≡ (if eq_by_cmp nat_cmp p place then Some child else find_named old k p)
found_more old k place child new e p = ap (find nat_cmp p) e ∙ find-put nat_cmp nat_cmp_total p place child (names_under old k)

pub found_fewer : (old : List (ℕ × List (List ℕ × List (ℕ × Oid)))) (k : ℕ × List ℕ) (place : ℕ) (new : List (ℕ × Oid)) → new ≡ without_key nat_cmp place (names_under old k)
    → (p : ℕ) → find nat_cmp p new ≡ (if eq_by_cmp nat_cmp p place then None else find_named old k p)
found_fewer old k place new e p = ap (find nat_cmp p) e ∙ (find-without_at p place (names_under old k) ∙ sym (ap (λ b. if b then None else find_named old k p) (unsigned_tied p place)))

pub no_length : (es : List (ℕ × Oid)) → length es ≡ 0 → es ≡ []
no_length [] h = refl
no_length (e ∷ es) h = absurd (omega (arith, h))

-- the children under all names, where others stand under one
pub under_now : (m old : List (ℕ × List (List ℕ × List (ℕ × Oid)))) (f : ℕ) (name : List ℕ) (now : Option (List (ℕ × Oid))) (new : List (ℕ × Oid)) → unwrap_or now [] ≡ new
    → ((n : ℕ) (k : List ℕ) → find_in nat_cmp (slice_cmp nat_cmp) m n k ≡ (if eq_by_cmp nat_cmp n f && eq_by_cmp (slice_cmp nat_cmp) k name then now else find_in nat_cmp (slice_cmp nat_cmp) old n k))
    → (k : ℕ × List ℕ) → names_under m k ≡ (if eq_by_cmp nat_cmp k.0 f && eq_by_cmp (slice_cmp nat_cmp) k.1 name then new else names_under old k)
under_now m old f name now new e found k = ap (λ o. unwrap_or o []) (found k.0 k.1) ∙ by_test (eq_by_cmp nat_cmp k.0 f && eq_by_cmp (slice_cmp nat_cmp) k.1 name) (λ t. rw t e) (λ t. rw t refl)
