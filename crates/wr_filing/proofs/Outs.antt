-- A child that is taken out of each of its folders stands in none.
use Rattle.std.specs.Prelude.{◌≡◌, ℕ, Bool, true, false, ◌&&◌, ◌||◌, not, List, [], ◌∷◌, map, filter, fold, All}
use Rattle.std.specs.List.{list_any}
use Rattle.std.proofs.Common.{refl, sym, ap, subst, ◌∙◌}
use Rattle.std.proofs.lemmas.Bool.{both_ways}
use Rattle.std.proofs.lemmas.List.Elements.{All-nil, All-cons, All-head, All-tail, All-weaker}
use Rattle.cm_base.specs.declared.number.Oid.{Oid}
use Rattle.cm_base.specs.declared.filing.Filed.{Filed}
use Rattle.cmis_spec.specs.Repository.{Repository, same}
use Rattle.cmis_spec.specs.Changes.{without_pair}
use Rattle.wr_filing.specs.Filing.{unfiled, out_of}
use Rattle.cm_state.specs.Looks.{folders_in}
use Rattle.cmis_laws.proofs.Lists.{by_test, same_refl}
use Rattle.cmis_laws.proofs.Left.{all_kept}

abbrev is_other_pair : Oid → Oid → Filed → Bool
is_other_pair n f p = not (same p.folder f && same p.child n)

abbrev is_of_other : Oid → Filed → Bool
is_of_other n p = not (same p.child n)

-- the child's pairs are in these folders
abbrev IsWithin : Oid → List Oid → Filed → Type 0
IsWithin n fs p = same p.child n ≡ true → list_any (same p.folder) fs ≡ true

filter_yes : {A : Type 0} (q : A → Bool) (x : A) (xs : List A) → q x ≡ true → filter q (x ∷ xs) ≡ x ∷ filter q xs
filter_yes q x xs h = rw h refl

filter_no : {A : Type 0} (q : A → Bool) (x : A) (xs : List A) → q x ≡ false → filter q (x ∷ xs) ≡ filter q xs
filter_no q x xs h = rw h refl

filter_twice : {A : Type 0} (q p : A → Bool) (xs : List A) → ((x : A) → q x ≡ true → p x ≡ true) → filter q (filter p xs) ≡ filter q xs
filter_twice q p [] h = refl
filter_twice q p (x ∷ xs) h = by_test (p x)
    (λ e. ap (filter q) (filter_yes p x xs e) ∙ by_test (q x)
    (λ d. filter_yes q x (filter p xs) d ∙ (ap (λ l. x ∷ l) (filter_twice q p xs h) ∙ sym (filter_yes q x xs d)))
    (λ d. filter_no q x (filter p xs) d ∙ (filter_twice q p xs h ∙ sym (filter_no q x xs d))))
    (λ e. ap (filter q) (filter_no p x xs e) ∙ (filter_twice q p xs h ∙ sym (filter_no q x xs (by_test (q x) (λ d. absurd (both_ways (p x) e (h x d))) (λ d. d)))))

none_of_it : (n : Oid) (ps : List Filed) → All (IsWithin n []) ps → filter (is_of_other n) ps ≡ ps
none_of_it n [] all = refl
none_of_it n (p ∷ ps) all = by_test (same p.child n)
    (λ e. absurd (both_ways false refl (All-head (IsWithin n []) p ps all e)))
    (λ e. filter_yes (is_of_other n) p ps (ap not e) ∙ ap (λ l. p ∷ l) (none_of_it n ps (All-tail (IsWithin n []) p ps all)))

other_first : (a b c : Bool) → not (a && b) ≡ true → (b ≡ true → a || c ≡ true) → b ≡ true → c ≡ true
other_first true true c h f e = absurd (both_ways false refl h)
other_first true false c h f e = absurd (both_ways false refl e)
other_first false b c h f e = f e

other_kept : (a b : Bool) → not b ≡ true → not (a && b) ≡ true
other_kept true b h = h
other_kept false b h = refl

pairs_out : (n : Oid) (fs : List Oid) (ps : List Filed) → All (IsWithin n fs) ps → fold (λ ps f. filter (is_other_pair n f) ps) ps fs ≡ filter (is_of_other n) ps
pairs_out n [] ps all = sym (none_of_it n ps all)
pairs_out n (f ∷ fs) ps all =
    pairs_out n fs (filter (is_other_pair n f) ps) (all_kept (is_other_pair n f) (IsWithin n fs) ps
    (All-weaker (IsWithin n (f ∷ fs)) (λ p. is_other_pair n f p ≡ true → IsWithin n fs p) (λ p h k. other_first (same p.folder f) (same p.child n) (list_any (same p.folder) fs) k h) ps all))
    ∙ filter_twice (is_of_other n) (is_other_pair n f) ps (λ p h. other_kept (same p.folder f) (same p.child n) h)

one_more : (f : Oid) (fs : List Oid) (p : Filed) (n : Oid) → IsWithin n fs p → IsWithin n (f ∷ fs) p
one_more f fs p n h e = by (same p.folder f) (list_any (same p.folder) fs) (h e)
  where
    by : (a b : Bool) → b ≡ true → a || b ≡ true
    by true b k = refl
    by false b k = k

pub all_within : (n : Oid) (ps : List Filed) → All (IsWithin n (map (λ p. p.folder) (filter (λ p. same p.child n) ps))) ps
all_within n [] = All-nil (IsWithin n [])
all_within n (p ∷ ps) = by_test (same p.child n)
    (λ e. subst (λ l. All (IsWithin n (map (λ p. p.folder) l)) (p ∷ ps)) (sym (filter_yes (λ p. same p.child n) p ps e))
    (All-cons (IsWithin n (p.folder ∷ map (λ p. p.folder) (filter (λ p. same p.child n) ps))) p ps (λ _. ap (λ b. b || list_any (same p.folder) (map (λ p. p.folder) (filter (λ p. same p.child n) ps))) (same_refl p.folder))
    (All-weaker (IsWithin n (map (λ p. p.folder) (filter (λ p. same p.child n) ps))) (IsWithin n (p.folder ∷ map (λ p. p.folder) (filter (λ p. same p.child n) ps)))
    (λ q h. one_more p.folder (map (λ p. p.folder) (filter (λ p. same p.child n) ps)) q n h) ps (all_within n ps))))
    (λ e. subst (λ l. All (IsWithin n (map (λ p. p.folder) l)) (p ∷ ps)) (sym (filter_no (λ p. same p.child n) p ps e))
    (All-cons (IsWithin n (map (λ p. p.folder) (filter (λ p. same p.child n) ps))) p ps (λ d. absurd (both_ways (same p.child n) e d)) (all_within n ps)))

outs_filed : (n : Oid) (fs : List Oid) (r : Repository) → fold (out_of n) r fs ≡ record r { filed = fold (λ ps f. filter (is_other_pair n f) ps) r.filed fs }
outs_filed n [] r = refl
outs_filed n (f ∷ fs) r = outs_filed n fs (without_pair r f n)

all_out : (r : Repository) (n : Oid) → fold (out_of n) r (folders_in r n) ≡ unfiled r n
all_out r n = outs_filed n (folders_in r n) r ∙ ap (λ ps. record r { filed = ps }) (pairs_out n (folders_in r n) r.filed (all_within n r.filed))

values_out : (n : Oid) (es : List (ℕ × Oid)) (r : Repository) → fold (λ d e. out_of n d e.1) r es ≡ fold (out_of n) r (map (λ e. e.1) es)
values_out n [] r = refl
values_out n (e ∷ es) r = values_out n es (out_of n r e.1)

-- the map has the folders of the entry
pub unfiled_is : (r : Repository) (n : Oid) (es : List (ℕ × Oid)) → map (λ e. e.1) es ≡ folders_in r n → fold (λ d e. out_of n d e.1) r es ≡ unfiled r n
unfiled_is r n es h = values_out n es r ∙ (ap (fold (out_of n) r) h ∙ all_out r n)
