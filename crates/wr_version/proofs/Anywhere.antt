-- A name that is taken in one of the folders of an entry.
use Rattle.std.specs.Prelude.{◌≡◌, ℕ, Bool, ◌&&◌, ◌||◌, List, [], ◌∷◌, ◌++◌, map, filter}
use Rattle.std.specs.List.{list_any}
use Rattle.std.proofs.Common.{refl, sym, ap, ◌∙◌, arith}
use Rattle.cm_base.specs.declared.number.Oid.{Oid}
use Rattle.cm_base.specs.declared.filing.Filed.{Filed}
use Rattle.cmis_spec.specs.Repository.{Repository, same, is_taken}
use Rattle.cmis_laws.proofs.Lists.{by_test}
use Rattle.wr_rules.specs.Documents.{is_taken_anywhere}
use Rattle.cm_state.specs.Looks.{folders_in}

pub any_last : {A : Type 0} (t : A → Bool) (xs : List A) (x : A) → list_any t (xs ++ x ∷ []) ≡ (t x || list_any t xs)
any_last t [] x = refl
any_last t (y ∷ ys) x = ap (λ b. t y || b) (any_last t ys x) ∙ turned (t y) (t x) (list_any t ys)
  where
    turned : (a b c : Bool) → (a || (b || c)) ≡ (b || (a || c))
    turned a b c = grind arith

-- the folders of the pairs of an entry
any_folders : (t : Oid → Bool) (n : Oid) (ps : List Filed) → list_any (λ p. same p.child n && t p.folder) ps ≡ list_any t (map (λ p. p.folder) (filter (λ p. same p.child n) ps))
any_folders t n [] = refl
any_folders t n (p ∷ ps) = by_test (same p.child n) (λ e. rw e (ap (λ b. t p.folder || b) (any_folders t n ps))) (λ e. rw e (any_folders t n ps))

any_values : {A : Type 0} (t : A → Bool) (es : List (ℕ × A)) → list_any (λ e. t e.1) es ≡ list_any t (map (λ e. e.1) es)
any_values t [] = refl
any_values t (e ∷ es) = ap (λ b. t e.1 || b) (any_values t es)

-- those that a map has by their places
taken_among : (t : Oid → Bool) (n : Oid) (ps : List Filed) (es : List (ℕ × Oid)) → map (λ e. e.1) es ≡ map (λ p. p.folder) (filter (λ p. same p.child n) ps)
    → list_any (λ e. t e.1) es ≡ list_any (λ p. same p.child n && t p.folder) ps
taken_among t n ps es h = any_values t es ∙ (ap (list_any t) h ∙ sym (any_folders t n ps))

-- the map has the folders of the entry
pub taken_anywhere : (r : Repository) (n : Oid) (name : List ℕ) (es : List (ℕ × Oid)) → map (λ e. e.1) es ≡ folders_in r n → list_any (λ e. is_taken r e.1 n name) es ≡ is_taken_anywhere r n name
taken_anywhere r n name es h = taken_among (λ f. is_taken r f n name) n r.filed es h
