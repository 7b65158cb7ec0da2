-- The folders of an entry, as a map has them by their places.
use Rattle.std.specs.Prelude.{◌≡◌, ℕ, Bool, true, false, ◌&&◌, ◌||◌, List, [], ◌∷◌, map, filter, length}
use Rattle.std.specs.List.{list_any}
use Rattle.std.proofs.Common.{refl, sym, ap, ◌∙◌, arith}
use Rattle.cm_base.specs.declared.number.Oid.{Oid}
use Rattle.cm_base.specs.declared.filing.Filed.{Filed}
use Rattle.cm_base.specs.declared.access.Level.TheVariants as levels
use Rattle.cmis_spec.specs.Repository.{Repository, same}
use Rattle.cmis_laws.proofs.Lists.{by_test}
use Rattle.cm_state.specs.Looks.{folders_in}
use Rattle.wr_filing.specs.Filing.{lacks_at, lacks_anywhere, is_filed_anywhere}

-- the folders of the pairs of an entry
any_folders : (t : Oid → Bool) (n : Oid) (ps : List Filed) → list_any (λ p. same p.child n && t p.folder) ps ≡ list_any t (map (λ p. p.folder) (filter (λ p. same p.child n) ps))
any_folders t n [] = refl
any_folders t n (p ∷ ps) = by_test (same p.child n) (λ e. rw e (ap (λ b. t p.folder || b) (any_folders t n ps))) (λ e. rw e (any_folders t n ps))

pub any_values : {K A : Type 0} (t : A → Bool) (es : List (K × A)) → list_any (λ e. t e.1) es ≡ list_any t (map (λ e. e.1) es)
any_values t [] = refl
any_values t (e ∷ es) = ap (λ b. t e.1 || b) (any_values t es)

pub lacks_among : (r : Repository) (u : List ℕ) (n : Oid) (es : List (ℕ × Oid)) → map (λ e. e.1) es ≡ folders_in r n → list_any (λ e. lacks_at r u levels.Write e.1) es ≡ lacks_anywhere r u n
lacks_among r u n es h = any_values (lacks_at r u levels.Write) es ∙ (ap (list_any (lacks_at r u levels.Write)) h ∙ sym (any_folders (lacks_at r u levels.Write) n r.filed))

-- some folder, or none
any_kept : (n : Oid) (ps : List Filed) → list_any (λ p. same p.child n) ps ≡ list_any (λ f. true) (map (λ p. p.folder) (filter (λ p. same p.child n) ps))
any_kept n [] = refl
any_kept n (p ∷ ps) = by_test (same p.child n) (λ e. rw e refl) (λ e. rw e (any_kept n ps))

filed_of : (r : Repository) (n : Oid) (es : List (ℕ × Oid)) → map (λ e. e.1) es ≡ folders_in r n → is_filed_anywhere r n ≡ list_any (λ f. true) (map (λ e. e.1) es)
filed_of r n es h = any_kept n r.filed ∙ ap (list_any (λ f. true)) (sym h)

pub filed_nowhere : (r : Repository) (n : Oid) (es : List (ℕ × Oid)) → map (λ e. e.1) es ≡ folders_in r n → length es ≡ 0 → is_filed_anywhere r n ≡ false
filed_nowhere r n es h e = filed_of r n es h ∙ by es e
  where
    by : (es : List (ℕ × Oid)) → length es ≡ 0 → list_any (λ f. true) (map (λ e. e.1) es) ≡ false
    by [] e = refl
    by (x ∷ xs) e = absurd (omega (arith, e))

pub filed_somewhere : (r : Repository) (n : Oid) (es : List (ℕ × Oid)) → map (λ e. e.1) es ≡ folders_in r n → (length es ≡ 0 → ⊥) → is_filed_anywhere r n ≡ true
filed_somewhere r n es h e = filed_of r n es h ∙ by es e
  where
    by : (es : List (ℕ × Oid)) → (length es ≡ 0 → ⊥) → list_any (λ f. true) (map (λ e. e.1) es) ≡ true
    by [] e = absurd (e refl)
    by (x ∷ xs) e = refl
