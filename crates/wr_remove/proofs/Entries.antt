-- Whether something is filed in a folder.
use Rattle.std.specs.Prelude.{◌≡◌, ℕ, suc, Bool, true, nat_lt, List, [], ◌∷◌, map, filter, length}
use Rattle.std.specs.List.{list_any}
use Rattle.std.proofs.Common.{refl, sym, ap, ◌∙◌, arith}
use Rattle.std.proofs.lemmas.List.{length-map}
use Rattle.cm_base.specs.declared.number.Oid.{Oid}
use Rattle.cm_base.specs.declared.filing.Filed.{Filed}
use Rattle.cmis_spec.specs.Repository.{Repository, same}
use Rattle.cmis_laws.proofs.Lists.{by_test}
use Rattle.cm_state.specs.Looks.{entries_in}
use Rattle.wr_remove.specs.Delete.{is_filled_at}

positive : (k : ℕ) → nat_lt 0 (suc k) ≡ true
positive k = grind arith

any_length : {A : Type 0} (q : A → Bool) (xs : List A) → nat_lt 0 (length (filter q xs)) ≡ list_any q xs
any_length q [] = refl
any_length q (x ∷ xs) = by_test (q x) (λ e. rw e (positive (length (filter q xs)))) (λ e. rw e (any_length q xs))

-- a folder has an entry where there is a pair of it
pub entries_any : {K : Type 0} (r : Repository) (n : Oid) (es : List (K × Oid)) → map (λ e. e.1) es ≡ entries_in r n → nat_lt 0 (length es) ≡ is_filled_at r n
entries_any r n es at = ap (nat_lt 0) (sym (length-map es (λ e. e.1)) ∙ (ap length at ∙ length-map (filter (λ (p : Filed). same p.folder n) r.filed) (λ p. p.child))) ∙ any_length (λ (p : Filed). same p.folder n) r.filed
