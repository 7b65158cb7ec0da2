use Rattle.std.proofs.Common.{◌≡◌, ℕ, ◌==◌, cond, not, None, T, inr, refl, sym, ap, subst, ◌∙◌}
use Rattle.core.specs.Ordering.{nat_cmp, eq_by_cmp}
use Rattle.core.specs.FinMap.Entries.{find, is_sorted, is_sorted-where_key}
use Rattle.place_laws.proofs.Placing.{find-without_at}
use Rattle.cm_folder.proofs.Indexing.{indexed_changed}
use Rattle.cm_folder.proofs.parts.Parts.without_entry.Goals as goal

pub returns : goal.returns
returns c =
    let old = c.args.self.now in
    let e = c.args.entry.now in
    let n = c.args.place in
    let found : (p : ℕ) → find nat_cmp p c.in_ok-entries.entries ≡ cond (p == n) None (find nat_cmp p old.entries) = λ p. ap (find nat_cmp p) c.in_ok-entries.ensures ∙ find-without_at p n old.entries in
    record {
      indexed = indexed_changed old.entries c.in_ok-entries.entries n e None old.by_child c.in_ok-by_child.by_child old.by_folder c.in_ok-by_folder.by_folder old.by_name c.in_ok-by_name.by_name c.requires.indexed (inr (c.requires.there, refl))
          (subst (λ l. T (is_sorted nat_cmp l)) (sym c.in_ok-entries.ensures) (is_sorted-where_key nat_cmp (λ x. not (eq_by_cmp nat_cmp n x)) old.entries c.requires.indexed.sorted))
          found c.in_ok-by_child.ensures.found c.in_ok-by_folder.ensures.found c.in_ok-by_name.ensures;
      found = found;
    }
