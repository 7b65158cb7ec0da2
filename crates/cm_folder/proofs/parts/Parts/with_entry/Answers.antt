use Rattle.std.proofs.Common.{Some, T, inl, refl, sym, ap, subst, ◌∙◌}
use Rattle.core.specs.Ordering.{nat_cmp}
use Rattle.core.specs.Cmp.{nat_cmp_total}
use Rattle.core.specs.FinMap.Entries.{find, is_sorted, is_sorted-put}
use Rattle.place_laws.proofs.Placing.{find-put_at}
use Rattle.cm_folder.proofs.Indexing.{indexed_changed}
use Rattle.cm_folder.proofs.parts.Parts.with_entry.Goals as goal

pub returns : goal.returns
returns c =
    let old = c.args.self.now in
    let e = c.args.entry in
    let n = c.args.place in
    let at = c.in_ok-entries.ensures in
    record {
      indexed = indexed_changed old.entries c.in_ok-entries.entries n e (Some e) old.by_child c.in_ok-by_child.by_child old.by_folder c.in_ok-by_folder.by_folder old.by_name c.in_ok-by_name.by_name c.requires.indexed (inl (c.requires.free, refl))
          (subst (λ l. T (is_sorted nat_cmp l)) (sym at) (is_sorted-put nat_cmp nat_cmp_total n e old.entries c.requires.indexed.sorted))
          (λ p. ap (find nat_cmp p) at ∙ find-put_at p n e old.entries) c.in_ok-by_child.ensures.found c.in_ok-by_folder.ensures.found c.in_ok-by_name.ensures;
      entries = at;
    }
