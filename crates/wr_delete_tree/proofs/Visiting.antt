-- One more of a level of the tree, with what stands below it.
use Rattle.std.specs.Prelude.{◌≡◌, ℕ, zero, suc, ◌-◌, List, [], ◌∷◌, ◌++◌}
use Rattle.std.specs.List.{flat_map}
use Rattle.std.proofs.Common.{refl, sym, ap, ◌∙◌, arith, append_assoc}
use Rattle.std.proofs.lemmas.List.{append-nil}
use Rattle.std.proofs.lemmas.List.Concat.{flat_map-append}
use Rattle.cm_base.specs.declared.number.Oid.{Oid}
use Rattle.cm_state.specs.Looks.{entries_in}
use Rattle.cmis_spec.specs.Repository.{Repository}
use Rattle.wr_delete_tree.specs.DeleteTree.{rising, visited}

module _ (r : Repository) where
  visited_more : (levels : ℕ) (xs : List Oid) (x : Oid) → ¬ levels ≡ 0 → visited levels r (xs ++ x ∷ []) ≡ visited levels r xs ++ (visited (levels - 1) r (rising (entries_in r x)) ++ x ∷ [])
  visited_more zero xs x h = absurd (h refl)
  visited_more (suc k) xs x h =
      let f : Oid → List Oid = λ n. visited k r (rising (entries_in r n)) ++ n ∷ [] in
      let e : suc k - 1 ≡ k = omega arith in
      rw e (flat_map-append f xs (x ∷ []) ∙ ap (λ all. flat_map f xs ++ all) (append-nil (f x)))

  pub level_more : (levels : ℕ) (first old below new xs : List Oid) (x : Oid) → ¬ levels ≡ 0
      → old ≡ first ++ visited levels r xs → below ≡ old ++ visited (levels - 1) r (rising (entries_in r x)) → new ≡ below ++ x ∷ []
      → new ≡ first ++ visited levels r (xs ++ x ∷ [])
  level_more levels first old below new xs x h o b n =
      let deeper : List Oid = visited (levels - 1) r (rising (entries_in r x)) in
      n ∙ (ap (λ all. all ++ x ∷ []) (b ∙ ap (λ all. all ++ deeper) o)
      ∙ (append_assoc (first ++ visited levels r xs) deeper (x ∷ [])
      ∙ (append_assoc first (visited levels r xs) (deeper ++ x ∷ [])
      ∙ ap (λ all. first ++ all) (sym (visited_more levels xs x h)))))
