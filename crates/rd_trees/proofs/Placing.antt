-- One more object of a level, with the tree below it.
use Rattle.std.proofs.Common.{◌≡◌, ◌∙◌, ℕ, zero, suc, ◌+◌, ◌-◌, ◌<◌, Bool, List, [], ◌∷◌, ◌++◌, map, take, length, get_or, refl, sym, ap, arith, append_assoc}
use Rattle.std.specs.List.{flat_map}
use Rattle.std.proofs.lemmas.List.{map-append, append-nil, take_more}
use Rattle.std.proofs.lemmas.List.Concat.{flat_map-append}
use denote.Ref.{Bor}
use Rattle.cm_map.specs.Parts.{pointee}
use Rattle.cm_base.specs.declared.object.Object.{Object}
use Rattle.cmis_spec.specs.Repository.{Repository}
use Rattle.rd_trees.specs.ReadTree.{Placed, placed, right_below}

module _ (r : Repository) (u : List ℕ) (only : Bool) where
  pub none_placed : (levels level : ℕ) → placed levels r u only level [] ≡ []
  none_placed zero level = refl
  none_placed (suc n) level = refl

  placed_more : (levels level : ℕ) (xs : List Object) (x : Object) → ¬ levels ≡ 0
      → placed levels r u only level (xs ++ x ∷ []) ≡ placed levels r u only level xs ++ (level, x) ∷ placed (levels - 1) r u only (level + 1) (right_below r u only x.id)
  placed_more zero level xs x h = absurd (h refl)
  placed_more (suc n) level xs x h =
      let f : Object → List Placed = λ y. (level, y) ∷ placed n r u only (level + 1) (right_below r u only y.id) in
      let e : suc n - 1 ≡ n = omega arith in
      rw e (flat_map-append f xs (x ∷ []) ∙ ap (λ all. flat_map f xs ++ all) (append-nil (f x)))

  pub level_more : (levels level : ℕ) (first old added new : List Placed) (xs : List Object) (x : Object) → ¬ levels ≡ 0
      → old ≡ first ++ placed levels r u only level xs → added ≡ old ++ (level, x) ∷ []
      → new ≡ added ++ placed (levels - 1) r u only (level + 1) (right_below r u only x.id) → new ≡ first ++ placed levels r u only level (xs ++ x ∷ [])
  level_more levels level first old added new xs x h o a n =
      let deeper = placed (levels - 1) r u only (level + 1) (right_below r u only x.id) in
      n ∙ ap (λ all. all ++ deeper) (a ∙ ap (λ all. all ++ (level, x) ∷ []) o)
      ∙ append_assoc (first ++ placed levels r u only level xs) ((level, x) ∷ []) deeper
      ∙ append_assoc first (placed levels r u only level xs) ((level, x) ∷ deeper)
      ∙ ap (λ all. first ++ all) (sym (placed_more levels level xs x h))

pub shown_more : (xs : List (Bor Object)) (i : ℕ) (x : Bor Object) → i < length xs → x ≡ get_or xs i x → map pointee (take (i + 1) xs) ≡ map pointee (take i xs) ++ x.now ∷ []
shown_more xs i x lt is = ap (map pointee) (take_more xs i x lt ∙ ap (λ y. take i xs ++ y ∷ []) (sym is)) ∙ map-append pointee (take i xs) (x ∷ [])
