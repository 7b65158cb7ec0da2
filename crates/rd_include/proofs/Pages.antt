-- Lists and pages of what is seen alike in two repositories are the same.
use Rattle.std.specs.Prelude.{◌≡◌, ℕ, Bool, Option, List, length, map, All, Ok}
use Rattle.std.proofs.Common.{refl, ap, ◌∙◌}
use Rattle.std.proofs.lemmas.List.Elements.{All-weaker}
use Rattle.cm_base.specs.declared.object.Object.{Object}
use Rattle.cm_base.specs.declared.cause.Cause.TheVariants as causes
use Rattle.cm_base.specs.Judged.{◌>>◌, refuse}
use Rattle.call_parts.specs.declared.readings.PropertyFilter.{PropertyFilter}
use Rattle.include_parts.specs.declared.readings.Includes.{Includes}
use Rattle.include_parts.specs.declared.readings.ShowChildren.{ShowChildren}
use Rattle.include_parts.specs.declared.readings.ShowParents.{ShowParents}
use Rattle.cmis_spec.specs.Repository.{Repository}
use Rattle.cm_include.specs.Included.{included_object}
use Rattle.cm_include.proofs.Alike.{all_included_alike, included_alike}
use Rattle.cm_see.proofs.SeenLists.{map_same}
use Rattle.cm_see.proofs.Worlds.{AreAlike, AreFound, IsAlike}
use Rattle.rd_lists.specs.Listed.{is_too_long}
use Rattle.rd_lists.proofs.Seen.{segment_alike}
use Rattle.rd_nav.specs.ReadChildren.{has_more, page}
use Rattle.rd_nav.proofs.Pages.{page_alike}
use Rattle.rd_include.specs.Listed.{list_of, page_of}
use Rattle.rd_include.specs.ShowChildren.{included_child, included_children}
use Rattle.rd_include.specs.ShowParents.{included_parent, included_parents}

module _ (r other : Repository) (u : List ℕ) (a : AreAlike r other u) where
  -- ---- lists and pages

  pub list_alike : (f : PropertyFilter) (succinct : Bool) (i : Includes) (xs ys : List Object) → AreFound r other u xs ys
      → list_of (included_object r u f succinct i) xs ≡ list_of (included_object other u f succinct i) ys
  list_alike f succinct i xs ys found =
      ap (λ shown. refuse (causes.TooMany (length xs)) (is_too_long (length xs)) >> Ok (record { objects = shown })) (all_included_alike r other u a f succinct i xs found.each)
      ∙ ap (list_of (included_object other u f succinct i)) found.same

  each_included : (f : PropertyFilter) (succinct : Bool) (i : Includes) (xs : List Object) → All (IsAlike r other u) xs
      → All (λ x. included_object r u f succinct i x ≡ included_object other u f succinct i x) xs
  each_included f succinct i xs each =
      All-weaker (IsAlike r other u) (λ x. included_object r u f succinct i x ≡ included_object other u f succinct i x) (λ x h. included_alike r other u a x h f succinct i) xs each

  pub included_page_alike : (f : PropertyFilter) (succinct : Bool) (i : Includes) (skip asked : ℕ) (xs ys : List Object) → AreFound r other u xs ys
      → page_of (included_object r u f succinct i) skip asked xs ≡ page_of (included_object other u f succinct i) skip asked ys
  included_page_alike f succinct i skip asked xs ys found =
      ap (λ objects. record { objects = objects; has_more_items = has_more skip asked xs; num_items = length xs })
      (page_alike (included_object r u f succinct i) (included_object other u f succinct i) skip asked xs (each_included f succinct i xs found.each))
      ∙ ap (page_of (included_object other u f succinct i) skip asked) found.same

  -- ---- children

  child_alike : (q : ShowChildren) (x : Object) → IsAlike r other u x → included_child r u q x ≡ included_child other u q x
  child_alike q x h =
      let object = included_alike r other u a x h q.children.filter q.children.succinct q.includes in
      let segment = segment_alike r other u a x h q.segments in
      (λ i. record { object = object i; segment = segment i })

  -- children that are seen alike make the same reply
  pub children_alike_shown : (q : ShowChildren) (xs ys : List Object) → AreFound r other u xs ys → included_children r u q xs ≡ included_children other u q ys
  children_alike_shown q xs ys found =
      let shown : map (included_child r u q) (page q.children.skip_count q.children.max_items xs) ≡ map (included_child other u q) (page q.children.skip_count q.children.max_items xs) =
      page_alike (included_child r u q) (included_child other u q) q.children.skip_count q.children.max_items xs
      (All-weaker (IsAlike r other u) (λ x. included_child r u q x ≡ included_child other u q x) (child_alike q) xs found.each) in
      rw shown refl ∙ ap (included_children other u q) found.same

  -- ---- folders

  parent_shown_alike : (q : ShowParents) (segment : Option (List ℕ)) (f : Object) → IsAlike r other u f → included_parent r u q segment f ≡ included_parent other u q segment f
  parent_shown_alike q segment f h = ap (λ o. record { object = o; segment = segment }) (included_alike r other u a f h q.parents.filter q.parents.succinct q.includes)

  -- folders that are seen alike make the same reply
  pub parents_alike_shown : (q : ShowParents) (segment : Option (List ℕ)) (fs gs : List Object) → AreFound r other u fs gs
      → included_parents r u q segment fs ≡ included_parents other u q segment gs
  parents_alike_shown q segment fs gs found =
      ap (λ shown. refuse (causes.TooMany (length fs)) (is_too_long (length fs)) >> Ok (record { parents = shown }))
      (map_same (included_parent r u q segment) (included_parent other u q segment) fs
      (All-weaker (IsAlike r other u) (λ f. included_parent r u q segment f ≡ included_parent other u q segment f) (parent_shown_alike q segment) fs found.each))
      ∙ ap (included_parents other u q segment) found.same
