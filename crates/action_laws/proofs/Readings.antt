-- Children, parents and versions that are not listed, and those that are.
use Rattle.std.specs.Prelude.{◌≡◌, ℕ, zero, suc, Bool, true, false, not, ◌&&◌, if◌then◌else◌, List, [], ◌∷◌, ◌++◌, All, length, map, Option, Some, None, option_and_then, option_map, Ok, codes}
use Rattle.std.proofs.Common.{refl, sym, ap, subst, ◌∙◌}
use Rattle.std.proofs.lemmas.Bool.{and_parts, both_ways, not-true}
use Rattle.std.proofs.lemmas.List.Elements.{All-filter, All-head, filter_passes}
use Rattle.action_parts.specs.declared.action.Action.TheVariants as actions
use Rattle.call_parts.specs.declared.readings.ReadParent.{ReadParent}
use Rattle.include_parts.specs.declared.readings.ShowChildren.{ShowChildren}
use Rattle.include_parts.specs.declared.readings.ShowParents.{ShowParents}
use Rattle.include_parts.specs.declared.readings.ShowVersions.{ShowVersions}
use Rattle.order_parts.specs.declared.readings.SortSpecification.{SortSpecification}
use Rattle.include_parts.specs.declared.replies.IncludedObjectsReply.{IncludedObjectsReply}
use Rattle.include_parts.specs.declared.replies.IncludedParentsReply.{IncludedParentsReply}
use Rattle.cm_base.specs.declared.number.Oid.{Oid}
use Rattle.cm_base.specs.declared.object.Object.{Object}
use Rattle.cm_base.specs.declared.cause.Cause.{Cause}
use Rattle.cm_base.specs.declared.cause.Cause.TheVariants as causes
use Rattle.cm_base.specs.Judged.{Judged, ◌>>=◌, ◌>>◌, find_or, refuse}
use Rattle.cm_types.specs.declared.definition.BaseType.TheVariants as bases
use Rattle.cm_types.specs.declared.definition.TypeDef.{TypeDef}
use Rattle.cm_see.specs.Addressed.{addressed}
use Rattle.cmis_spec.specs.Repository.{Repository, same, root, entry_of, is_a, is_filed, object_at, parent_in}
use Rattle.cmis_spec.specs.Access.{children_of, parents_of, read_at, reads}
use Rattle.cmis_spec.specs.Seen.{seen_object}
use Rattle.cmis_spec.specs.Well.{Climbs, HasWay, IsWellFormed}
use Rattle.cmis_laws.proofs.Entries.{all_there}
use Rattle.cmis_laws.proofs.Lists.{found_holds, none_some, same_eq, same_refl, some_eq}
use Rattle.cm_see.proofs.Answers.{addressed_alike}
use Rattle.cm_see.proofs.Looks.{first_of}
use Rattle.cm_see.proofs.Objects.{IsHere, here_read}
use Rattle.cm_see.proofs.SeenPaths.{sees_up}
use Rattle.cm_see.proofs.Worlds.{AreAlike}
use Rattle.ql_bind.specs.declared.bound.OrderKey.{OrderKey}
use Rattle.ql_bind.specs.Binding.{each_onto}
use Rattle.rd_order.specs.Ordered.{key_of, object_order, orderable_named, ordered, sort_filter, sort_key, sort_keys, sorted_by}
use Rattle.rd_lists.specs.Listed.{is_too_long}
use Rattle.rd_lists.specs.Folders.{folders_of, is_fileable, segment_of}
use Rattle.rd_lists.specs.ReadParent.{answer_parent, answer_parent_of, parent_of, parent_reply}
use Rattle.rd_lists.specs.Versions.{versions_of}
use Rattle.rd_include.specs.Listed.{list_of}
use Rattle.rd_include.specs.ShowChildren.{answer_ordered_children, answer_show_children, answer_show_children_in, included_children}
use Rattle.rd_include.specs.ShowParents.{answer_show_parents, answer_show_parents_of, included_parent, included_parents}
use Rattle.rd_include.specs.ShowVersions.{answer_show_versions, answer_show_versions_of, included_version}
use Rattle.action_laws.specs.Refused.{IsBarred, IsRefused, MayDo, NoneComes}
use Rattle.action_laws.proofs.Judging.{at_object, kind_lines}
use Rattle.action_laws.proofs.Passing.{aside, find_aside, found, found_at, is_by, kind_free, none_comes, stands_for}

parent_lines : {B : Type 0} (f top : Bool) (o : Option Object) (rest : Object → Judged B) → (f && not top) ≡ false → (top ≡ true → o ≡ None)
    → IsRefused (refuse causes.WrongKind (not f) >> (find_or causes.RootParent o >>= rest))
parent_lines false top o rest e k = refl
parent_lines true true o rest e k = rw (k refl) refl
parent_lines true false o rest e k = absurd (both_ways true e refl)

module _ (r : Repository) (u : List ℕ) where
  pub children : (q : ShowChildren) → IsBarred r u q.children.place actions.GetChildren → IsRefused (answer_show_children r u q)
  children q b = at_object (addressed r u q.children.place) b.object (answer_show_children_in r u q) b.found
      (kind_lines causes.WrongKind (answer_ordered_children r u q b.object.id) (is_a r bases.Folder b.object) b.barred)

  pub versions : (q : ShowVersions) → IsBarred r u q.versions.place actions.GetAllVersions → IsRefused (answer_show_versions r u q)
  versions q b = at_object (addressed r u q.versions.place) b.object (answer_show_versions_of r u q) b.found
      (kind_lines causes.WrongKind (list_of (included_version r u q) (versions_of r u b.object)) (is_a r bases.Document b.object) b.barred)

  pub parents : (q : ShowParents) → IsBarred r u q.parents.place actions.GetObjectParents → IsRefused (answer_show_parents r u q)
  parents q b = at_object (addressed r u q.parents.place) b.object (answer_show_parents_of r u q) b.found
      (kind_lines causes.NotFileable (included_parents r u q (segment_of r q.parents.segments b.object) (folders_of r u b.object)) (is_fileable r b.object) b.barred)

  pub parent : (q : ReadParent) → IsWellFormed r → IsBarred r u q.place actions.GetFolderParent → IsRefused (answer_parent r u q)
  parent q w b = at_object (addressed r u q.place) b.object (answer_parent_of r u q.succinct) b.found
      (parent_lines (is_a r bases.Folder b.object) (same b.object.id root) (parent_of r u b.object) (λ f. Ok (parent_reply r u q.succinct f)) b.barred
      (λ k. ap (option_and_then (read_at r u)) (ap (parent_in r.filed) (same_eq b.object.id root k) ∙ w.root.1)))

-- ---- what is allowed

-- an order that can't be had is another cause
keys_aside : (p : Cause → Bool) (types : List TypeDef) (keys : List OrderKey) (asked : List SortSpecification) → p (causes.BadArgument (codes "orderBy")) ≡ false → is_by p (each_onto (sort_key types) keys asked) ≡ false
keys_aside p types keys [] k = refl
keys_aside p types keys (s ∷ ss) k = found p (sort_key types s) (λ y. each_onto (sort_key types) (keys ++ y ∷ []) ss)
    (find_aside p (causes.BadArgument (codes "orderBy")) (option_map (key_of s) (orderable_named types s.query_name)) k) (λ y. keys_aside p types (keys ++ y ∷ []) ss k)

order_aside : (p : Cause → Bool) (r : Repository) (u : List ℕ) (asked : List SortSpecification) (xs : List Object) → p (causes.BadArgument (codes "orderBy")) ≡ false → is_by p (ordered r u asked xs) ≡ false
order_aside p r u [] xs k = refl
order_aside p r u (s ∷ ss) xs k = found p (sort_keys r.types (s ∷ ss)) (λ keys. Ok (sorted_by (object_order r u (sort_filter (s ∷ ss)) keys) xs)) (keys_aside p r.types [] (s ∷ ss) k) (λ keys. refl)

-- of the folders that a caller reads the first one is there
first_here : (r : Repository) (u : List ℕ) (n g : Oid) (ys : List Object) → All (λ y. object_at r y.id ≡ Some y) ys → All (λ y. is_filed r y.id n && reads r u y ≡ true) ys
    → first_of (map (λ y. y.id) ys) ≡ Some g → (y : Object) × (y.id ≡ g) × IsHere r u y
first_here r u n g [] there read e = absurd (none_some g e)
first_here r u n g (y ∷ ys) there read e =
    (y, some_eq y.id g e, (All-head (λ z. object_at r z.id ≡ Some z) y ys there, (and_parts (is_filed r y.id n) (reads r u y) (All-head (λ z. is_filed r z.id n && reads r u z ≡ true) y ys read)).1))

-- a folder that is not the root has a parent
has_parent : (r : Repository) (f : Oid) → HasWay r.filed f → same f root ≡ false → (g : Oid) × (parent_in r.filed f ≡ Some g)
has_parent r f way e = by way.0 way.2
  where
    by : (k : ℕ) → Climbs k r.filed f → (g : Oid) × (parent_in r.filed f ≡ Some g)
    by zero c = absurd (both_ways (same f root) e (ap (λ n. same n root) c ∙ same_refl root))
    by (suc k) c = (c.0, c.1)

-- and where the folder is read, its parent is read
parent_read : (r : Repository) (u : List ℕ) (x : Object) → IsWellFormed r → is_a r bases.Folder x ≡ true → IsHere r u x → same x.id root ≡ false → (y : Object) × (parent_of r u x ≡ Some y)
parent_read r u x w k here e =
    let g = has_parent r x.id (found_holds (λ z. is_a r bases.Folder z ≡ true → HasWay r.filed z.id) (λ z. same z.id x.id) r.objects x w.ways here.0 k) e in
    let up : parent_in r.filed x.id ≡ first_of (map (λ f. f.id) (parents_of r u (entry_of x))) =
    subst (λ b. parent_in r.filed x.id ≡ (if b then None else first_of (seen_object r u x).folders)) e (sees_up r u x w k here) in
    let y = first_here r u (entry_of x) g.0 (parents_of r u (entry_of x))
    (All-filter (λ f. is_filed r f.id (entry_of x) && reads r u f) (λ z. object_at r z.id ≡ Some z) r.objects (all_there r.objects w.numbers.0))
    (filter_passes (λ f. is_filed r f.id (entry_of x) && reads r u f) r.objects) (sym up ∙ g.1) in
    (y.0, ap (option_and_then (read_at r u)) g.1 ∙ subst (λ m. read_at r u m ≡ Some y.0) y.1 (here_read r u y.0 y.2))

module _ (r : Repository) (u : List ℕ) where
  pub children_allowed : (q : ShowChildren) → MayDo r u q.children.place actions.GetChildren → NoneComes actions.GetChildren (answer_show_children r u q)
  children_allowed q b =
      let p = stands_for actions.GetChildren in
      let xs = children_of r u b.object.id in
      none_comes actions.GetChildren (answer_show_children r u q) refl
      (found_at p causes.NotFound (addressed r u q.children.place) b.object (answer_show_children_in r u q) b.found
      (kind_free p causes.WrongKind (answer_ordered_children r u q b.object.id) (is_a r bases.Folder b.object) b.allowed
      (found p (ordered r u q.order xs) (λ ys. Ok (included_children r u q ys)) (order_aside p r u q.order xs refl) (λ ys. refl))))

  pub versions_allowed : (q : ShowVersions) → MayDo r u q.versions.place actions.GetAllVersions → NoneComes actions.GetAllVersions (answer_show_versions r u q)
  versions_allowed q b =
      let p = stands_for actions.GetAllVersions in
      let xs = versions_of r u b.object in
      let reply : IncludedObjectsReply = record { objects = map (included_version r u q) xs } in
      none_comes actions.GetAllVersions (answer_show_versions r u q) refl
      (found_at p causes.NotFound (addressed r u q.versions.place) b.object (answer_show_versions_of r u q) b.found
      (kind_free p causes.WrongKind (list_of (included_version r u q) xs) (is_a r bases.Document b.object) b.allowed
      (aside p (causes.TooMany (length xs)) (is_too_long (length xs)) (Ok reply) refl refl)))

  pub parents_allowed : (q : ShowParents) → MayDo r u q.parents.place actions.GetObjectParents → NoneComes actions.GetObjectParents (answer_show_parents r u q)
  parents_allowed q b =
      let p = stands_for actions.GetObjectParents in
      let segment = segment_of r q.parents.segments b.object in
      let fs = folders_of r u b.object in
      let reply : IncludedParentsReply = record { parents = map (included_parent r u q segment) fs } in
      none_comes actions.GetObjectParents (answer_show_parents r u q) refl
      (found_at p causes.NotFound (addressed r u q.parents.place) b.object (answer_show_parents_of r u q) b.found
      (kind_free p causes.NotFileable (included_parents r u q segment fs) (is_fileable r b.object) b.allowed
      (aside p (causes.TooMany (length fs)) (is_too_long (length fs)) (Ok reply) refl refl)))

  pub parent_allowed : (q : ReadParent) → IsWellFormed r → MayDo r u q.place actions.GetFolderParent → NoneComes actions.GetFolderParent (answer_parent r u q)
  parent_allowed q w b =
      let p = stands_for actions.GetFolderParent in
      let x = b.object in
      let a : AreAlike r r u = record { well = w; other_well = w; alike = refl } in
      let t = and_parts (is_a r bases.Folder x) (not (same x.id root)) b.allowed in
      let y = parent_read r u x w t.0 ((addressed_alike r r u q.place a).each x b.found).here (not-true (same x.id root) t.1) in
      none_comes actions.GetFolderParent (answer_parent r u q) refl
      (found_at p causes.NotFound (addressed r u q.place) x (answer_parent_of r u q.succinct) b.found
      (kind_free p causes.WrongKind (find_or causes.RootParent (parent_of r u x) >>= (λ f. Ok (parent_reply r u q.succinct f))) (is_a r bases.Folder x) t.0
      (found_at p causes.RootParent (parent_of r u x) y.0 (λ f. Ok (parent_reply r u q.succinct f)) y.1 refl)))
