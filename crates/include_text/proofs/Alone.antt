-- Where nothing is asked for beside the properties, the text is that of the plain readings.
use Rattle.std.specs.Prelude.{◌≡◌, ℕ, Bool, true, false, ◌&&◌, not, List, [], ◌∷◌, map, codes, Option, Some, None, Ok}
use Rattle.std.proofs.Common.{refl, sym, ap, ◌∙◌}
use Rattle.std.proofs.lemmas.Bool.{and_parts, both_ways, not-true}
use Rattle.serde_json.specs.Written.{compact_text}
use Rattle.cm_base.specs.declared.object.Object.{Object}
use Rattle.cm_base.specs.declared.cause.Cause.TheVariants as causes
use Rattle.cm_base.specs.Judged.{◌>>=◌, ◌>>◌, find_or, refuse}
use Rattle.cm_types.specs.declared.definition.BaseType.TheVariants as bases
use Rattle.call_parts.specs.declared.place.Place.{Place}
use Rattle.call_parts.specs.declared.readings.PropertyFilter.{PropertyFilter}
use Rattle.order_parts.specs.declared.readings.SortSpecification.{SortSpecification}
use Rattle.rendition_parts.specs.declared.filter.RenditionFilter.{RenditionFilter}
use Rattle.rendition_parts.specs.declared.filter.RenditionFilter.TheVariants as filters
use Rattle.include_parts.specs.declared.readings.IncludeRelationships.{IncludeRelationships}
use Rattle.include_parts.specs.declared.readings.IncludeRelationships.TheVariants as asks
use Rattle.include_parts.specs.declared.readings.Includes.{Includes}
use Rattle.include_parts.specs.declared.readings.ReturnVersion.{ReturnVersion}
use Rattle.include_parts.specs.declared.readings.ReturnVersion.TheVariants as versions
use Rattle.include_parts.specs.declared.readings.ShowChildren.{ShowChildren}
use Rattle.include_parts.specs.declared.readings.ShowObject.{ShowObject}
use Rattle.cmis_spec.specs.Repository.{Repository, is_a}
use Rattle.cmis_spec.specs.Access.{children_of}
use Rattle.cm_see.specs.Addressed.{addressed}
use Rattle.cm_see.specs.Shown.{shown_object}
use Rattle.cm_include.specs.declared.included.View.{View}
use Rattle.cm_include.specs.Included.{included_object, shown_beside}
use Rattle.object_json.specs.Objects.{shown_data}
use Rattle.object_json.specs.Pages.{child_data, children_data}
use Rattle.include_json.specs.Included.{fields_beside, included_data}
use Rattle.include_json.specs.Pages.{member_data, children_data as included_children_data}
use Rattle.rd_nav.specs.ReadObject.{answer_addressed}
use Rattle.rd_nav.specs.ReadChildren.{answer_children, children_reply, page}
use Rattle.rd_include.specs.ShowObject.{answer_included_in, answer_show_object, answer_version, included_reply, version_asked}
use Rattle.rd_order.specs.Ordered.{ordered}
use Rattle.rd_include.specs.ShowChildren.{answer_ordered_children, answer_show_children, included_child, included_children}
use Rattle.show_json.specs.Columns.{answer_text, object_answer_text}
use Rattle.include_text.specs.Texts.{are_bare_children, included_children_text, included_text, is_bare, is_bare_object, is_this, no_order, no_relationships, no_renditions}

none_asked : (i : IncludeRelationships) → no_relationships i ≡ true → i ≡ asks.Nothing
none_asked asks.Nothing h = refl
none_asked asks.Source h = absurd (both_ways false refl h)
none_asked asks.Target h = absurd (both_ways false refl h)
none_asked asks.Both h = absurd (both_ways false refl h)

none_kept : (f : RenditionFilter) → no_renditions f ≡ true → f ≡ filters.None
none_kept filters.None h = refl
none_kept filters.All h = absurd (both_ways false refl h)
none_kept (filters.Listed items) h = absurd (both_ways false refl h)

nothing_beside : (r : Repository) (u : List ℕ) (succinct : Bool) (i : Includes) (x : Object) → is_bare i ≡ true → fields_beside (shown_beside r u succinct i x) ≡ []
nothing_beside r u succinct i x h =
    let actions = not i.actions in
    let relationships = no_relationships i.relationships in
    let renditions = no_renditions i.renditions in
    let policies = not i.policy_ids in
    let e = and_parts (actions && relationships && renditions && policies) (not i.acl) h in
    let d = and_parts (actions && relationships && renditions) policies e.0 in
    let c = and_parts (actions && relationships) renditions d.0 in
    let b = and_parts actions relationships c.0 in
    rw (not-true i.actions b.0, none_asked i.relationships b.1, none_kept i.renditions c.1, not-true i.policy_ids d.1, not-true i.acl e.1) refl

pub bare_data : (r : Repository) (u : List ℕ) (f : PropertyFilter) (succinct : Bool) (i : Includes) (x : Object) → is_bare i ≡ true → included_data (included_object r u f succinct i x) ≡ shown_data (shown_object r u f succinct x)
unfolding included_data
bare_data r u f succinct i x h = rw (nothing_beside r u succinct i x h) refl

-- ---- objects

this_one : (r : Repository) (u : List ℕ) (v : ReturnVersion) (x : Object) → is_this v ≡ true → version_asked r u v x ≡ Some x
this_one r u versions.This x h = refl
this_one r u versions.Latest x h = absurd (both_ways false refl h)
this_one r u versions.LatestMajor x h = absurd (both_ways false refl h)

bare_found : (r : Repository) (u : List ℕ) (f : PropertyFilter) (succinct : Bool) (i : Includes) (o : Option Object) → is_bare i ≡ true
    → object_answer_text (find_or causes.NotFound o >>= λ x. Ok (record { object = shown_object r u f succinct x; created = false }))
    ≡ included_text (find_or causes.NotFound o >>= λ x. Ok (included_reply r u f succinct i x))
bare_found r u f succinct i None h = refl
bare_found r u f succinct i (Some x) h = ap (λ d. Ok (compact_text d)) (sym (bare_data r u f succinct i x h))

pub bare_object : (r : Repository) (u : List ℕ) (q : ShowObject) → is_bare_object q ≡ true
    → object_answer_text (answer_addressed r u q.object.place q.object.filter q.object.succinct) ≡ included_text (answer_show_object r u q)
bare_object r u q h =
    let a = and_parts (is_this q.version) (is_bare q.includes) h in
    by (addressed r u q.object.place) a.0 a.1
  where
    by : (o : Option Object) → is_this q.version ≡ true → is_bare q.includes ≡ true
        → object_answer_text (find_or causes.NotFound o >>= λ x. Ok (record { object = shown_object r u q.object.filter q.object.succinct x; created = false }))
        ≡ included_text (find_or causes.NotFound o >>= answer_version r u q)
    by None t b = refl
    by (Some x) t b = ap (λ d. Ok (compact_text d)) (sym (bare_data r u q.object.filter q.object.succinct q.includes x b))
        ∙ ap (λ v. included_text (find_or causes.NotFound v >>= λ y. Ok (included_reply r u q.object.filter q.object.succinct q.includes y))) (sym (this_one r u q.version x t))

pub bare_included : (v : View) (place : Place) → is_bare v.includes.now ≡ true
    → object_answer_text (answer_addressed v.state.now v.user.now place v.filter.now v.succinct) ≡ included_text (answer_included_in v place)
bare_included v place h = bare_found v.state.now v.user.now v.filter.now v.succinct v.includes.now (addressed v.state.now v.user.now place) h

-- ---- children

none_ordered : (order : List SortSpecification) → no_order order ≡ true → order ≡ []
none_ordered [] h = refl
none_ordered (s ∷ specifications) h = absurd (both_ways false refl h)

module _ (r : Repository) (u : List ℕ) (q : ShowChildren) (unordered : q.order ≡ []) (named : q.segments ≡ false) (bare : is_bare q.includes ≡ true) where
  bare_member : (x : Object) → member_data (codes "pathSegment") (included_child r u q x) ≡ child_data (shown_object r u q.children.filter q.children.succinct x)
  unfolding member_data
  bare_member x = rw (named, bare_data r u q.children.filter q.children.succinct q.includes x bare) refl

  bare_members : (xs : List Object) → map (member_data (codes "pathSegment")) (map (included_child r u q) xs) ≡ map child_data (map (shown_object r u q.children.filter q.children.succinct) xs)
  bare_members [] = refl
  bare_members (x ∷ xs) = (λ i. bare_member x i ∷ bare_members xs i)

  bare_page : (xs : List Object) → children_data (children_reply r u q.children xs) ≡ included_children_data (included_children r u q xs)
  unfolding children_data included_children_data
  bare_page xs = rw (bare_members (page q.children.skip_count q.children.max_items xs)) refl

  bare_in : (x : Object) → answer_text (refuse causes.WrongKind (not (is_a r bases.Folder x)) >> Ok (children_reply r u q.children (children_of r u x.id)))
      ≡ included_children_text (refuse causes.WrongKind (not (is_a r bases.Folder x)) >> answer_ordered_children r u q x.id)
  bare_in x = by (not (is_a r bases.Folder x))
    where
      as_they_stand : answer_ordered_children r u q x.id ≡ Ok (included_children r u q (children_of r u x.id))
      as_they_stand = ap (λ order. ordered r u order (children_of r u x.id) >>= λ xs. Ok (included_children r u q xs)) unordered

      by : (b : Bool) → answer_text (refuse causes.WrongKind b >> Ok (children_reply r u q.children (children_of r u x.id)))
          ≡ included_children_text (refuse causes.WrongKind b >> answer_ordered_children r u q x.id)
      by true = refl
      by false = ap (λ d. Ok (compact_text d)) (bare_page (children_of r u x.id)) ∙ sym (ap included_children_text as_they_stand)

  bare_addressed : (o : Option Object)
      → answer_text (find_or causes.NotFound o >>= λ x. refuse causes.WrongKind (not (is_a r bases.Folder x)) >> Ok (children_reply r u q.children (children_of r u x.id)))
      ≡ included_children_text (find_or causes.NotFound o >>= λ x. refuse causes.WrongKind (not (is_a r bases.Folder x)) >> answer_ordered_children r u q x.id)
  bare_addressed None = refl
  bare_addressed (Some x) = bare_in x

pub bare_children : (r : Repository) (u : List ℕ) (q : ShowChildren) → are_bare_children q ≡ true
    → answer_text (answer_children r u q.children) ≡ included_children_text (answer_show_children r u q)
bare_children r u q h =
    let a = and_parts (no_order q.order && not q.segments) (is_bare q.includes) h in
    let b = and_parts (no_order q.order) (not q.segments) a.0 in
    bare_addressed r u q (none_ordered q.order b.0) (not-true q.segments b.1) a.1 (addressed r u q.children.place)
