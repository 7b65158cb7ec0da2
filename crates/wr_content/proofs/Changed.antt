-- A document that is given content, or rid of it, keeps what is well formed, and is found under its number.
use Rattle.std.specs.Prelude.{◌≡◌, ℕ, ◌+◌, ◌≤◌, ◌<◌, true, false, not, if◌then◌else◌, List, [], ◌∷◌, map, find, length, All, Some, None, option_map, unwrap_or}
use Rattle.std.proofs.Common.{refl, sym, ap, subst, ◌∙◌, arith}
use Rattle.std.proofs.lemmas.Bool.{both_ways}
use Rattle.std.proofs.lemmas.List.Elements.{All-nil, All-cons, All-filter}
use Rattle.cm_base.specs.declared.number.Oid.{Oid}
use Rattle.cm_base.specs.declared.number.Moment.{Moment}
use Rattle.cm_base.specs.declared.object.Object.{Object}
use Rattle.cm_base.specs.declared.content.Content.{Content}
use Rattle.cm_base.specs.declared.filing.Filed.{Filed}
use Rattle.cm_base.specs.declared.log.ChangeKind.TheVariants as changes
use Rattle.cm_types.specs.declared.definition.BaseType.TheVariants as bases
use Rattle.cm_types.specs.Types.{props_of}
use Rattle.cmis_spec.specs.Repository.{Repository, same, longest_stream, object_at, is_a, is_taken}
use Rattle.cmis_spec.specs.Changes.{stepped, without_content}
use Rattle.cmis_spec.specs.Documents.{with_content}
use Rattle.cmis_spec.specs.Well.{IsBaseAt, Belongs, IsTyped, IsKept, OwnsValues, HasEnds, IsWellFormed}
use Rattle.cmis_laws.proofs.Lists.{by_test, find_alike, found_holds, same_refl}
use Rattle.cmis_laws.proofs.Kept.{find_mapped}
use Rattle.cmis_laws.proofs.Left.{apart_filter}
use Rattle.cmis_laws.proofs.Edited.{IsEdit, edit_keeps}
use Rattle.cmis_laws.proofs.Listed.{content_keeps}
use Rattle.cmis_laws.proofs.Steps.{HasRoom, step_keeps, note_keeps}
use Rattle.wr_content.specs.Changed.{changed_by, replaced, filled, cleared}

-- ---- an object in place of the one that has its number is found there

pub put_there : (xs : List Object) (y v : Object) → v.id ≡ y.id → find (λ z. same z.id y.id) xs ≡ Some y → find (λ z. same z.id y.id) (map (λ z. if same z.id y.id then v else z) xs) ≡ Some v
put_there xs y v id there =
    find_mapped put (λ z. same z.id y.id) xs
    ∙ (ap (option_map put) (find_alike (λ z. same (put z).id y.id) (λ z. same z.id y.id) xs (every xs) ∙ there) ∙ ap (λ b. Some (if b then v else y)) (same_refl y.id))
  where
    put : Object → Object
    put z = if same z.id y.id then v else z

    put_number : (z : Object) → same (put z).id y.id ≡ same z.id y.id
    put_number z = by_test (same z.id y.id) (λ e. rw e (subst (λ n. same n y.id ≡ true) (sym id) (same_refl y.id))) (λ e. rw e e)

    every : (zs : List Object) → All (λ z. same (put z).id y.id ≡ same z.id y.id) zs
    every [] = All-nil (λ z. same (put z).id y.id ≡ same z.id y.id)
    every (z ∷ zs) = All-cons (λ z. same (put z).id y.id ≡ same z.id y.id) z zs (put_number z) (every zs)

pub filled_there : (r : Repository) (u : List ℕ) (m : Moment) (cost : ℕ) (x : Object) (c : Content) → object_at r x.id ≡ Some x → object_at (filled r (changed_by r u m x) c cost) x.id ≡ Some (changed_by r u m x)
filled_there r u m cost x c there = put_there r.objects x (changed_by r u m x) refl there

pub cleared_there : (r : Repository) (u : List ℕ) (m : Moment) (cost : ℕ) (x : Object) → object_at r x.id ≡ Some x → object_at (cleared r (changed_by r u m x) cost) x.id ≡ Some (changed_by r u m x)
cleared_there r u m cost x there = put_there r.objects x (changed_by r u m x) refl there

-- ---- a content gone keeps what is well formed

without_keeps : (r : Repository) (n : Oid) → IsWellFormed r → IsWellFormed (without_content r n)
without_keeps r n w = record {
  numbers = w.numbers;
  series_numbers = w.series_numbers;
  firsts = w.firsts;
  renditions = w.renditions;
  root = w.root;
  ways = w.ways;
  one_parent = w.one_parent;
  pairs = w.pairs;
  names = w.names;
  documents = w.documents;
  series = w.series;
  plain = w.plain;
  own_names = w.own_names;
  relationships = w.relationships;
  policies = w.policies;
  access = w.access;
  listed = w.listed;
  contents = (
    apart_filter (λ c d. c.of.0 < d.of.0) (λ c. not (same c.of n)) r.contents w.contents.0,
    All-filter (λ c. not (same c.of n)) (λ c. IsBaseAt r bases.Document c.of × (c.step ≤ r.step)) r.contents w.contents.1,
  );
  sizes = All-filter (λ c. not (same c.of n)) (λ c. length c.stream.pieces ≤ longest_stream) r.contents w.sizes;
  typed = w.typed;
  types = w.types;
  defs = w.defs;
  kept = w.kept;
  own_values = w.own_values;
  groups = w.groups;
  bounds = w.bounds;
  tokens = w.tokens;
  labels = w.labels;
}

-- ---- all

module _ (r : Repository) (u : List ℕ) (m : Moment) (cost : ℕ) (x : Object) (w : IsWellFormed r) (room : HasRoom r cost) (there : object_at r x.id ≡ Some x) (document : is_a r bases.Document x ≡ true) where
  abbrev y : Object
  y = changed_by r u m x

  -- a document is filed and named by its series
  in_series : x.series ≡ None → ⊥
  in_series e = both_ways (is_a r bases.Document x) (subst (Belongs r x) e (found_holds (λ z. Belongs r z z.series) (λ z. same z.id x.id) r.objects x w.documents there)) document

  every_pair : (ps : List Filed) → All (λ p. x.series ≡ None → same p.child x.id ≡ true → is_taken (stepped r cost) p.folder x.id (unwrap_or x.name []) ≡ false) ps
  every_pair [] = All-nil (λ p. x.series ≡ None → same p.child x.id ≡ true → is_taken (stepped r cost) p.folder x.id (unwrap_or x.name []) ≡ false)
  every_pair (p ∷ ps) = All-cons (λ p. x.series ≡ None → same p.child x.id ≡ true → is_taken (stepped r cost) p.folder x.id (unwrap_or x.name []) ≡ false) p ps (λ e t. absurd (in_series e)) (every_pair ps)

  is_edit : IsEdit (stepped r cost) x y
  is_edit = record {
    there = there;
    id = refl;
    kind = refl;
    series = refl;
    named = refl;
    free = every_pair r.filed;
    typed = found_holds (IsTyped r.types) (λ z. same z.id x.id) r.objects x w.typed there;
    kept = found_holds (λ z. IsKept r (props_of r.types z.kind z.secondary) z) (λ z. same z.id x.id) r.objects x w.kept there;
    owned = found_holds (OwnsValues r.types) (λ z. same z.id x.id) r.objects x w.own_values there;
    ends = found_holds (λ z. is_a r bases.Relationship z ≡ true → HasEnds r z) (λ z. same z.id x.id) r.objects x w.relationships there;
    token = omega arith;
  }

  put_well : IsWellFormed (replaced (stepped r cost) y)
  put_well = edit_keeps (stepped r cost) x (λ _. y) (step_keeps r cost w room) is_edit

  document_there : IsBaseAt (replaced (stepped r cost) y) bases.Document x.id
  document_there = (y, put_there r.objects x y refl there, document)

  pub filled_keeps : (c : Content) → c.of ≡ x.id → c.step ≤ r.step + 1 → length c.stream.pieces ≤ longest_stream → IsWellFormed (filled r y c cost)
  filled_keeps c of step size = note_keeps (with_content (replaced (stepped r cost) y) c) changes.Updated x.id m []
      (content_keeps (replaced (stepped r cost) y) c put_well (subst (IsBaseAt (replaced (stepped r cost) y) bases.Document) (sym of) document_there) step size)

  pub cleared_keeps : IsWellFormed (cleared r y cost)
  cleared_keeps = note_keeps (without_content (replaced (stepped r cost) y) x.id) changes.Updated x.id m [] (without_keeps (replaced (stepped r cost) y) x.id put_well)
