-- An update keeps what is well formed.
use Rattle.std.specs.Prelude.{◌≡◌, ℕ, Bool, true, false, not, ◌&&◌, if◌then◌else◌, List, [], ◌∷◌, ◌++◌, filter, All, Option, Some, None, Ok, is_some, unwrap_or, option_map, option_and_then, bytes_eq, codes}
use Rattle.std.specs.List.{list_any}
use Rattle.std.proofs.Common.{refl, sym, ap, subst, ◌∙◌, arith}
use Rattle.std.proofs.lemmas.Bool.{both_ways}
use Rattle.std.proofs.lemmas.List.Elements.{All-nil, All-cons, All-head, All-tail, All-weaker, All-append, All-filter}
use Rattle.cm_base.specs.declared.number.Oid.{Oid}
use Rattle.cm_base.specs.declared.number.Moment.{Moment}
use Rattle.cm_base.specs.declared.object.Object.{Object}
use Rattle.cm_base.specs.declared.series.Series.{Series}
use Rattle.cm_base.specs.declared.filing.Filed.{Filed}
use Rattle.cm_base.specs.declared.access.Level.TheVariants as levels
use Rattle.cm_base.specs.declared.log.ChangeKind.TheVariants as changes
use Rattle.cm_base.specs.declared.cause.Cause.TheVariants as causes
use Rattle.cm_base.specs.Judged.{◌>>=◌, find_or, first_cause}
use Rattle.cm_base.specs.Names.{is_name}
use Rattle.cm_types.specs.declared.definition.BaseType.TheVariants as bases
use Rattle.cm_types.specs.declared.given.PropertyCall.TheVariants as calls
use Rattle.cm_types.specs.Types.{is_below, props_of}
use Rattle.cm_types.specs.Properties.{given_of, judge_properties}
use Rattle.call_parts.specs.declared.changes.UpdateProperties.{UpdateProperties}
use Rattle.cm_see.specs.Addressed.{addressed}
use Rattle.cmis_spec.specs.Repository.{Repository, same, root, object_at, series_at, is_a, entry_of, is_taken}
use Rattle.cmis_spec.specs.Access.{lacks}
use Rattle.cmis_spec.specs.Changes.{stepped, noted, edited, series_edited}
use Rattle.cmis_spec.specs.Documents.{is_working_copy, judge_changeable}
use Rattle.cmis_spec.specs.Well.{HasNumbers, IsSeriesAt, Belongs, HasEnds, is_version, IsTyped, IsKept, OwnsValues, IsWellFormed}
use Rattle.cmis_laws.proofs.Lists.{found_holds, all_from_any, none_some}
use Rattle.cmis_laws.proofs.Entries.{series_found}
use Rattle.cmis_laws.proofs.Edited.{edit_keeps}
use Rattle.cmis_laws.proofs.Passed.{refused_not, then_ok, refuse_ok}
use Rattle.cmis_laws.proofs.Steps.{note_keeps}
use Rattle.wr_rules.specs.Rules.{judge_token, distinct, secondary_in, unknown_type, has_other_secondary}
use Rattle.wr_rules.specs.Documents.{form_slots, name_after, secondary_after, is_taken_anywhere}
use Rattle.wr_rules.proofs.Found.{addressed_there}
use Rattle.wr_rules.proofs.Known.{below_secondary}
use Rattle.cm_series.specs.Series.{under_name}
use Rattle.wr_change.specs.Update.{secondary_named, props_updated, gives_name, takes_name, judge_new_name, judge_allowed, judge_update, refusal_one, name_kept, updated_object, renamed, changed_in}
use Rattle.wr_change.specs.UpdateParts.{MayChange}
use Rattle.wr_change.proofs.Ends.{all_front, all_back, ends_updated}
use Rattle.wr_change.proofs.KeptUpdated.{kept_updated, owns_updated}
use Rattle.wr_change.proofs.Renamed.{rename_keeps}

-- ---- what a refusal that is none tells

right : (r : Repository) (u : List ℕ) (m : Moment) (call : UpdateProperties) (x : Object) → object_at r x.id ≡ Some x → judge_update r u m call x ≡ Ok tt → MayChange r call x
right r u m call x there h =
    let t = then_ok (first_cause (unknown_type r.types) (secondary_named call)) _ h in
    let l = then_ok (judge_allowed r u call x) _ t.1 in
    let d = refuse_ok causes.Denied (lacks r u levels.Write x) _ l.0 in
    let e = then_ok (judge_token x call.token) _ d.1 in
    let f = refuse_ok causes.RootFixed (same x.id root && gives_name call) _ e.1 in
    let g = then_ok (judge_changeable r x) _ f.1 in
    let p = then_ok (judge_properties (calls.Update (is_working_copy r x)) (props_updated r call x) (form_slots r x) call.properties) _ l.1 in
    let n = then_ok (judge_new_name r call x) _ p.1 in
    let b = refuse_ok causes.BadName (not (is_name (name_after r x call.properties))) _ n.0 in
    record {
      there = there;
      secondary = refused_not causes.TypeKind (has_other_secondary r.types (secondary_named call)) g.1;
      properties = p.0;
      free = refused_not causes.NameTaken (takes_name r x (name_after r x call.properties)) b.1;
    }

-- what is found may be changed so
pub found_right : (r : Repository) (u : List ℕ) (m : Moment) (call : UpdateProperties) (x : Object) → HasNumbers r → addressed r u call.place ≡ Some x → refusal_one r u m call ≡ Ok tt → MayChange r call x
found_right r u m call x numbers at h = right r u m call x (addressed_there r u call.place x numbers at) (subst (λ o. (find_or causes.NotFound o >>= judge_update r u m call) ≡ Ok tt) at h)

-- also in a step that is taken for it
pub right_stepped : (r : Repository) (cost : ℕ) (call : UpdateProperties) (x : Object) → MayChange r call x → MayChange (stepped r cost) call x
right_stepped r cost call x p = record { there = p.there; secondary = p.secondary; properties = p.properties; free = p.free }

-- ---- parts

distinct_all : (P : List ℕ → Type 0) (ids : List (List ℕ)) → All P ids → All P (distinct ids)
distinct_all P [] all = All-nil P
distinct_all P (id ∷ ids) all = All-cons P id (filter (λ s. not (bytes_eq s id)) (distinct ids)) (All-head P id ids all)
    (All-filter (λ s. not (bytes_eq s id)) P (distinct ids) (distinct_all P ids (All-tail P id ids all)))

either : (P : List (List ℕ) → Type 0) (b : Bool) (xs ys : List (List ℕ)) → P xs → P ys → P (if b then xs else ys)
either P true xs ys p q = p
either P false xs ys p q = q

taken_not : (a b : Bool) → a && b ≡ false → a ≡ true → b ≡ false
taken_not true b h e = h
taken_not false b h e = absurd (both_ways false refl e)

not_working : (a b : Bool) → not a && b ≡ false → a ≡ false → b ≡ false
not_working true b h e = absurd (both_ways true e refl)
not_working false b h e = h

named_same : (o : Option (List ℕ)) (name : List ℕ) → is_some (name_kept o name) ≡ is_some o
named_same None name = refl
named_same (Some t) name = refl

own_name : (o : Option (List ℕ)) (name : List ℕ) → is_some o ≡ true → unwrap_or (name_kept o name) [] ≡ name
own_name None name h = absurd (both_ways false refl h)
own_name (Some t) name h = refl

-- ---- all

module _ (r : Repository) (u : List ℕ) (m : Moment) (call : UpdateProperties) (x : Object) (w : IsWellFormed r) (p : MayChange r call x) where
  abbrev y : Object
  y = updated_object r u m call x

  abbrev name : List ℕ
  name = name_after r x call.properties

  there : object_at r x.id ≡ Some x
  there = p.there

  belongs : Belongs r x x.series
  belongs = found_holds (λ z. Belongs r z z.series) (λ z. same z.id x.id) r.objects x w.documents there

  abbrev IsSecondary : List ℕ → Type 0
  IsSecondary s = is_below r.types s (codes "cmis:secondary") ≡ true

  typed : IsTyped r.types y
  typed =
      let was : IsTyped r.types x = found_holds (IsTyped r.types) (λ z. same z.id x.id) r.objects x w.typed there in
      let named : All IsSecondary (secondary_named call) = below_secondary r.types (secondary_named call) p.secondary in
      let more = all_front IsSecondary (secondary_in call.properties ++ call.remove_secondary) call.add_secondary named in
      let given = all_front IsSecondary (secondary_in call.properties) call.remove_secondary more in
      let keep : List ℕ → Bool = λ t. not (list_any (bytes_eq t) call.remove_secondary) in (
        was.0,
        distinct_all IsSecondary (filter keep (secondary_after x call.properties) ++ call.add_secondary)
            (All-append IsSecondary (filter keep (secondary_after x call.properties)) call.add_secondary
            (All-filter keep IsSecondary (secondary_after x call.properties)
            (either (All IsSecondary) (is_some (given_of call.properties (codes "cmis:secondaryObjectTypeIds"))) (secondary_in call.properties) x.secondary given was.1))
            (all_back IsSecondary (secondary_in call.properties ++ call.remove_secondary) call.add_secondary named)),
      )

  kept_in : (q : Repository) → IsKept q (props_of r.types y.kind y.secondary) y
  kept_in q = kept_updated r q (calls.Update (is_working_copy r x)) call.properties x y w.defs
      (found_holds (λ z. IsKept r (props_of r.types z.kind z.secondary) z) (λ z. same z.id x.id) r.objects x w.kept there)
      (found_holds (OwnsValues r.types) (λ z. same z.id x.id) r.objects x w.own_values there) (λ d. refl) p.properties refl

  owned : OwnsValues r.types y
  owned = owns_updated r.types (calls.Update (is_working_copy r x)) (form_slots r x) call.properties y w.types typed refl

  ends : is_a r bases.Relationship x ≡ true → HasEnds r y
  ends e = ends_updated r (is_working_copy r x) call.properties x y w.types w.defs p.properties refl
      (found_holds (λ z. is_a r bases.Relationship z ≡ true → HasEnds r z) (λ z. same z.id x.id) r.objects x w.relationships there e)

  own_x : is_some x.name ≡ not (is_version r x)
  own_x = found_holds (λ z. is_some z.name ≡ not (is_version r z)) (λ z. same z.id x.id) r.objects x w.own_names there

  abbrev IsAway : Filed → Type 0
  IsAway q = same q.child (entry_of x) && is_taken r q.folder (entry_of x) name ≡ false

  -- where it is no working copy, its name is free in each of its folders
  away : is_working_copy r x ≡ false → All IsAway r.filed
  away e = all_from_any (λ q. same q.child (entry_of x) && is_taken r q.folder (entry_of x) name) r.filed (not_working (is_working_copy r x) (is_taken_anywhere r (entry_of x) name) p.free e)

  -- of what is in no series
  free_by : (o : Option Oid) → x.series ≡ o → All (λ q. x.series ≡ None → same q.child x.id ≡ true → is_taken r q.folder x.id (unwrap_or y.name []) ≡ false) r.filed
  free_by (Some n) h = every r.filed
    where
      every : (qs : List Filed) → All (λ q. x.series ≡ None → same q.child x.id ≡ true → is_taken r q.folder x.id (unwrap_or y.name []) ≡ false) qs
      every [] = All-nil (λ q. x.series ≡ None → same q.child x.id ≡ true → is_taken r q.folder x.id (unwrap_or y.name []) ≡ false)
      every (q ∷ qs) = All-cons (λ q. x.series ≡ None → same q.child x.id ≡ true → is_taken r q.folder x.id (unwrap_or y.name []) ≡ false) q qs (λ none _. absurd (none_some n (sym none ∙ h))) (every qs)
  free_by None h =
      let entry : entry_of x ≡ x.id = ap (λ o. unwrap_or o x.id) h in
      let copy : is_working_copy r x ≡ false = ap (λ o. unwrap_or (option_map (λ s. unwrap_or (option_map (λ w. same w.copy x.id) s.working) false) (option_and_then (series_at r) o)) false) h in
      let version : is_version r x ≡ false = ap (λ o. unwrap_or (option_map (λ n. unwrap_or (option_map (λ s. list_any (λ v. same v.object x.id) s.versions) (series_at r n)) false) o) false) h in
      let its : unwrap_or y.name [] ≡ name = own_name x.name name (own_x ∙ ap not version) in
      All-weaker IsAway (λ q. x.series ≡ None → same q.child x.id ≡ true → is_taken r q.folder x.id (unwrap_or y.name []) ≡ false)
      (λ q a _ e. subst (λ t. is_taken r q.folder x.id t ≡ false) (sym its)
      (subst (λ n. is_taken r q.folder n name ≡ false) entry (taken_not (same q.child (entry_of x)) (is_taken r q.folder (entry_of x) name) a (subst (λ n. same q.child n ≡ true) (sym entry) e))))
      r.filed (away copy)

  alone_well : IsWellFormed (noted (edited r x.id (λ _. y)) changes.Updated x.id m [])
  alone_well = note_keeps (edited r x.id (λ _. y)) changes.Updated x.id m [] (edit_keeps r x (λ _. y) w (record {
    there = there;
    id = refl;
    kind = refl;
    series = refl;
    named = named_same x.name name;
    free = free_by x.series refl;
    typed = typed;
    kept = kept_in r;
    owned = owned;
    ends = ends;
    token = omega arith;
  }))

  -- the series gets the name first
  module _ (n : Oid) (own : x.series ≡ Some n) (no_copy : is_working_copy r x ≡ false) (is_there : IsSeriesAt r n) where
    abbrev s : Series
    s = is_there.0

    number : s.id ≡ n
    number = series_found r n s is_there.1

    entry : entry_of x ≡ s.id
    entry = ap (λ o. unwrap_or o x.id) own ∙ sym number

    abbrev base : Repository
    base = series_edited r s.id (under_name name)

    base_well : IsWellFormed base
    base_well = rename_keeps r s name w (ap (series_at r) number ∙ is_there.1)
        (All-weaker IsAway (λ q. same q.child s.id ≡ true → is_taken r q.folder s.id name ≡ false)
        (λ q a e. subst (λ n. is_taken r q.folder n name ≡ false) entry (taken_not (same q.child (entry_of x)) (is_taken r q.folder (entry_of x) name) a (subst (λ n. same q.child n ≡ true) (sym entry) e)))
        r.filed (away no_copy))

    never : (qs : List Filed) → All (λ q. x.series ≡ None → same q.child x.id ≡ true → is_taken base q.folder x.id (unwrap_or y.name []) ≡ false) qs
    never [] = All-nil (λ q. x.series ≡ None → same q.child x.id ≡ true → is_taken base q.folder x.id (unwrap_or y.name []) ≡ false)
    never (q ∷ qs) = All-cons (λ q. x.series ≡ None → same q.child x.id ≡ true → is_taken base q.folder x.id (unwrap_or y.name []) ≡ false) q qs (λ none _. absurd (none_some n (sym none ∙ own))) (never qs)

    series_well : IsWellFormed (noted (edited (series_edited r n (under_name name)) x.id (λ _. y)) changes.Updated x.id m [])
    series_well = subst (λ k. IsWellFormed (noted (edited (series_edited r k (under_name name)) x.id (λ _. y)) changes.Updated x.id m [])) number
        (note_keeps (edited base x.id (λ _. y)) changes.Updated x.id m []
        (edit_keeps base x (λ _. y) base_well (record {
          there = there;
          id = refl;
          kind = refl;
          series = refl;
          named = named_same x.name name;
          free = never r.filed;
          typed = typed;
          kept = kept_in base;
          owned = owned;
          ends = ends;
          token = omega arith;
        })))

  update_by : (working : Bool) (o : Option Oid) → is_working_copy r x ≡ working → x.series ≡ o → IsWellFormed (noted (edited (renamed r name working o) x.id (λ _. y)) changes.Updated x.id m [])
  update_by working None e h = alone_well
  update_by true (Some n) e h = alone_well
  update_by false (Some n) e h = let b : Belongs r x (Some n) = subst (Belongs r x) h belongs in series_well n h e (b.1.0, b.1.1)

  pub changed_well : IsWellFormed (changed_in r u m call x)
  changed_well = update_by (is_working_copy r x) x.series refl refl
