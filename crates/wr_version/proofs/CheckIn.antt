-- checkIn keeps what is well formed.
use Rattle.std.specs.Prelude.{◌≡◌, ℕ, ◌+◌, ◌≤◌, Bool, true, false, not, ◌&&◌, if◌then◌else◌, List, [], ◌∷◌, length, All, Option, Some, None, IfSome, Ok, is_some, unwrap_or, option_map, option_and_then, codes}
use Rattle.std.proofs.Common.{refl, sym, ap, subst, ◌∙◌, arith}
use Rattle.std.proofs.lemmas.Bool.{both_ways, ltb-false}
use Rattle.std.proofs.lemmas.List.Elements.{All-nil, All-cons, All-weaker}
use Rattle.cm_base.specs.declared.number.Oid.{Oid}
use Rattle.cm_base.specs.declared.number.Moment.{Moment}
use Rattle.cm_base.specs.declared.object.Object.{Object}
use Rattle.cm_base.specs.declared.content.Content.{Content}
use Rattle.cm_base.specs.declared.series.Series.{Series}
use Rattle.cm_base.specs.declared.series.Label.{Label}
use Rattle.cm_base.specs.declared.series.DocumentVersion.{DocumentVersion}
use Rattle.cm_base.specs.declared.series.WorkingCopy.{WorkingCopy}
use Rattle.cm_base.specs.declared.access.Level.TheVariants as levels
use Rattle.cm_base.specs.declared.log.ChangeKind.TheVariants as changes
use Rattle.cm_base.specs.declared.cause.Cause.TheVariants as causes
use Rattle.cm_base.specs.Judged.{first_cause}
use Rattle.cm_base.specs.Names.{is_name}
use Rattle.cm_types.specs.declared.definition.BaseType.TheVariants as bases
use Rattle.cm_types.specs.declared.given.PropertyCall.TheVariants as calls
use Rattle.cm_types.specs.Types.{is_below, props_of}
use Rattle.cm_types.specs.Properties.{def_of, given_of, judge_properties}
use Rattle.call_parts.specs.declared.versions.CheckIn.{CheckIn}
use Rattle.call_parts.specs.declared.stream.GivenStream.{GivenStream}
use Rattle.cm_see.specs.Addressed.{addressed}
use Rattle.cmis_spec.specs.Repository.{Repository, same, longest_stream, object_at, is_a, type_of, entry_of, last_of, is_taken}
use Rattle.cmis_spec.specs.Access.{lacks}
use Rattle.cmis_spec.specs.Changes.{stepped, noted}
use Rattle.cmis_spec.specs.Documents.{is_working_copy, is_copy_of, last_label, next_label, with_version, with_contents}
use Rattle.cmis_spec.specs.Well.{IsBaseAt, IsLabel, IsTyped, IsKept, OwnsValues, IsWellFormed}
use Rattle.cmis_laws.proofs.Lists.{by_test, find_alike, found_holds, all_from_any, same_eq, same_refl}
use Rattle.cmis_laws.proofs.Kept.{find_mapped}
use Rattle.cmis_laws.proofs.Begun.{HasLabelsOf}
use Rattle.cmis_laws.proofs.CheckedIn.{IsCheckIn, check_in_keeps}
use Rattle.cmis_laws.proofs.Listed.{content_keeps}
use Rattle.cmis_laws.proofs.Passed.{refused_not, then_ok, refuse_ok, find_ok, not_false}
use Rattle.cmis_laws.proofs.Steps.{HasRoom, step_keeps, note_keeps}
use Rattle.wr_rules.specs.Rules.{judge_storage, secondary_in, unknown_type, has_other_secondary}
use Rattle.wr_rules.specs.Documents.{form_slots, name_after, judge_content, is_too_long, content_of_stream, is_taken_anywhere}
use Rattle.cm_state.specs.Looks.{content_at}
use Rattle.wr_rules.proofs.Found.{addressed_there}
use Rattle.wr_rules.proofs.Known.{below_secondary}
use Rattle.wr_rules.proofs.Room.{room_of}
use Rattle.wr_rules.proofs.Changed.{kept_changed, owns_changed}
use Rattle.wr_version.specs.CheckIn.{props_after, judge_copy, refusal_check_in, new_version, new_label, given_content, after_check_in_of, after_check_in}
use Rattle.wr_version.proofs.CheckOut.{IsIn, series_is}
use Rattle.wr_version.proofs.Commented.{slice_holds, has_comment}

-- ---- what a refusal that is none tells

pub record Passes (r : Repository) (u : List ℕ) (cost : ℕ) (call : CheckIn) : Type 0 where
  pub room : HasRoom r cost
  pub x : Object
  pub at : addressed r u call.place ≡ Some x
  pub document : is_a r bases.Document x ≡ true
  pub working : is_working_copy r x ≡ true
  pub secondary : has_other_secondary r.types (secondary_in call.properties) ≡ false
  pub properties : judge_properties calls.CheckIn (props_after r call x) (form_slots r x) call.properties ≡ Ok tt
  pub long : unwrap_or (option_map is_too_long call.stream) false ≡ false
  pub free : is_taken_anywhere r (entry_of x) (name_after r x call.properties) ≡ false

pub passes : (r : Repository) (u : List ℕ) (cost : ℕ) (call : CheckIn) → refusal_check_in r u cost call ≡ Ok tt → Passes r u cost call
passes r u cost call h =
    let s = then_ok (judge_storage r cost) _ h in
    let a = find_ok causes.NotFound (addressed r u call.place) _ s.1 in
    let b = find_ok causes.TypeNotFound (type_of r a.0) _ a.2 in
    let t = then_ok (first_cause (unknown_type r.types) (secondary_in call.properties)) _ b.2 in
    let c = then_ok (judge_copy r u call a.0) _ t.1 in
    let d = refuse_ok causes.Denied (lacks r u levels.Write a.0) _ c.0 in
    let e = refuse_ok causes.WrongKind (not (is_a r bases.Document a.0)) _ d.1 in
    let f = refuse_ok causes.NotWorking (not (is_working_copy r a.0)) _ e.1 in
    let g = then_ok (judge_properties calls.CheckIn (props_after r call a.0) (form_slots r a.0) call.properties) _ c.1 in
    let i = then_ok (judge_content b.0 call.stream (content_at r a.0.id)) _ g.1 in
    let j = refuse_ok causes.StreamNot _ _ i.0 in
    let k = refuse_ok causes.ContentRequired _ _ j.1 in
    let l = refuse_ok causes.BadName (not (is_name (name_after r a.0 call.properties))) _ i.1 in
    record {
      room = room_of r cost s.0;
      x = a.0;
      at = a.1;
      document = not_false (is_a r bases.Document a.0) e.0;
      working = not_false (is_working_copy r a.0) f.0;
      secondary = refused_not causes.TypeKind (has_other_secondary r.types (secondary_in call.properties)) f.1;
      properties = g.0;
      long = refused_not causes.StreamLong (unwrap_or (option_map is_too_long call.stream) false) k.1;
      free = refused_not causes.NameTaken (is_taken_anywhere r (entry_of a.0) (name_after r a.0 call.properties)) l.1;
    }

-- ---- parts

either : (P : List (List ℕ) → Type 0) (b : Bool) (xs ys : List (List ℕ)) → P xs → P ys → P (if b then xs else ys)
either P true xs ys p q = p
either P false xs ys p q = q

working_is : (n : Oid) (o : Option WorkingCopy) → unwrap_or (option_map (λ w. same w.copy n) o) false ≡ true → (owner : List ℕ) × (o ≡ Some (record { copy = n; owner = owner }))
working_is n None h = absurd (both_ways false refl h)
working_is n (Some c) h = (c.owner, ap (λ k. Some (record { copy = k; owner = c.owner })) (same_eq c.copy n h))

pub last_labelled : (step : ℕ) (s : Series) → HasLabelsOf step s → IsLabel step (last_label s)
last_labelled step s h = by (last_of s.versions) refl
  where
    of_label : (o : Option Label) → IfSome o (IsLabel step) → IsLabel step (unwrap_or o (record { major = 0; minor = 0 }))
    of_label None k = (omega arith, omega arith)
    of_label (Some l) k = k

    by : (o : Option DocumentVersion) → last_of s.versions ≡ o → IsLabel step (last_label s)
    by None e = subst (λ q. IsLabel step (unwrap_or (option_and_then (λ (v : DocumentVersion). v.label) q) (record { major = 0; minor = 0 }))) (sym e) (omega arith, omega arith)
    by (Some v) e = subst (λ q. IsLabel step (unwrap_or (option_and_then (λ (v : DocumentVersion). v.label) q) (record { major = 0; minor = 0 }))) (sym e)
        (of_label v.label (slice_holds (λ v. IfSome v.label (IsLabel step)) s.versions _ v h e))

next_labelled : (step : ℕ) (b : Bool) (l : Label) → IsLabel step l → IsLabel (step + 1) (next_label b l)
next_labelled step true l h = (omega (arith, h.0), omega arith)
next_labelled step false l h = (omega (arith, h.0), omega (arith, h.1))

sized : (n : Oid) (name : List ℕ) (step : ℕ) (o : Option GivenStream) → unwrap_or (option_map is_too_long o) false ≡ false
    → IfSome (option_map (content_of_stream n name step) o) (λ c. (c.of ≡ n) × (c.step ≤ step) × (length c.stream.pieces ≤ longest_stream))
sized n name step None h = tt
sized n name step (Some s) h = (refl, omega arith, ltb-false longest_stream (length s.pieces) h)

taken_not : (a b : Bool) → a && b ≡ false → a ≡ true → b ≡ false
taken_not true b h e = h
taken_not false b h e = absurd (both_ways false refl e)

for_any : (P : Type 0) (o : Option (List ℕ)) → P → IfSome o (λ t. P)
for_any P None p = tt
for_any P (Some t) p = p

-- ---- all

module _ (r : Repository) (u : List ℕ) (m : Moment) (cost : ℕ) (call : CheckIn) (w : IsWellFormed r) (p : Passes r u cost call) where
  abbrev y : Object
  y = p.x

  abbrev x : Object
  x = new_version r u m call y

  abbrev name : List ℕ
  name = name_after r y call.properties

  there : object_at r y.id ≡ Some y
  there = addressed_there r u call.place y w.numbers p.at

  here : IsIn r y
  here = series_is r y w there p.document

  abbrev s : Series
  s = here.series

  of_copy : (owner : List ℕ) × (s.working ≡ Some (record { copy = y.id; owner = owner }))
  of_copy = working_is y.id s.working (sym (ap (λ o. unwrap_or (option_map (λ t. is_copy_of t y.id) o) false) here.found) ∙ p.working)

  typed : IsTyped r.types x
  typed =
      let was : IsTyped r.types y = found_holds (IsTyped r.types) (λ z. same z.id y.id) r.objects y w.typed there in
      (was.0, either (All (λ t. is_below r.types t (codes "cmis:secondary") ≡ true)) (is_some (given_of call.properties (codes "cmis:secondaryObjectTypeIds"))) (secondary_in call.properties) y.secondary (below_secondary r.types (secondary_in call.properties) p.secondary) was.1)

  labelled : IsLabel (r.step + 1) (new_label r call y)
  labelled = subst (λ o. IsLabel (r.step + 1) (next_label call.major (unwrap_or (option_map last_label o) (record { major = 0; minor = 0 })))) (sym here.found)
      (next_labelled r.step call.major (last_label s) (last_labelled r.step s (found_holds (HasLabelsOf r.step) (λ t. same t.id s.id) r.series s w.labels here.there)))

  is_check_in : IsCheckIn (stepped r cost) s y x (new_label r call y) name
  is_check_in = record {
    there = there;
    id = refl;
    kind = refl;
    series = refl;
    base = p.document;
    unnamed = refl;
    member = here.own;
    series_there = here.there;
    owner = of_copy.0;
    working = of_copy.1;
    typed = typed;
    kept = kept_changed r (stepped r cost) calls.CheckIn call.properties call.comment y x w.defs
        (found_holds (λ z. IsKept r (props_of r.types z.kind z.secondary) z) (λ z. same z.id y.id) r.objects y w.kept there)
        (found_holds (OwnsValues r.types) (λ z. same z.id y.id) r.objects y w.own_values there) (λ d. refl) p.properties refl;
    owned = owns_changed r.types calls.CheckIn (form_slots r y) call.properties call.comment x w.types typed
        (for_any (is_some (def_of (props_of r.types x.kind x.secondary) (codes "cmis:checkinComment")) ≡ true) call.comment (has_comment r.types w.types x.kind x.secondary p.document)) refl;
    token = omega arith;
    labelled = labelled;
    free = All-weaker (λ q. same q.child (entry_of y) && is_taken r q.folder (entry_of y) name ≡ false) (λ q. same q.child s.id ≡ true → is_taken r q.folder s.id name ≡ false)
        (λ q h e. subst (λ n. is_taken r q.folder n name ≡ false) here.entry (taken_not (same q.child (entry_of y)) (is_taken r q.folder (entry_of y) name) h (subst (λ n. same q.child n ≡ true) (sym here.entry) e)))
        r.filed (all_from_any (λ q. same q.child (entry_of y) && is_taken r q.folder (entry_of y) name) r.filed p.free);
  }

  abbrev made : Repository
  made = with_version (stepped r cost) s.id x (new_label r call y) name

  checked_in_well : IsWellFormed made
  checked_in_well = check_in_keeps (stepped r cost) s y x (new_label r call y) name (step_keeps r cost w p.room) is_check_in

  -- the new version stands in place of the copy
  abbrev put : Object → Object
  put z = if same z.id y.id then x else z

  put_number : (z : Object) → same (put z).id y.id ≡ same z.id y.id
  put_number z = by_test (same z.id y.id) (λ e. rw e (same_refl y.id)) (λ e. rw e e)

  version_there : IsBaseAt made bases.Document y.id
  version_there = (
    x,
    find_mapped put (λ z. same z.id y.id) r.objects
        ∙ (ap (option_map put) (find_alike (λ z. same (put z).id y.id) (λ z. same z.id y.id) r.objects (every r.objects) ∙ there) ∙ ap (λ b. Some (if b then x else y)) (same_refl y.id)),
    p.document,
  )
    where
      every : (zs : List Object) → All (λ z. same (put z).id y.id ≡ same z.id y.id) zs
      every [] = All-nil (λ z. same (put z).id y.id ≡ same z.id y.id)
      every (z ∷ zs) = All-cons (λ z. same (put z).id y.id ≡ same z.id y.id) z zs (put_number z) (every zs)

  with_its : (o : Option Content) → IfSome o (λ c. (c.of ≡ y.id) × (c.step ≤ r.step + 1) × (length c.stream.pieces ≤ longest_stream))
      → IsWellFormed (noted (stepped (with_contents (with_version r s.id x (new_label r call y) name) o) cost) changes.Updated y.id m [])
  with_its None h = note_keeps made changes.Updated y.id m [] checked_in_well
  with_its (Some c) h = note_keeps (with_contents made (Some c)) changes.Updated y.id m []
      (content_keeps made c checked_in_well (subst (IsBaseAt made bases.Document) (sym h.0) version_there) h.1 h.2)

  pub check_in_well : IsWellFormed (after_check_in_of r u m cost call y)
  check_in_well = subst (λ n. IsWellFormed (noted (stepped (with_contents (with_version r n x (new_label r call y) name) (given_content r call y)) cost) changes.Updated y.id m []))
      (sym here.entry) (with_its (given_content r call y) (sized y.id name (r.step + 1) call.stream p.long))

pub keeps_check_in : (r : Repository) (u : List ℕ) (m : Moment) (cost : ℕ) (call : CheckIn) → IsWellFormed r → refusal_check_in r u cost call ≡ Ok tt → IsWellFormed (after_check_in r u m cost call)
keeps_check_in r u m cost call w h =
    let p = passes r u cost call h in
    subst IsWellFormed (sym (ap (λ o. unwrap_or (option_map (after_check_in_of r u m cost call) o) r) p.at)) (check_in_well r u m cost call w p)
