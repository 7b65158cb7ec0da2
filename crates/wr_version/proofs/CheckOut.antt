-- checkOut keeps what is well formed.
use Rattle.std.specs.Prelude.{◌≡◌, ℕ, suc, ◌+◌, ◌≤◌, Bool, true, false, not, ◌&&◌, List, [], ◌∷◌, ◌++◌, map, length, Option, Some, None, IfSome, Ok, is_some, option_map, option_and_then, unwrap_or}
use Rattle.std.specs.List.{list_any}
use Rattle.std.proofs.Common.{refl, sym, ap, subst, ◌∙◌, arith}
use Rattle.std.proofs.lemmas.Bool.{both_ways}
use Rattle.cm_base.specs.declared.number.Oid.{Oid}
use Rattle.cm_base.specs.declared.number.Moment.{Moment}
use Rattle.cm_base.specs.declared.object.Object.{Object}
use Rattle.cm_base.specs.declared.content.Content.{Content}
use Rattle.cm_base.specs.declared.series.Series.{Series}
use Rattle.cm_base.specs.declared.series.WorkingCopy.{WorkingCopy}
use Rattle.cm_base.specs.declared.series.DocumentVersion.{DocumentVersion}
use Rattle.cm_base.specs.declared.access.Level.TheVariants as levels
use Rattle.cm_base.specs.declared.log.ChangeKind.TheVariants as changes
use Rattle.cm_base.specs.declared.cause.Cause.TheVariants as causes
use Rattle.cm_types.specs.declared.definition.BaseType.TheVariants as bases
use Rattle.cm_types.specs.Types.{props_of}
use Rattle.call_parts.specs.declared.versions.CheckOut.{CheckOut}
use Rattle.cm_see.specs.Addressed.{addressed}
use Rattle.cmis_spec.specs.Repository.{Repository, same, object_at, series_at, series_of, is_a, entry_of, last_of, is_latest, new_number, longest_stream}
use Rattle.cmis_spec.specs.Access.{lacks}
use Rattle.cmis_spec.specs.Changes.{stepped, noted}
use Rattle.cmis_spec.specs.Documents.{with_copy, with_contents}
use Rattle.cmis_spec.specs.Well.{IsBaseAt, Belongs, members, IsAlone, is_plain, IsTyped, IsKept, OwnsValues, IsWellFormed}
use Rattle.cmis_laws.proofs.Lists.{by_test, found_holds, all_zip, all_found, some_eq, same_eq}
use Rattle.cmis_laws.proofs.Entries.{series_found}
use Rattle.cmis_laws.proofs.Begun.{IsPlainIn}
use Rattle.cmis_laws.proofs.Joined.{object_new}
use Rattle.cmis_laws.proofs.Copied.{IsNewCopy, copy_keeps}
use Rattle.cmis_laws.proofs.Copies.{kept_copied, owns_copied}
use Rattle.cmis_laws.proofs.Listed.{content_keeps}
use Rattle.cmis_laws.proofs.Passed.{refused_not, then_ok, refuse_ok, find_ok, not_false}
use Rattle.cmis_laws.proofs.Steps.{HasRoom, step_keeps, note_keeps}
use Rattle.wr_rules.specs.Rules.{judge_storage}
use Rattle.wr_rules.specs.Documents.{is_versionable, is_checked_out, content_copied}
use Rattle.cm_see.specs.Shown.{is_latest_version}
use Rattle.cm_state.specs.Looks.{content_at}
use Rattle.wr_rules.proofs.Found.{addressed_there}
use Rattle.wr_rules.proofs.Room.{room_of}
use Rattle.wr_version.specs.CheckOut.{refusal_check_out, new_copy, after_check_out_of, after_check_out}

-- ---- what a refusal that is none tells

pub record Passes (r : Repository) (u : List ℕ) (cost : ℕ) (call : CheckOut) : Type 0 where
  pub room : HasRoom r cost
  pub x : Object
  pub at : addressed r u call.place ≡ Some x
  pub document : is_a r bases.Document x ≡ true
  pub versionable : is_versionable r x ≡ true
  pub free : is_checked_out r x ≡ false
  pub latest : is_latest_version r x ≡ true

pub passes : (r : Repository) (u : List ℕ) (cost : ℕ) (call : CheckOut) → refusal_check_out r u cost call ≡ Ok tt → Passes r u cost call
passes r u cost call h =
    let s = then_ok (judge_storage r cost) _ h in
    let a = find_ok causes.NotFound (addressed r u call.place) _ s.1 in
    let b = refuse_ok causes.Denied (lacks r u levels.Write a.0) _ a.2 in
    let c = refuse_ok causes.WrongKind (not (is_a r bases.Document a.0)) _ b.1 in
    let d = refuse_ok causes.NotVersionable (not (is_versionable r a.0)) _ c.1 in
    let e = refuse_ok causes.CheckedOut (is_checked_out r a.0) _ d.1 in
    record {
      room = room_of r cost s.0;
      x = a.0;
      at = a.1;
      document = not_false (is_a r bases.Document a.0) c.0;
      versionable = not_false (is_versionable r a.0) d.0;
      free = e.0;
      latest = not_false (is_latest_version r a.0) (refused_not causes.NotLatest (not (is_latest_version r a.0)) e.1);
    }

-- ---- the series of a document

pub record IsIn (r : Repository) (x : Object) : Type 0 where
  pub series : Series
  pub own : x.series ≡ Some series.id
  pub there : series_at r series.id ≡ Some series
  pub found : series_of r x ≡ Some series
  pub entry : entry_of x ≡ series.id

pub series_is : (r : Repository) (x : Object) → IsWellFormed r → object_at r x.id ≡ Some x → is_a r bases.Document x ≡ true → IsIn r x
series_is r x w there doc = by x.series refl (found_holds (λ y. Belongs r y y.series) (λ y. same y.id x.id) r.objects x w.documents there)
  where
    by : (o : Option Oid) → x.series ≡ o → Belongs r x o → IsIn r x
    by None e b = absurd (both_ways (is_a r bases.Document x) b doc)
    by (Some n) e b =
        let at : b.1.0.id ≡ n = series_found r n b.1.0 b.1.1 in
        record {
          series = b.1.0;
          own = e ∙ ap Some (sym at);
          there = ap (series_at r) at ∙ b.1.1;
          found = ap (option_and_then (series_at r)) e ∙ b.1.1;
          entry = ap (λ o. unwrap_or o x.id) e ∙ sym at;
        }

working_none : (o : Option WorkingCopy) → is_some o ≡ false → o ≡ None
working_none None h = refl
working_none (Some c) h = absurd (both_ways true h refl)

-- the one version is the latest
only_version : (vs : List DocumentVersion) (n k : Oid) → length vs ≡ 1 → unwrap_or (option_map (λ (v : DocumentVersion). same v.object n) (last_of vs)) false ≡ true
    → list_any (same k) (map (λ (v : DocumentVersion). v.object) vs ++ []) ≡ true → k ≡ n
only_version [] n k one latest any = absurd (both_ways false refl any)
only_version (v ∷ []) n k one latest any = by_test (same k v.object)
    (λ e. same_eq k v.object e ∙ same_eq v.object n latest)
    (λ e. absurd (both_ways false refl (rw e at any)))
only_version (v ∷ u ∷ vs) n k one latest any = let l : suc (suc (length vs)) ≡ 1 = one in absurd (omega (arith, l))

-- ---- all

module _ (r : Repository) (u : List ℕ) (m : Moment) (cost : ℕ) (x : Object) (w : IsWellFormed r) (room : HasRoom r cost) (there : object_at r x.id ≡ Some x)
    (document : is_a r bases.Document x ≡ true) (versionable : is_versionable r x ≡ true) (free : is_checked_out r x ≡ false) (latest : is_latest_version r x ≡ true) where
  here : IsIn r x
  here = series_is r x w there document

  abbrev s : Series
  s = here.series

  no_copy : s.working ≡ None
  no_copy = working_none s.working (sym (ap (λ o. unwrap_or (option_map (λ (t : Series). is_some t.working) o) false) here.found) ∙ free)

  last : is_latest s x.id ≡ true
  last = sym (ap (λ o. unwrap_or (option_map (λ t. is_latest t x.id) o) false) here.found) ∙ latest

  no_plain : is_plain r x ≡ false
  no_plain = ap (λ b. is_a r bases.Document x && not b) versionable ∙ never (is_a r bases.Document x)
    where
      never : (b : Bool) → b && false ≡ false
      never true = refl
      never false = refl

  -- a document of the series whose type isn't versionable would be x itself
  other_plain : (y : Object) → object_at r y.id ≡ Some y → Belongs r y y.series → IsPlainIn r y → y.series ≡ Some s.id → is_plain r y ≡ false
  other_plain y at b plain own = by_test (is_plain r y)
      (λ e.
      let alone : IsAlone s y.id = subst (λ o. IfSome o (λ t. IsAlone t y.id)) here.there (subst (λ o. IfSome o (λ n. IfSome (series_at r n) (λ t. IsAlone t y.id))) own (plain e)) in
      let belongs : Belongs r y (Some s.id) = subst (Belongs r y) own b in
      let one : belongs.1.0 ≡ s = some_eq belongs.1.0 s (sym belongs.1.1 ∙ here.there) in
      let member : list_any (same y.id) (members s) ≡ true = subst (λ t. list_any (same y.id) (members t) ≡ true) one belongs.1.2 in
      let among : list_any (same y.id) (map (λ (v : DocumentVersion). v.object) s.versions ++ []) ≡ true =
      subst (λ o. list_any (same y.id) (map (λ (v : DocumentVersion). v.object) s.versions ++ unwrap_or (option_map (λ (c : WorkingCopy). c.copy ∷ []) o) []) ≡ true) no_copy member in
      let number : y.id ≡ x.id = only_version s.versions x.id y.id alone.0 last among in
      let it : y ≡ x = some_eq y x (sym at ∙ (ap (object_at r) number ∙ there)) in
      absurd (both_ways (is_plain r y) (ap (is_plain r) it ∙ no_plain) e))
      (λ e. e)

  abbrev copy : Object
  copy = new_copy r u m x

  is_copy : IsNewCopy (stepped r cost) s copy
  is_copy = record {
    number = refl;
    room = omega (arith, w.bounds.2);
    base = document;
    typed = found_holds (IsTyped r.types) (λ y. same y.id x.id) r.objects x w.typed there;
    kept = kept_copied r (stepped r cost) x copy w.defs refl (found_holds (λ y. IsKept r (props_of r.types y.kind y.secondary) y) (λ y. same y.id x.id) r.objects x w.kept there);
    owned = owns_copied r.types x copy refl refl refl (found_holds (OwnsValues r.types) (λ y. same y.id x.id) r.objects x w.own_values there);
    token = omega arith;
    named = refl;
    series = here.own;
    there = here.there;
    free = no_copy;
    versionable = no_plain;
    versioned = all_zip (λ y. object_at r y.id ≡ Some y) (λ y. Belongs r y y.series × IsPlainIn r y) (λ y. y.series ≡ Some s.id → is_plain r y ≡ false) r.objects
        (λ y at h own. other_plain y at h.0 h.1 own) (all_found (λ y. y.id) r.objects w.numbers.0)
        (all_zip (λ y. Belongs r y y.series) (IsPlainIn r) (λ y. Belongs r y y.series × IsPlainIn r y) r.objects (λ y b p. (b, p)) w.documents w.plain);
  }

  copied : IsWellFormed (with_copy (stepped r cost) s.id copy u)
  copied = copy_keeps (stepped r cost) s copy u (step_keeps r cost w room) is_copy

  is_there : IsBaseAt (with_copy (stepped r cost) s.id copy u) bases.Document copy.id
  is_there = (copy, object_new (stepped r cost) copy (with_copy (stepped r cost) s.id copy u).series r.access (step_keeps r cost w room) refl, document)

  -- with the content that it copies, or without one
  with_its : (o : Option Content) → IfSome o (λ c. length c.stream.pieces ≤ longest_stream) → IsWellFormed (noted (stepped (with_contents (with_copy r s.id copy u) (option_map (content_copied (new_number r) (r.step + 1)) o)) cost) changes.Created copy.id m [])
  with_its None size = note_keeps (with_copy (stepped r cost) s.id copy u) changes.Created copy.id m [] copied
  with_its (Some c) size = note_keeps (with_contents (with_copy (stepped r cost) s.id copy u) (Some (content_copied (new_number r) (r.step + 1) c))) changes.Created copy.id m []
      (content_keeps (with_copy (stepped r cost) s.id copy u) (content_copied (new_number r) (r.step + 1) c) copied is_there (omega arith) size)

  size_found : (o : Option Content) → content_at r x.id ≡ o → IfSome o (λ c. length c.stream.pieces ≤ longest_stream)
  size_found None e = tt
  size_found (Some c) e = found_holds (λ c. length c.stream.pieces ≤ longest_stream) (λ c. same c.of x.id) r.contents c w.sizes e

  pub check_out_keeps : IsWellFormed (after_check_out_of r u m cost x)
  check_out_keeps = subst (λ n. IsWellFormed (noted (stepped (with_contents (with_copy r n copy u) (option_map (content_copied (new_number r) (r.step + 1)) (content_at r x.id))) cost) changes.Created copy.id m []))
      (sym here.entry) (with_its (content_at r x.id) (size_found (content_at r x.id) refl))

pub keeps_check_out : (r : Repository) (u : List ℕ) (m : Moment) (cost : ℕ) (call : CheckOut) → IsWellFormed r → refusal_check_out r u cost call ≡ Ok tt → IsWellFormed (after_check_out r u m cost call)
keeps_check_out r u m cost call w h =
    let p = passes r u cost call h in
    let there : object_at r p.x.id ≡ Some p.x = addressed_there r u call.place p.x w.numbers p.at in
    subst IsWellFormed (sym (ap (λ o. unwrap_or (option_map (after_check_out_of r u m cost) o) r) p.at))
    (check_out_keeps r u m cost p.x w p.room there p.document p.versionable p.free p.latest)
