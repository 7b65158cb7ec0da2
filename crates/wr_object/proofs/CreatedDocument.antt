-- createDocument keeps what is well formed.
use Rattle.std.specs.Prelude.{◌≡◌, ℕ, ◌+◌, ◌≤◌, Bool, true, false, not, ◌&&◌, ◌||◌, if◌then◌else◌, List, [], ◌∷◌, length, All, Option, Some, None, IfSome, Ok, Err, is_some, option_map, option_and_then, unwrap_or}
use Rattle.std.specs.List.{list_any}
use Rattle.std.proofs.Common.{refl, sym, ap, subst, ◌∙◌, arith}
use Rattle.std.proofs.lemmas.Bool.{both_ways, ltb-false}
use Rattle.std.proofs.lemmas.List.Elements.{All-nil, All-cons}
use Rattle.cm_base.specs.declared.number.Oid.{Oid}
use Rattle.cm_base.specs.declared.number.Moment.{Moment}
use Rattle.cm_base.specs.declared.object.Object.{Object}
use Rattle.cm_base.specs.declared.content.Content.{Content}
use Rattle.cm_base.specs.declared.series.Series.{Series}
use Rattle.cm_base.specs.declared.series.VersioningState.{VersioningState}
use Rattle.cm_base.specs.declared.series.VersioningState.TheVariants as states
use Rattle.cm_base.specs.declared.log.ChangeKind.TheVariants as changes
use Rattle.cm_base.specs.declared.cause.Cause.TheVariants as causes
use Rattle.cm_base.specs.Judged.{Judged, ◌>>=◌, find_or, first_cause}
use Rattle.cm_base.specs.Names.{is_name}
use Rattle.cm_types.specs.declared.definition.TypeDef.{TypeDef}
use Rattle.cm_types.specs.declared.definition.BaseType.TheVariants as bases
use Rattle.cm_types.specs.declared.given.PropertyCall.TheVariants as calls
use Rattle.cm_types.specs.Types.{type_in, same_base}
use Rattle.cm_types.specs.Properties.{judge_properties}
use Rattle.call_parts.specs.declared.place.Place.{Place}
use Rattle.call_parts.specs.declared.versions.CreateDocument.{CreateDocument}
use Rattle.call_parts.specs.declared.stream.GivenStream.{GivenStream}
use Rattle.cm_see.specs.Addressed.{addressed}
use Rattle.cmis_spec.specs.Values.{values_kept}
use Rattle.cmis_spec.specs.Repository.{Repository, same, longest_stream, is_a, is_taken, new_number}
use Rattle.cmis_spec.specs.Changes.{stepped, noted}
use Rattle.cmis_spec.specs.Documents.{with_document, with_policies, with_contents}
use Rattle.cmis_spec.specs.Well.{Apart, ComesBefore, IsTyped, IsBaseAt, HasNumbers, IsAlone, members, IsLabel, IsWellFormed}
use Rattle.cmis_laws.proofs.Lists.{same_refl}
use Rattle.cmis_laws.proofs.Begun.{HasLabelsOf}
use Rattle.cmis_laws.proofs.Kept.{kept_new}
use Rattle.cmis_laws.proofs.Once.{owns_new}
use Rattle.cmis_laws.proofs.MadeDocument.{IsMadeDocument, filed_at as filed_first, made_document_keeps}
use Rattle.cmis_laws.proofs.Passed.{err_ok, refused_not, then_ok, refuse_ok, find_ok, first_none, not_false, or_left, or_right}
use Rattle.cmis_laws.proofs.Steps.{HasRoom}
use Rattle.wr_rules.specs.Rules.{judge_storage, distinct, name_in, type_id_in, secondary_in, unknown_type, has_other_secondary, unread_cause, has_other_policy, policies_in, has_unknown_permission, new_aces}
use Rattle.wr_rules.specs.Documents.{judge_content, is_too_long, content_of_stream}
use Rattle.wr_rules.specs.Wanted.{Wanted, wanted_in}
use Rattle.wr_rules.proofs.Found.{addressed_there}
use Rattle.wr_rules.proofs.Known.{below_secondary}
use Rattle.wr_rules.proofs.Room.{room_of}
use Rattle.wr_object.specs.declared.new_document.Allowed.{Allowed}
use Rattle.cm_series.specs.Series.{new_series}
use Rattle.wr_object.specs.CreateDocument.{folder_at, folder_of, document_props, state_of, is_unversioned, has_other_state, may_not_make, is_no_folder, is_name_taken, judge_kinds, judge_place, refusal_create_document, number_of, allowed_in, own_name, new_document, new_parts, filed_at, made_of_parts, after_create_document}
use Rattle.wr_object.proofs.CreateFolder.{IsGood, new_permit, distinct_all, good_all, named_all}

-- ---- what a refusal that is none tells

pub bind_ok : {A : Type 0} (j : Judged A) (f : A → Judged (Unit {0})) → j >>= f ≡ Ok tt → (x : A) × (j ≡ Ok x) × (f x ≡ Ok tt)
bind_ok (Ok x) f h = (x, refl, h)
bind_ok (Err c) f h = absurd (err_ok {A = Unit {0}} c tt h)

pub ok_eq : {A : Type 0} (x y : A) → ◌≡◌ {A = Judged A} (Ok x) (Ok y) → x ≡ y
ok_eq x y h = ap (λ j. elim j [ Ok z ↦ z | Err c ↦ x ]) h

-- the folder is the one that is addressed
pub folder_is : (r : Repository) (u : List ℕ) (place : Option Place) (f : Option Object) → folder_at r u place ≡ Ok f → f ≡ option_and_then (addressed r u) place
folder_is r u None f h = sym (ok_eq None f h)
folder_is r u (Some place) f h = by (addressed r u place) h
  where
    by : (o : Option Object) → find_or causes.NotFound (option_map Some o) ≡ Ok f → f ≡ o
    by None h = absurd (err_ok causes.NotFound f h)
    by (Some g) h = sym (ok_eq (Some g) f h)

pub record Passes (r : Repository) (u : List ℕ) (cost : ℕ) (call : CreateDocument) : Type 0 where
  pub room : HasRoom r cost
  pub folder : Option Object
  pub at : folder ≡ option_and_then (addressed r u) call.place
  pub kind : TypeDef
  pub def : type_in r.types (type_id_in call.properties) ≡ Some kind
  pub known : All (λ id. unknown_type r.types id ≡ None) (secondary_in call.properties)
  pub kinds : is_no_folder r folder || has_other_policy r u call.policies ≡ false
  pub base : not (same_base bases.Document kind.base) || has_other_secondary r.types (secondary_in call.properties) ≡ false
  pub state : has_other_state kind call ≡ false
  pub properties : judge_properties calls.Create (document_props r.types call) [] call.properties ≡ Ok tt
  pub long : unwrap_or (option_map is_too_long call.stream) false ≡ false
  pub free : is_name_taken r folder (name_in call.properties) ≡ false

pub passes : (r : Repository) (u : List ℕ) (cost : ℕ) (call : CreateDocument) → refusal_create_document r u cost call ≡ Ok tt → Passes r u cost call
passes r u cost call h =
    let wanted = wanted_in r.types call.properties in
    let s = then_ok (judge_storage r cost) _ h in
    let a = bind_ok (folder_of r u call) _ s.1 in
    let p = then_ok (first_cause (unread_cause r u) call.policies) _ a.2 in
    let b = find_ok causes.TypeNotFound (type_in r.types wanted.kind) _ p.1 in
    let t = then_ok (first_cause (unknown_type r.types) wanted.secondary) _ b.2 in
    let c = then_ok (judge_kinds r u call.policies wanted.secondary a.0 b.0) _ t.1 in
    let d = refuse_ok causes.Denied (may_not_make r u a.0) _ c.0 in
    let e = refuse_ok causes.WrongKind (is_no_folder r a.0 || has_other_policy r u call.policies) _ d.1 in
    let f = refuse_ok causes.TypeKind (not (same_base bases.Document b.0.base) || has_other_secondary r.types wanted.secondary) _ e.1 in
    let g = then_ok (judge_place r call a.0 b.0) _ c.1 in
    let i = refuse_ok causes.NotFileable _ _ g.0 in
    let j = refuse_ok causes.VersionState (has_other_state b.0 call) _ i.1 in
    let k = then_ok (judge_properties calls.Create wanted.defs [] call.properties) _ g.1 in
    let l = refuse_ok causes.Permission (has_unknown_permission call.remove || has_unknown_permission call.add) _ k.1 in
    let o = then_ok (judge_content b.0 call.stream None) _ l.1 in
    let o' = refuse_ok causes.StreamNot _ _ o.0 in
    let o'' = refuse_ok causes.ContentRequired _ _ o'.1 in
    let q = refuse_ok causes.BadName (not (is_name wanted.name)) _ o.1 in
    record {
      room = room_of r cost s.0;
      folder = a.0;
      at = folder_is r u call.place a.0 a.1;
      kind = b.0;
      def = b.1;
      known = first_none (unknown_type r.types) wanted.secondary t.0;
      kinds = e.0;
      base = f.0;
      state = j.0;
      properties = k.0;
      long = refused_not causes.StreamLong (unwrap_or (option_map is_too_long call.stream) false) o''.1;
      free = refused_not causes.NameTaken (is_name_taken r a.0 wanted.name) q.1;
    }

-- ---- the series

module _ (n : Oid) (u name : List ℕ) where
  pub series_id : (state : VersioningState) → (new_series n u name state).id ≡ n
  series_id states.CheckedOut = refl
  series_id states.Major = refl
  series_id states.Minor = refl
  series_id states.None = refl

  pub series_name : (state : VersioningState) → (new_series n u name state).name ≡ name
  series_name states.CheckedOut = refl
  series_name states.Major = refl
  series_name states.Minor = refl
  series_name states.None = refl

  pub one_member : (state : VersioningState) → members (new_series n u name state) ≡ n ∷ []
  one_member states.CheckedOut = refl
  one_member states.Major = refl
  one_member states.Minor = refl
  one_member states.None = refl

  pub alone_in : (state : VersioningState) → is_unversioned state ≡ true → IsAlone (new_series n u name state) n
  alone_in states.None h = (refl, refl)
  alone_in states.CheckedOut h = absurd (both_ways false refl h)
  alone_in states.Major h = absurd (both_ways false refl h)
  alone_in states.Minor h = absurd (both_ways false refl h)

  pub named_so : (state : VersioningState) → is_some (own_name state name) ≡ not (list_any (λ v. same v.object n) (new_series n u name state).versions)
  named_so states.CheckedOut = refl
  named_so states.Major = rw (same_refl n) refl
  named_so states.Minor = rw (same_refl n) refl
  named_so states.None = rw (same_refl n) refl

  pub labelled_so : (step : ℕ) (state : VersioningState) → HasLabelsOf (step + 1) (new_series n u name state)
  labelled_so step states.CheckedOut = All-nil (λ v. IfSome v.label (IsLabel (step + 1)))
  labelled_so step states.Major = All-cons (λ v. IfSome v.label (IsLabel (step + 1))) (record { object = n; label = Some (record { major = 1; minor = 0 }) }) [] (omega arith, omega arith) (All-nil (λ v. IfSome v.label (IsLabel (step + 1))))
  labelled_so step states.Minor = All-cons (λ v. IfSome v.label (IsLabel (step + 1))) (record { object = n; label = Some (record { major = 0; minor = 1 }) }) [] (omega arith, omega arith) (All-nil (λ v. IfSome v.label (IsLabel (step + 1))))
  labelled_so step states.None = All-cons (λ v. IfSome v.label (IsLabel (step + 1))) (record { object = n; label = None }) [] tt (All-nil (λ v. IfSome v.label (IsLabel (step + 1))))

-- what isn't versionable has no version state
pub plain_state : (versionable unversioned : Bool) → (if versionable then unversioned else not unversioned) ≡ false → not versionable ≡ true → unversioned ≡ true
plain_state true b h k = absurd (both_ways false refl k)
plain_state false b h k = not_false b h

pub and_second : (a b : Bool) → a && b ≡ true → b ≡ true
and_second true b h = h
and_second false b h = absurd (both_ways false refl h)

-- ---- its content

pub content_so : (n : Oid) (name : List ℕ) (step : ℕ) (o : Option GivenStream) → unwrap_or (option_map is_too_long o) false ≡ false
    → IfSome (option_map (content_of_stream n name step) o) (λ c. (c.of ≡ n) × (c.step ≤ step) × (length c.stream.pieces ≤ longest_stream))
content_so n name step None h = tt
content_so n name step (Some s) h = (refl, omega arith, ltb-false longest_stream (length s.pieces) h)

-- ---- its folder

pub below_so : (r : Repository) (u : List ℕ) (place : Option Place) (f : Option Object) → HasNumbers r → f ≡ option_and_then (addressed r u) place → is_no_folder r f ≡ false → IfSome (number_of f) (IsBaseAt r bases.Folder)
below_so r u None f w at h = subst (λ g. IfSome (number_of g) (IsBaseAt r bases.Folder)) (sym at) tt
below_so r u (Some place) None w at h = tt
below_so r u (Some place) (Some f) w at h = (f, addressed_there r u place f w (sym at), not_false (is_a r bases.Folder f) h)

pub free_so : (r : Repository) (n : Oid) (name : List ℕ) (f : Option Object) → unwrap_or (option_map (λ g. is_taken r g.id n name) f) false ≡ false → IfSome (number_of f) (λ g. is_taken r g n name ≡ false)
free_so r n name None h = tt
free_so r n name (Some f) h = h

-- ---- all

module _ (r : Repository) (u : List ℕ) (m : Moment) (cost : ℕ) (call : CreateDocument) (w : IsWellFormed r) (p : Passes r u cost call) (ordered : Apart ComesBefore (new_aces u call.remove call.add)) where
  abbrev n : Oid
  n = new_number r

  abbrev wanted : Wanted
  wanted = wanted_in r.types call.properties

  abbrev state : VersioningState
  state = state_of p.kind call

  -- what is allowed, by the folder and the type that are found
  abbrev allowed : Allowed
  allowed = record { folder = number_of p.folder; state = state; values = values_kept calls.Create wanted.defs [] call.properties }

  abbrev x : Object
  x = new_document r u m wanted allowed

  abbrev s : Series
  s = new_series n u wanted.name state

  abbrev content : Option Content
  content = option_map (content_of_stream n wanted.name (r.step + 1)) call.stream

  is_document : is_a r bases.Document x ≡ true
  is_document = rw p.def (not_false (same_base bases.Document p.kind.base) (or_left (not (same_base bases.Document p.kind.base)) (has_other_secondary r.types wanted.secondary) p.base))

  typed : IsTyped r.types x
  typed = (ap is_some p.def, below_secondary r.types wanted.secondary (or_right (not (same_base bases.Document p.kind.base)) (has_other_secondary r.types wanted.secondary) p.base))

  is_made : IsMadeDocument r cost x s (new_aces u call.remove call.add) (policies_in r u call.policies) content (number_of p.folder)
  is_made = record {
    number = refl;
    base = is_document;
    typed = typed;
    kept = kept_new r wanted.kind wanted.secondary call.properties x w.defs p.properties refl;
    owned = owns_new r.types call.properties x w.types typed refl;
    token = omega arith;
    series = ap Some (sym (series_id n u wanted.name state));
    first = series_id n u wanted.name state;
    alone = one_member n u wanted.name state;
    plain = λ e. alone_in n u wanted.name state (plain_state p.kind.versionable (is_unversioned state) p.state
        (sym (ap (λ o. not (unwrap_or (option_map (λ t. t.versionable) o) false)) p.def) ∙ and_second (is_a r bases.Document x) (not (unwrap_or (option_map (λ t. t.versionable) (type_in r.types wanted.kind)) false)) e));
    own = named_so n u wanted.name state;
    labels = labelled_so n u wanted.name r.step state;
    listed = (ordered, new_permit u call.remove call.add);
    applied = named_all r u (distinct call.policies) (distinct_all (IsGood r u) call.policies (good_all r u call.policies (or_right (is_no_folder r p.folder) (has_other_policy r u call.policies) p.kinds)));
    content = content_so n wanted.name (r.step + 1) call.stream p.long;
    below = below_so r u call.place p.folder w.numbers p.at (or_left (is_no_folder r p.folder) (has_other_policy r u call.policies) p.kinds);
    free = subst (λ t. IfSome (number_of p.folder) (λ g. is_taken r g n t ≡ false)) (sym (series_name n u wanted.name state)) (free_so r n wanted.name p.folder p.free);
    room = p.room;
  }

  abbrev made : Repository → Repository
  made q = with_policies (with_document q x s (new_aces u call.remove call.add)) n (policies_in r u call.policies)

  -- the step may be taken first
  turned : (o : Option Content) (f : Option Oid) → noted (filed_first (with_contents (made (stepped r cost)) o) f n) changes.Created n m [] ≡ noted (stepped (filed_at (with_contents (made r) o) f n) cost) changes.Created n m []
  turned None None = refl
  turned None (Some f) = refl
  turned (Some c) None = refl
  turned (Some c) (Some f) = refl

  allowed_is : allowed ≡ allowed_in r u call wanted
  allowed_is = λ i. record {
    folder = number_of (p.at i);
    state = unwrap_or (option_map (λ kind. state_of kind call) (sym p.def i)) states.None;
    values = values_kept calls.Create wanted.defs [] call.properties;
  }

  pub document_made : IsWellFormed (after_create_document r u m cost call)
  document_made = subst (λ a. IsWellFormed (made_of_parts r (new_parts r u m call wanted a) (new_aces u call.remove call.add) (policies_in r u call.policies) cost m)) allowed_is
      (subst IsWellFormed (turned content (number_of p.folder)) (made_document_keeps r cost m x s (new_aces u call.remove call.add) (policies_in r u call.policies) content (number_of p.folder) w is_made))

pub keeps_create_document : (r : Repository) (u : List ℕ) (m : Moment) (cost : ℕ) (call : CreateDocument) → IsWellFormed r → refusal_create_document r u cost call ≡ Ok tt
    → Apart ComesBefore (new_aces u call.remove call.add) → IsWellFormed (after_create_document r u m cost call)
keeps_create_document r u m cost call w h ordered = document_made r u m cost call w (passes r u cost call h) ordered
