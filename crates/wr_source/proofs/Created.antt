-- createDocumentFromSource keeps what is well formed.
use Rattle.std.specs.Prelude.{◌≡◌, ℕ, ◌+◌, true, false, not, ◌&&◌, ◌||◌, List, [], Option, Some, None, IfSome, Ok, is_some, option_map, option_and_then, unwrap_or}
use Rattle.std.proofs.Common.{refl, sym, ap, subst, ◌∙◌, arith}
use Rattle.cm_base.specs.declared.number.Oid.{Oid}
use Rattle.cm_base.specs.declared.number.Moment.{Moment}
use Rattle.cm_base.specs.declared.object.Object.{Object}
use Rattle.cm_base.specs.declared.content.Content.{Content}
use Rattle.cm_base.specs.declared.series.Series.{Series}
use Rattle.cm_base.specs.declared.series.VersioningState.{VersioningState}
use Rattle.cm_base.specs.declared.series.VersioningState.TheVariants as states
use Rattle.cm_base.specs.declared.log.ChangeKind.TheVariants as changes
use Rattle.cm_base.specs.declared.cause.Cause.TheVariants as causes
use Rattle.cm_base.specs.Judged.{first_cause}
use Rattle.cm_base.specs.Names.{is_name}
use Rattle.cm_types.specs.declared.definition.TypeDef.{TypeDef}
use Rattle.cm_types.specs.declared.definition.BaseType.TheVariants as bases
use Rattle.cm_types.specs.declared.given.PropertyCall.TheVariants as calls
use Rattle.cm_types.specs.Types.{type_in, same_base, props_of}
use Rattle.cm_types.specs.Properties.{judge_properties}
use Rattle.call_parts.specs.declared.versions.CreateDocument.{CreateDocument}
use Rattle.source_parts.specs.declared.writes.CreateDocumentFromSource.{CreateDocumentFromSource}
use Rattle.cm_see.specs.Addressed.{addressed}
use Rattle.cmis_spec.specs.Repository.{Repository, same, root_folder, object_at, is_a, is_taken, new_number}
use Rattle.cmis_spec.specs.Access.{read_named, object_named}
use Rattle.cmis_spec.specs.Changes.{stepped, noted}
use Rattle.cmis_spec.specs.Documents.{with_document, with_policies, with_contents}
use Rattle.cmis_spec.specs.Well.{Apart, ComesBefore, IsTyped, IsKept, OwnsValues, IsWellFormed}
use Rattle.cmis_laws.proofs.Lists.{found_holds}
use Rattle.cmis_laws.proofs.Kept.{owns_kept}
use Rattle.cmis_laws.proofs.Once.{props_differ, values_differ}
use Rattle.cmis_laws.proofs.MadeDocument.{IsMadeDocument, filed_at as filed_first, made_document_keeps}
use Rattle.cmis_laws.proofs.Passed.{refused_not, then_ok, refuse_ok, find_ok, not_false, or_left, or_right}
use Rattle.cmis_laws.proofs.Steps.{HasRoom}
use Rattle.wr_rules.specs.Rules.{judge_storage, distinct, unknown_type, has_other_secondary, unread_cause, has_other_policy, policies_in, has_unknown_permission, new_aces}
use Rattle.wr_rules.specs.Documents.{judge_content, is_too_long, content_of_stream}
use Rattle.wr_rules.proofs.Found.{read_there, named_there}
use Rattle.wr_rules.proofs.Known.{below_secondary}
use Rattle.wr_rules.proofs.Room.{room_of}
use Rattle.wr_object.specs.declared.new_document.Allowed.{Allowed}
use Rattle.cm_series.specs.Series.{new_series}
use Rattle.wr_object.specs.CreateDocument.{folder_of, state_of, is_unversioned, has_other_state, may_not_make, is_no_folder, is_name_taken, number_of, filed_at, made_of_parts}
use Rattle.wr_object.proofs.CreatedDocument.{bind_ok, folder_is, series_id, series_name, one_member, alone_in, named_so, labelled_so, plain_state, and_second, content_so, below_so, free_so}
use Rattle.wr_object.proofs.CreateFolder.{IsGood, new_permit, distinct_all, good_all, named_all}
use Rattle.wr_source.specs.Templates.{Template, template_of}
use Rattle.wr_source.specs.CreateDocumentFromSource.{refusal_create_document_from_source, allowed_in, new_document, new_parts, parts_made, after_create_document_from_source}
use Rattle.wr_source.proofs.Sourced.{kept_sourced}

-- ---- what a refusal that is none tells

pub record Passes (r : Repository) (u : List ℕ) (cost : ℕ) (call : CreateDocumentFromSource) : Type 0 where
  pub room : HasRoom r cost
  pub folder : Option Object
  pub at : folder ≡ option_and_then (addressed r u) call.document.place
  pub x : Object
  pub source : read_named r u call.source ≡ Some x
  pub kind : TypeDef
  pub def : type_in r.types (template_of r x call.document).kind ≡ Some kind
  pub kinds : is_no_folder r folder || not (is_a r bases.Document x) || has_other_policy r u call.document.policies ≡ false
  pub base : not (same_base bases.Document kind.base) || has_other_secondary r.types (template_of r x call.document).secondary ≡ false
  pub state : has_other_state kind call.document ≡ false
  pub properties : judge_properties calls.Create (template_of r x call.document).defs (template_of r x call.document).copied call.document.properties ≡ Ok tt
  pub long : unwrap_or (option_map is_too_long (template_of r x call.document).stream) false ≡ false
  pub free : is_name_taken r folder (template_of r x call.document).name ≡ false

pub passes : (r : Repository) (u : List ℕ) (cost : ℕ) (call : CreateDocumentFromSource) → refusal_create_document_from_source r u cost call ≡ Ok tt → Passes r u cost call
passes r u cost call h =
    let doc : CreateDocument = call.document in
    let s = then_ok (judge_storage r cost) _ h in
    let a = bind_ok (folder_of r u doc) _ s.1 in
    let y = find_ok causes.NotFound (read_named r u call.source) _ a.2 in
    let t : Template = template_of r y.0 doc in
    let p = then_ok (first_cause (unread_cause r u) doc.policies) _ y.2 in
    let b = find_ok causes.TypeNotFound (type_in r.types t.kind) _ p.1 in
    let k = then_ok (first_cause (unknown_type r.types) t.secondary) _ b.2 in
    let c = then_ok _ _ k.1 in
    let c' = refuse_ok causes.Denied (may_not_make r u a.0) _ c.0 in
    let d = then_ok _ _ c.1 in
    let d' = refuse_ok causes.TypeKind (not (same_base bases.Document b.0.base) || has_other_secondary r.types t.secondary) _ d.0 in
    let e = then_ok _ _ d.1 in
    let e' = refuse_ok causes.NotFileable (is_some a.0 && not b.0.fileable) _ e.0 in
    let e'' = refuse_ok causes.VersionState (has_other_state b.0 doc) _ e'.1 in
    let l = then_ok (judge_properties calls.Create t.defs t.copied doc.properties) _ e.1 in
    let n = refuse_ok causes.Permission (has_unknown_permission doc.remove || has_unknown_permission doc.add) _ l.1 in
    let o = then_ok (judge_content b.0 t.stream None) _ n.1 in
    let o' = refuse_ok causes.StreamNot _ _ o.0 in
    let o'' = refuse_ok causes.ContentRequired _ _ o'.1 in
    let q = refuse_ok causes.BadName (not (is_name t.name)) _ o.1 in
    record {
      room = room_of r cost s.0;
      folder = a.0;
      at = folder_is r u doc.place a.0 a.1;
      x = y.0;
      source = y.1;
      kind = b.0;
      def = b.1;
      kinds = refused_not causes.WrongKind _ c'.1;
      base = d'.0;
      state = e''.0;
      properties = l.0;
      long = refused_not causes.StreamLong (unwrap_or (option_map is_too_long t.stream) false) o''.1;
      free = refused_not causes.NameTaken (is_name_taken r a.0 t.name) q.1;
    }

-- ---- all

-- what is made of a source that the caller reads
pub parts_are : (r : Repository) (u : List ℕ) (m : Moment) (call : CreateDocumentFromSource) (x : Object) (t : Template) (allowed : Allowed) → read_named r u call.source ≡ Some x → t ≡ template_of r x call.document
    → allowed ≡ allowed_in r call.document t (option_and_then (addressed r u) call.document.place) → new_parts r u m t allowed ≡ parts_made r u m call
parts_are r u m call x t allowed found e f =
    let folder : Option Object = option_and_then (addressed r u) call.document.place in
    ap (new_parts r u m t) f ∙ ap (λ t. new_parts r u m t (allowed_in r call.document t folder)) e
    ∙ sym (ap (λ o. let t = template_of r (unwrap_or o (root_folder u m r.step)) call.document in new_parts r u m t (allowed_in r call.document t folder)) found)

module _ (r : Repository) (u : List ℕ) (m : Moment) (cost : ℕ) (call : CreateDocumentFromSource) (w : IsWellFormed r) (p : Passes r u cost call) (ordered : Apart ComesBefore (new_aces u call.document.remove call.document.add)) where
  abbrev n : Oid
  n = new_number r

  abbrev doc : CreateDocument
  doc = call.document

  abbrev t : Template
  t = template_of r p.x call.document

  abbrev state : VersioningState
  state = state_of p.kind call.document

  -- what is allowed, by the type that is found
  abbrev allowed : Allowed
  allowed = record (allowed_in r doc t p.folder) { state = state }

  abbrev y : Object
  y = new_document r u m t allowed

  abbrev s : Series
  s = new_series n u t.name state

  there : object_at r p.x.id ≡ Some p.x
  there = named_there r call.source p.x (read_there r u (object_named r call.source) p.x p.source).0

  is_document : is_a r bases.Document y ≡ true
  is_document = rw p.def (not_false (same_base bases.Document p.kind.base) (or_left (not (same_base bases.Document p.kind.base)) (has_other_secondary r.types t.secondary) p.base))

  typed : IsTyped r.types y
  typed = (ap is_some p.def, below_secondary r.types t.secondary (or_right (not (same_base bases.Document p.kind.base)) (has_other_secondary r.types t.secondary) p.base))

  -- the values are of its own properties, each once
  owned : OwnsValues r.types y
  owned = (owns_kept r.types calls.Create t.copied doc.properties y, values_differ calls.Create t.defs t.copied doc.properties (props_differ r.types w.types t.kind t.secondary typed.1))

  is_made : IsMadeDocument r cost y s (new_aces u doc.remove doc.add) (policies_in r u doc.policies) (option_map (content_of_stream n t.name (r.step + 1)) t.stream) (number_of p.folder)
  is_made = record {
    number = refl;
    base = is_document;
    typed = typed;
    kept = kept_sourced r p.x y doc.properties w.defs (found_holds (λ z. IsKept r (props_of r.types z.kind z.secondary) z) (λ z. same z.id p.x.id) r.objects p.x w.kept there) p.properties refl;
    owned = owned;
    token = omega arith;
    series = ap Some (sym (series_id n u t.name state));
    first = series_id n u t.name state;
    alone = one_member n u t.name state;
    plain = λ e. alone_in n u t.name state (plain_state p.kind.versionable (is_unversioned state) p.state
        (sym (ap (λ o. not (unwrap_or (option_map (λ t. t.versionable) o) false)) p.def) ∙ and_second (is_a r bases.Document y) (not (unwrap_or (option_map (λ t. t.versionable) (type_in r.types t.kind)) false)) e));
    own = named_so n u t.name state;
    labels = labelled_so n u t.name r.step state;
    listed = (ordered, new_permit u doc.remove doc.add);
    applied = named_all r u (distinct doc.policies) (distinct_all (IsGood r u) doc.policies (good_all r u doc.policies (or_right (is_no_folder r p.folder || not (is_a r bases.Document p.x)) (has_other_policy r u doc.policies) p.kinds)));
    content = content_so n t.name (r.step + 1) t.stream p.long;
    below = below_so r u doc.place p.folder w.numbers p.at (or_left (is_no_folder r p.folder) (not (is_a r bases.Document p.x)) (or_left (is_no_folder r p.folder || not (is_a r bases.Document p.x)) (has_other_policy r u doc.policies) p.kinds));
    free = subst (λ name. IfSome (number_of p.folder) (λ g. is_taken r g n name ≡ false)) (sym (series_name n u t.name state)) (free_so r n t.name p.folder p.free);
    room = p.room;
  }

  abbrev made : Repository → Repository
  made q = with_policies (with_document q y s (new_aces u doc.remove doc.add)) n (policies_in r u doc.policies)

  -- the step may be taken first
  turned : (o : Option Content) (f : Option Oid) → noted (filed_first (with_contents (made (stepped r cost)) o) f n) changes.Created n m []
      ≡ noted (stepped (filed_at (with_contents (made r) o) f n) cost) changes.Created n m []
  turned None None = refl
  turned None (Some f) = refl
  turned (Some c) None = refl
  turned (Some c) (Some f) = refl

  allowed_is : allowed ≡ allowed_in r doc t (option_and_then (addressed r u) doc.place)
  allowed_is = sym (ap (λ o. record (allowed_in r doc t p.folder) { state = unwrap_or (option_map (λ kind. state_of kind doc) o) states.None }) p.def) ∙ ap (allowed_in r doc t) p.at

  pub document_made : IsWellFormed (after_create_document_from_source r u m cost call)
  document_made = subst (λ new. IsWellFormed (made_of_parts r new (new_aces u doc.remove doc.add) (policies_in r u doc.policies) cost m)) (parts_are r u m call p.x t allowed p.source refl allowed_is)
      (subst IsWellFormed (turned (option_map (content_of_stream n t.name (r.step + 1)) t.stream) (number_of p.folder))
      (made_document_keeps r cost m y s (new_aces u doc.remove doc.add) (policies_in r u doc.policies) (option_map (content_of_stream n t.name (r.step + 1)) t.stream) (number_of p.folder) w is_made))

pub keeps_create_document_from_source : (r : Repository) (u : List ℕ) (m : Moment) (cost : ℕ) (call : CreateDocumentFromSource) → IsWellFormed r → refusal_create_document_from_source r u cost call ≡ Ok tt
    → Apart ComesBefore (new_aces u call.document.remove call.document.add) → IsWellFormed (after_create_document_from_source r u m cost call)
keeps_create_document_from_source r u m cost call w h ordered = document_made r u m cost call w (passes r u cost call h) ordered

-- the series of the new document has its number
pub series_of_parts : (r : Repository) (u : List ℕ) (m : Moment) (call : CreateDocumentFromSource) → (parts_made r u m call).series.id ≡ new_number r
series_of_parts r u m call =
    let t = template_of r (unwrap_or (read_named r u call.source) (root_folder u m r.step)) call.document in
    series_id (new_number r) u t.name (allowed_in r call.document t (option_and_then (addressed r u) call.document.place)).state
