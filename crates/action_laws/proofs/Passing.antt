-- Judgements that no cause of an action ends: lines that pass, and lines with other causes.
use Rattle.std.specs.Prelude.{◌≡◌, ◌≢◌, ℕ, ◌+◌, ◌==◌, nat_lt, Bool, true, false, ◌&&◌, ◌||◌, not, if◌then◌else◌, List, [], ◌∷◌, Option, Some, None, Ok, Err, is_none, is_some, option_map, unwrap_or}
use Rattle.std.specs.Result.{is_ok}
use Rattle.std.specs.List.{list_any, list_all}
use Rattle.std.proofs.Common.{refl, sym, ap, ◌∙◌}
use Rattle.std.proofs.lemmas.Bool.{both_ways}
use Rattle.std.proofs.lemmas.List.Elements.{All-weaker}
use Rattle.std.proofs.lemmas.List.Sums.{AllPass-from_list_all}
use Rattle.call_parts.specs.declared.stream.GivenStream.{GivenStream}
use Rattle.cm_base.specs.declared.content.Content.{Content}
use Rattle.cm_base.specs.declared.number.Moment.{Moment}
use Rattle.cm_base.specs.declared.object.Object.{Object}
use Rattle.cm_base.specs.declared.cause.Cause.{Cause}
use Rattle.cm_base.specs.declared.cause.Cause.TheVariants as causes
use Rattle.cm_base.specs.declared.cause.PropertyFault.{PropertyFault}
use Rattle.cm_base.specs.declared.cause.PropertyFault.TheVariants as faults
use Rattle.cm_base.specs.declared.value.Slot.{Slot}
use Rattle.cm_base.specs.Judged.{Judged, ◌>>=◌, ◌>>◌, find_or, first_cause, judge_by, refuse}
use Rattle.cm_types.specs.declared.definition.TypeDef.{TypeDef}
use Rattle.cm_types.specs.declared.given.Given.{Given}
use Rattle.cm_types.specs.declared.given.PropertyCall.{PropertyCall}
use Rattle.cm_types.specs.declared.property.PropDef.{PropDef}
use Rattle.cm_types.specs.Properties.{given_cause, is_missing, judge_properties, missing_cause, property_fault}
use Rattle.action_parts.specs.declared.action.Action.{Action}
use Rattle.cmis_spec.specs.Repository.{Repository}
use Rattle.cmis_spec.specs.Access.{read_named}
use Rattle.cmis_spec.specs.Retention.{retained_cause, retained_until}
use Rattle.cm_types.specs.Types.{type_in}
use Rattle.wr_rules.specs.Documents.{bars_content, is_too_long, judge_content, needs_content}
use Rattle.wr_rules.specs.Rules.{is_token, judge_storage, judge_token, unknown_type, unread_cause}
use Rattle.action_laws.specs.Refused.{NoneComes, OnlyComes, causes_of}

-- ---- the causes of an action, as tests

-- a number for each cause that is one of an action's; the others have none
abbrev pub number_of : Cause → ℕ
number_of causes.Denied = 1
number_of causes.WrongKind = 2
number_of causes.NotFileable = 3
number_of causes.OneParent = 4
number_of causes.NotControllable = 5
number_of causes.NotWorking = 6
number_of causes.NotVersionable = 7
number_of causes.CheckedOut = 8
number_of causes.NotLatest = 9
number_of causes.EndKind = 10
number_of causes.ContentRequired = 11
number_of causes.Held = 12
number_of causes.RootFixed = 13
number_of causes.RootParent = 14
number_of causes.NoContent = 15
number_of causes.StreamNot = 16
number_of _ = 0

abbrev pub is_same : Cause → Cause → Bool
is_same c d = nat_lt 0 (number_of c) && (number_of c == number_of d)

-- one of the action's
abbrev pub stands_for : Action → Cause → Bool
stands_for action c = list_any (is_same c) (causes_of action)

-- and not the one that comes from elsewhere
abbrev pub stands_but : Action → Cause → Bool → Cause → Bool
stands_but action other elsewhere c = stands_for action c && not (is_same c other && elsewhere)

-- the judgement refuses by such a cause
abbrev pub is_by : {B : Type 0} → (Cause → Bool) → Judged B → Bool
is_by p (Ok x) = false
is_by p (Err c) = p c

comes : {B : Type 0} (p : Cause → Bool) (judged : Judged B) (c : Cause) → is_by p judged ≡ false → judged ≡ Err c → p c ≡ false
comes {B} p judged c spared e = sym (ap (is_by {B = B} p) e) ∙ spared

pub none_comes : {B : Type 0} (action : Action) (judged : Judged B) → list_all (stands_for action) (causes_of action) ≡ true → is_by (stands_for action) judged ≡ false → NoneComes action judged
none_comes action judged own spared = All-weaker (λ c. stands_for action c ≡ true) (λ c. judged ≢ Err c)
    (λ c k e. both_ways (stands_for action c) (comes (stands_for action) judged c spared e) k)
    (causes_of action) (AllPass-from_list_all (stands_for action) (causes_of action) own)

pub only_comes : {B : Type 0} (action : Action) (other : Cause) (elsewhere : Bool) (judged : Judged B) → ((c : Cause) → is_same c other ≡ true → c ≡ other)
    → list_all (stands_for action) (causes_of action) ≡ true → is_by (stands_but action other elsewhere) judged ≡ false → OnlyComes action other elsewhere judged
only_comes action other elsewhere judged known own spared = All-weaker (λ c. stands_for action c ≡ true) (λ c. judged ≡ Err c → (c ≡ other) × (elsewhere ≡ true))
    (λ c k e.
    let a = both_true (stands_for action c) (is_same c other) elsewhere k (comes (stands_but action other elsewhere) judged c spared e) in
    (known c a.0, a.1))
    (causes_of action) (AllPass-from_list_all (stands_for action) (causes_of action) own)
  where
    both_true : (a b d : Bool) → a ≡ true → (a && not (b && d)) ≡ false → (b ≡ true) × (d ≡ true)
    both_true true true true k h = (refl, refl)
    both_true true true false k h = absurd (both_ways true h refl)
    both_true true false d k h = absurd (both_ways true h refl)
    both_true false b d k h = absurd (both_ways false refl k)

pub is_denied : (c : Cause) → is_same c causes.Denied ≡ true → c ≡ causes.Denied
is_denied causes.Denied h = refl
is_denied c h = absurd (both_ways false refl h)

pub is_wrong_kind : (c : Cause) → is_same c causes.WrongKind ≡ true → c ≡ causes.WrongKind
is_wrong_kind causes.WrongKind h = refl
is_wrong_kind c h = absurd (both_ways false refl h)

pub is_end_kind : (c : Cause) → is_same c causes.EndKind ≡ true → c ≡ causes.EndKind
is_end_kind causes.EndKind h = refl
is_end_kind c h = absurd (both_ways false refl h)

pub is_held : (c : Cause) → is_same c causes.Held ≡ true → c ≡ causes.Held
is_held causes.Held h = refl
is_held c h = absurd (both_ways false refl h)

-- ---- judgements by tests of causes

module _ (p : Cause → Bool) where
  -- one after the other
  pub later : {B : Type 0} (a : Judged (Unit {0})) (rest : Judged B) → is_by p a ≡ false → is_by p rest ≡ false → is_by p (a >> rest) ≡ false
  later (Ok x) rest k e = e
  later (Err c) rest k e = k

  pub found : {A B : Type 0} (a : Judged A) (rest : A → Judged B) → is_by p a ≡ false → ((x : A) → is_by p (rest x) ≡ false) → is_by p (a >>= rest) ≡ false
  found (Ok x) rest k e = e x
  found (Err c) rest k e = k

  -- what is found is what the search gives
  pub found_as : {A B : Type 0} (c : Cause) (o : Option A) (rest : A → Judged B) → p c ≡ false → ((x : A) → o ≡ Some x → is_by p (rest x) ≡ false) → is_by p (find_or c o >>= rest) ≡ false
  found_as c None rest k e = k
  found_as c (Some x) rest k e = e x refl

  pub found_at : {A B : Type 0} (c : Cause) (o : Option A) (x : A) (rest : A → Judged B) → o ≡ Some x → is_by p (rest x) ≡ false → is_by p (find_or c o >>= rest) ≡ false
  found_at c o x rest there e = rw there e

  pub find_aside : {A : Type 0} (c : Cause) (o : Option A) → p c ≡ false → is_by p (find_or c o) ≡ false
  find_aside c None k = k
  find_aside c (Some x) k = refl

  -- a line whose cause counts for nothing where it comes
  pub line : {B : Type 0} (c : Cause) (b : Bool) (rest : Judged B) → (b ≡ true → p c ≡ false) → is_by p rest ≡ false → is_by p (refuse c b >> rest) ≡ false
  line c true rest k e = k refl
  line c false rest k e = e

  pub last_line : (c : Cause) (b : Bool) → (b ≡ true → p c ≡ false) → is_by p (refuse c b) ≡ false
  last_line c true k = k refl
  last_line c false k = refl

  -- lines whose causes never count
  pub aside : {B : Type 0} (c : Cause) (b : Bool) (rest : Judged B) → p c ≡ false → is_by p rest ≡ false → is_by p (refuse c b >> rest) ≡ false
  aside c b rest k e = line c b rest (λ h. k) e

  pub last_aside : (c : Cause) (b : Bool) → p c ≡ false → is_by p (refuse c b) ≡ false
  last_aside c b k = last_line c b (λ h. k)

  pub two_aside : (c d : Cause) (a b : Bool) → p c ≡ false → p d ≡ false → is_by p (refuse c a >> refuse d b) ≡ false
  two_aside c d a b k l = aside c a (refuse d b) k (last_aside d b l)

  pub three_aside : (c d e : Cause) (x y z : Bool) → p c ≡ false → p d ≡ false → p e ≡ false → is_by p (refuse c x >> refuse d y >> refuse e z) ≡ false
  three_aside c d e x y z k l m = aside c x (refuse d y >> refuse e z) k (two_aside d e y z l m)

  -- causes of lists
  pub if_aside : (c : Cause) (b : Bool) → p c ≡ false → is_by p (judge_by (if b then Some c else None)) ≡ false
  if_aside c true k = k
  if_aside c false k = refl

  pub map_aside : {A : Type 0} (make : A → Cause) (o : Option A) → ((x : A) → p (make x) ≡ false) → is_by p (judge_by (option_map make o)) ≡ false
  map_aside make None k = refl
  map_aside make (Some x) k = k x

  pub each_aside : {A : Type 0} (f : A → Option Cause) (xs : List A) → ((x : A) → is_by p (judge_by (f x)) ≡ false) → is_by p (first_cause f xs) ≡ false
  each_aside f [] k = refl
  each_aside f (x ∷ xs) k = later (judge_by (f x)) (first_cause f xs) (k x) (each_aside f xs k)

  -- ---- parts of calls

  pub storage_aside : (r : Repository) (cost : ℕ) → ((a b d : ℕ) → p (causes.Storage a b d) ≡ false) → is_by p (judge_storage r cost) ≡ false
  storage_aside r cost k = two_aside (causes.Storage r.step 1 r.limits.most_steps) (causes.Storage r.cost cost r.limits.most_bytes)
      (nat_lt r.limits.most_steps (r.step + 1)) (nat_lt r.limits.most_bytes (r.cost + cost)) (k r.step 1 r.limits.most_steps) (k r.cost cost r.limits.most_bytes)

  -- a write on an object that is found
  pub written : (r : Repository) (cost : ℕ) (o : Option Object) (x : Object) (rest : Object → Judged (Unit {0})) → ((a b d : ℕ) → p (causes.Storage a b d) ≡ false) → o ≡ Some x → is_by p (rest x) ≡ false
      → is_by p (judge_storage r cost >> (find_or causes.NotFound o >>= rest)) ≡ false
  written r cost o x rest k there e = later (judge_storage r cost) (find_or causes.NotFound o >>= rest) (storage_aside r cost k) (found_at causes.NotFound o x rest there e)

  pub token_aside : (x : Object) (token : Option (List ℕ)) → ((text : List ℕ) → p (causes.Token text x.token) ≡ false) → is_by p (judge_token x token) ≡ false
  token_aside x None k = refl
  token_aside x (Some text) k = last_aside (causes.Token text x.token) (not (is_token x text)) (k text)

  pub retained_aside : (r : Repository) (m : Moment) (xs : List Object) → ((e : Moment) → p (causes.Retained m e) ≡ false) → is_by p (first_cause (retained_cause r m) xs) ≡ false
  retained_aside r m xs k = each_aside (retained_cause r m) xs (λ y. map_aside (causes.Retained m) (retained_until r m y) k)

  pub types_aside : (types : List TypeDef) (ids : List (List ℕ)) → p causes.TypeNotFound ≡ false → is_by p (first_cause (unknown_type types) ids) ≡ false
  types_aside types ids k = each_aside (unknown_type types) ids (λ id. if_aside causes.TypeNotFound (is_none (type_in types id)) k)

  pub policies_aside : (r : Repository) (u : List ℕ) (ids : List (List ℕ)) → p causes.NotFound ≡ false → is_by p (first_cause (unread_cause r u) ids) ≡ false
  policies_aside r u ids k = each_aside (unread_cause r u) ids (λ id. if_aside causes.NotFound (is_none (read_named r u id)) k)

  pub properties_aside : (call : PropertyCall) (defs : List PropDef) (old : List Slot) (given : List Given) → ((id : List ℕ) (fault : PropertyFault) → p (causes.Property id fault) ≡ false)
      → is_by p (judge_properties call defs old given) ≡ false
  properties_aside call defs old given k = later (first_cause (given_cause call defs) given) (first_cause (missing_cause call old given) defs)
      (each_aside (given_cause call defs) given (λ g. map_aside (causes.Property g.id) (property_fault call defs g) (k g.id)))
      (each_aside (missing_cause call old given) defs (λ d. if_aside (causes.Property d.id faults.Required) (is_missing call old given d) (k d.id faults.Required)))

  pub content_aside : (kind : TypeDef) (stream : Option GivenStream) (old : Option Content) → p causes.StreamNot ≡ false → p causes.ContentRequired ≡ false → p causes.StreamLong ≡ false
      → is_by p (judge_content kind stream old) ≡ false
  content_aside kind stream old k l e = three_aside causes.StreamNot causes.ContentRequired causes.StreamLong (bars_content kind && is_some stream)
      (needs_content kind && is_none stream && is_none old) (unwrap_or (option_map is_too_long stream) false) k l e

  -- ---- the lines of a call, all of whose tests pass

  pub kind_free : {B : Type 0} (a : Cause) (rest : Judged B) (f : Bool) → f ≡ true → is_by p rest ≡ false → is_by p (refuse a (not f) >> rest) ≡ false
  kind_free a rest true h e = e
  kind_free a rest false h e = absurd (both_ways false refl h)

  -- those of a document, and then those of its contents
  pub set_free : (d w : Bool) (change : Judged (Unit {0})) (held bars : Bool) (token more rest : Judged (Unit {0})) → (d && w && is_ok change && not held && not bars) ≡ true
      → is_by p token ≡ false → is_by p more ≡ false → is_by p rest ≡ false
      → is_by p ((refuse causes.Denied (not w) >> token >> refuse causes.WrongKind (not d) >> change) >> (refuse causes.StreamNot bars >> more) >> refuse causes.Held (held || false) >> rest) ≡ false
  set_free true true (Ok t) false false token more rest h k l e = later (token >> Ok t) (more >> rest) (later token (Ok t) k refl) (later more rest l e)
  set_free d w change held bars token more rest h k l e = absurd (both_ways false refl h)

  pub delete_free : (d w : Bool) (change : Judged (Unit {0})) (held filled needs : Bool) (token rest : Judged (Unit {0})) → (d && w && is_ok change && not held && filled && not needs) ≡ true
      → is_by p token ≡ false → is_by p rest ≡ false
      → is_by p ((refuse causes.Denied (not w) >> token >> refuse causes.WrongKind (not d) >> change) >> refuse causes.ContentRequired needs >> refuse causes.Held (held || false) >> rest) ≡ false
  delete_free true true (Ok t) false true false token rest h k e = later (token >> Ok t) rest (later token (Ok t) k refl) e
  delete_free d w change held filled needs token rest h k e = absurd (both_ways false refl h)

  pub check_out_free : (d w v l o : Bool) → (d && w && v && l && not o) ≡ true
      → is_by p (refuse causes.Denied (not w) >> refuse causes.WrongKind (not d) >> refuse causes.NotVersionable (not v) >> refuse causes.CheckedOut o >> refuse causes.NotLatest (not l)) ≡ false
  check_out_free true true true true false h = refl
  check_out_free d w v l o h = absurd (both_ways false refl h)

  -- a working copy is a document
  pub copy_free : {B : Type 0} (k w d : Bool) (rest : Judged B) → (k && w) ≡ true → d ≡ true → is_by p rest ≡ false
      → is_by p (refuse causes.Denied (not w) >> refuse causes.WrongKind (not d) >> refuse causes.NotWorking (not k) >> rest) ≡ false
  copy_free true true true rest h c e = e
  copy_free true true false rest h c e = absurd (both_ways false refl c)
  copy_free k w d rest h c e = absurd (both_ways false refl h)

  pub cancel_free : (k w d : Bool) → (k && w) ≡ true → d ≡ true → is_by p (refuse causes.Denied (not w) >> refuse causes.WrongKind (not d) >> refuse causes.NotWorking (not k)) ≡ false
  cancel_free true true true h c = refl
  cancel_free true true false h c = absurd (both_ways false refl c)
  cancel_free k w d h c = absurd (both_ways false refl h)

  pub move_free : (w fileable copy top kind s t folders out : Bool) (rest : Judged (Unit {0})) → (w && (fileable && not copy) && not top) ≡ true → kind ≡ true
      → (s || t ≡ true → p causes.Denied ≡ false) → p causes.WrongKind ≡ false → p causes.NotFiled ≡ false → is_by p rest ≡ false
      → is_by p ((refuse causes.Denied (not w || s || t) >> refuse causes.NotFileable (not (kind && fileable && not copy)) >> refuse causes.WrongKind folders >> refuse causes.RootFixed top >> refuse causes.NotFiled out) >> rest) ≡ false
  move_free true true false false true s t folders out rest h k d l m e = later (refuse causes.Denied (s || t) >> refuse causes.WrongKind folders >> refuse causes.NotFiled out) rest
      (line causes.Denied (s || t) (refuse causes.WrongKind folders >> refuse causes.NotFiled out) d (two_aside causes.WrongKind causes.NotFiled folders out l m)) e
  move_free true true false false false s t folders out rest h k d l m e = absurd (both_ways false refl k)
  move_free w fileable copy top kind s t folders out rest h k d l m e = absurd (both_ways false refl h)

  pub add_free : (w fileable copy f kind s other : Bool) (rest last : Judged (Unit {0})) → (w && (fileable && not copy) && not f) ≡ true → kind ≡ true
      → (s ≡ true → p causes.Denied ≡ false) → p causes.WrongKind ≡ false → is_by p rest ≡ false → is_by p last ≡ false
      → is_by p ((refuse causes.Denied (not w || s) >> refuse causes.NotFileable (not (kind && fileable && not copy)) >> refuse causes.WrongKind other >> refuse causes.OneParent f >> rest) >> last) ≡ false
  add_free true true false false true s other rest last h k d l e n = later (refuse causes.Denied s >> refuse causes.WrongKind other >> rest) last
      (line causes.Denied s (refuse causes.WrongKind other >> rest) d (aside causes.WrongKind other rest l e)) n
  add_free true true false false false s other rest last h k d l e n = absurd (both_ways false refl k)
  add_free w fileable copy f kind s other rest last h k d l e n = absurd (both_ways false refl h)

  pub remove_free : (w fileable copy f kind s other : Bool) (rest : Judged (Unit {0})) → (w && (fileable && not copy) && not f) ≡ true → kind ≡ true
      → (s ≡ true → p causes.Denied ≡ false) → p causes.WrongKind ≡ false → is_by p rest ≡ false
      → is_by p (refuse causes.Denied (not w || s) >> refuse causes.NotFileable (not (kind && fileable && not copy)) >> refuse causes.WrongKind other >> refuse causes.OneParent f >> rest) ≡ false
  remove_free true true false false true s other rest h k d l e = line causes.Denied s (refuse causes.WrongKind other >> rest) d (aside causes.WrongKind other rest l e)
  remove_free true true false false false s other rest h k d l e = absurd (both_ways false refl k)
  remove_free w fileable copy f kind s other rest h k d l e = absurd (both_ways false refl h)

  pub unfile_free : (w fileable copy f kind s : Bool) → (w && (fileable && not copy) && not f) ≡ true → kind ≡ true → (s ≡ true → p causes.Denied ≡ false)
      → is_by p (refuse causes.Denied (not w || s) >> refuse causes.NotFileable (not (kind && fileable && not copy)) >> refuse causes.OneParent f) ≡ false
  unfile_free true true false false true s h k d = line causes.Denied s (Ok tt) d refl
  unfile_free true true false false false s h k d = absurd (both_ways false refl k)
  unfile_free w fileable copy f kind s h k d = absurd (both_ways false refl h)

  pub update_free : (w : Bool) (change : Judged (Unit {0})) (named other : Bool) (first token rest : Judged (Unit {0})) → (w && is_ok change) ≡ true
      → p causes.RootFixed ≡ false → p causes.TypeKind ≡ false → is_by p first ≡ false → is_by p token ≡ false → is_by p rest ≡ false
      → is_by p (first >> (refuse causes.Denied (not w) >> token >> refuse causes.RootFixed named >> change >> refuse causes.TypeKind other) >> rest) ≡ false
  update_free true (Ok t) named other first token rest h k l f e n = later first ((token >> refuse causes.RootFixed named >> refuse causes.TypeKind other) >> rest) f
      (later (token >> refuse causes.RootFixed named >> refuse causes.TypeKind other) rest
      (later token (refuse causes.RootFixed named >> refuse causes.TypeKind other) e (two_aside causes.RootFixed causes.TypeKind named other k l)) n)
  update_free w change named other first token rest h k l f e n = absurd (both_ways false refl h)

  pub access_free : (l access keeps : Bool) (rest : Judged (Unit {0})) → (l && access) ≡ true → (access ≡ true → keeps ≡ false) → is_by p rest ≡ false
      → is_by p (refuse causes.Denied (not l) >> refuse causes.NotControllable keeps >> rest) ≡ false
  access_free true true keeps rest h k e = line causes.NotControllable keeps rest (λ b. absurd (both_ways keeps (k refl) b)) e
  access_free l access keeps rest h k e = absurd (both_ways false refl h)

  pub application_free : (w takes other keeps : Bool) → (w && takes) ≡ true → (takes ≡ true → keeps ≡ false) → p causes.WrongKind ≡ false
      → is_by p (refuse causes.Denied (not w) >> refuse causes.WrongKind other >> refuse causes.NotControllable keeps) ≡ false
  application_free true true other keeps h k l = aside causes.WrongKind other (refuse causes.NotControllable keeps) l
      (last_line causes.NotControllable keeps (λ b. absurd (both_ways keeps (k refl) b)))
  application_free w takes other keeps h k l = absurd (both_ways false refl h)

  pub taking_off_free : (w takes other : Bool) → (w && takes) ≡ true → p causes.WrongKind ≡ false → is_by p (refuse causes.Denied (not w) >> refuse causes.WrongKind other) ≡ false
  taking_off_free true true other h l = last_aside causes.WrongKind other l
  taking_off_free w takes other h l = absurd (both_ways false refl h)

  -- something that would go may be held though the object is not
  pub removal_free : (w top held copy out some : Bool) (more rest : Judged (Unit {0})) → (w && not top && not held && (copy || not out)) ≡ true
      → (some ≡ true → p causes.Held ≡ false) → is_by p more ≡ false → is_by p rest ≡ false
      → is_by p (refuse causes.Denied (not w) >> (refuse causes.RootFixed top >> refuse causes.CheckedOut (out && not copy) >> more) >> refuse causes.Held some >> rest) ≡ false
  removal_free true false false true true some more rest h k e l = later more (refuse causes.Held some >> rest) e (line causes.Held some rest k l)
  removal_free true false false true false some more rest h k e l = later more (refuse causes.Held some >> rest) e (line causes.Held some rest k l)
  removal_free true false false false false some more rest h k e l = later more (refuse causes.Held some >> rest) e (line causes.Held some rest k l)
  removal_free w top held copy out some more rest h k e l = absurd (both_ways false refl h)

  pub tree_free : (f w top : Bool) → (f && w && not top) ≡ true → is_by p (refuse causes.Denied (not w) >> refuse causes.WrongKind (not f) >> refuse causes.RootFixed top) ≡ false
  tree_free true true false h = refl
  tree_free f w top h = absurd (both_ways false refl h)

  pub making_free : (f w other : Bool) (rest : Judged (Unit {0})) → (f && w) ≡ true → (other ≡ true → p causes.WrongKind ≡ false) → is_by p rest ≡ false
      → is_by p (refuse causes.Denied (not w) >> refuse causes.WrongKind (not f || other) >> rest) ≡ false
  making_free true true other rest h k e = line causes.WrongKind other rest k e
  making_free f w other rest h k e = absurd (both_ways false refl h)

  -- one of the ends is no relationship
  pub ends_free : (end anonymous other either : Bool) → (not end && not anonymous) ≡ true → p causes.WrongKind ≡ false → (either ≡ true → p causes.EndKind ≡ false)
      → is_by p (refuse causes.Denied anonymous >> refuse causes.WrongKind other >> refuse causes.EndKind either) ≡ false
  ends_free false false other either h l k = aside causes.WrongKind other (refuse causes.EndKind either) l (last_line causes.EndKind either k)
  ends_free end anonymous other either h l k = absurd (both_ways false refl h)
