-- On an object that is read in two repositories in which the caller sees the same, he is allowed the same actions.
use Rattle.std.specs.Prelude.{◌≡◌, ℕ, Bool, true, false, ◌&&◌, not, if◌then◌else◌, List, map, Option, Some, None, is_some, unwrap_or, option_map, option_and_then, bytes_eq, codes}
use Rattle.std.specs.Result.{is_ok}
use Rattle.std.proofs.Common.{refl, sym, ap, ◌∙◌}
use Rattle.cm_base.specs.declared.number.Oid.{Oid}
use Rattle.cm_base.specs.declared.object.Object.{Object}
use Rattle.cm_base.specs.declared.series.Series.{Series}
use Rattle.cm_base.specs.declared.series.WorkingCopy.{WorkingCopy}
use Rattle.cm_base.specs.declared.access.Level.TheVariants as levels
use Rattle.cm_base.specs.declared.cause.Cause.{Cause}
use Rattle.cm_base.specs.declared.cause.Cause.TheVariants as causes
use Rattle.cm_base.specs.Judged.{judge_by}
use Rattle.cm_types.specs.declared.definition.BaseType.TheVariants as bases
use Rattle.cm_types.specs.Types.{type_in, is_of_base}
use Rattle.cm_types.specs.Properties.{value_in, is_set}
use Rattle.action_parts.specs.Actions.{all_actions}
use Rattle.cmis_spec.specs.Repository.{Repository, same, root, entry_of, series_of, owner_of, is_latest, last_of}
use Rattle.cmis_spec.specs.Access.{is_administrator, groups_of, aces_at, granted, greater, is_at_least, level_at, level_by_list, level_of_caller, read_at}
use Rattle.cmis_spec.specs.Documents.{is_copy_of, is_working_copy, fixed_in, judge_changeable}
use Rattle.cmis_spec.specs.Retention.{has_type, is_under_hold}
use Rattle.cmis_spec.specs.Seen.{SeenSeries, seen_series, is_read}
use Rattle.cmis_laws.proofs.Lists.{by_test, same_eq}
use Rattle.cm_see.specs.Shown.{is_latest_version}
use Rattle.wr_rules.specs.Documents.{bars_content, needs_content, is_checked_out}
use Rattle.cm_see.proofs.Objects.{IsHere, here_read}
use Rattle.cm_see.proofs.SeenShown.{content_alike}
use Rattle.cm_see.proofs.Worlds.{AreAlike, IsAlike}
use Rattle.cm_actions.specs.Allowed.{actions_of, flag_of, grounds_of, kind_of, rights_of, rules_of, stage_of}

-- ---- a series, by what is seen of it

-- the owner, where x is the working copy
abbrev seen_owner : Object → SeenSeries → Option (List ℕ)
seen_owner x s = option_and_then (λ n. if same n x.id then s.owner else None) s.copy

-- x is the working copy
abbrev seen_copy : Object → SeenSeries → Bool
seen_copy x s = unwrap_or (option_map (λ n. same n x.id) s.copy) false

-- x is the latest version
abbrev seen_latest : Object → SeenSeries → Bool
seen_latest x s = unwrap_or (option_map (λ v. same v.object x.id) (last_of s.versions)) false

abbrev seen_fixed : Object → SeenSeries → Option Cause
seen_fixed x s =
    if seen_copy x s then None
    else if not (seen_latest x s) then Some causes.NotLatest
    else if is_some s.owner then Some causes.CheckedOut
    else None

module _ (r : Repository) (u : List ℕ) (x : Object) (h : IsHere r u x) where
  copy_seen : (s : Series) → is_copy_of s x.id ≡ seen_copy x (seen_series r u s)
  copy_seen s = by s.working
    where
      unread : (b : Bool) (n : Oid) → same n x.id ≡ false → false ≡ unwrap_or (option_map (λ n. same n x.id) (if b then Some n else None)) false
      unread true n e = sym e
      unread false n e = refl

      by : (o : Option WorkingCopy) → unwrap_or (option_map (λ w. same w.copy x.id) o) false
          ≡ unwrap_or (option_map (λ n. same n x.id) (option_and_then (λ w. if is_read r u w.copy then Some w.copy else None) o)) false
      by None = refl
      by (Some w) = by_test (same w.copy x.id)
          (λ e.
          let own : read_at r u w.copy ≡ Some x = ap (read_at r u) (same_eq w.copy x.id e) ∙ here_read r u x h in
          rw (own, e) refl)
          (λ e. rw e (unread (is_read r u w.copy) w.copy e))

  owner_seen : (s : Series) → option_and_then (λ w. if same w.copy x.id then Some w.owner else None) s.working ≡ seen_owner x (seen_series r u s)
  owner_seen s = by s.working
    where
      unread : (n : Oid) (p : Option (List ℕ)) (b : Bool) → same n x.id ≡ false → None ≡ option_and_then (λ m. if same m x.id then p else None) (if b then Some n else None)
      unread n p true e = rw e refl
      unread n p false e = refl

      by : (o : Option WorkingCopy) → option_and_then (λ w. if same w.copy x.id then Some w.owner else None) o
          ≡ option_and_then (λ n. if same n x.id then option_map (λ w. w.owner) o else None) (option_and_then (λ w. if is_read r u w.copy then Some w.copy else None) o)
      by None = refl
      by (Some w) = by_test (same w.copy x.id)
          (λ e.
          let own : read_at r u w.copy ≡ Some x = ap (read_at r u) (same_eq w.copy x.id e) ∙ here_read r u x h in
          rw (own, e) refl)
          (λ e. rw e (unread w.copy (Some w.owner) (is_read r u w.copy) e))

  out_seen : (s : Series) → is_some s.working ≡ is_some (seen_series r u s).owner
  out_seen s = by s.working
    where
      by : (o : Option WorkingCopy) → is_some o ≡ is_some (option_map (λ w. w.owner) o)
      by None = refl
      by (Some w) = refl

  fixed_seen : (s : Series) → fixed_in x.id s ≡ seen_fixed x (seen_series r u s)
  fixed_seen s i =
      if copy_seen s i then None
      else if not (is_latest s x.id) then Some causes.NotLatest
      else if out_seen s i then Some causes.CheckedOut
      else None

-- ---- an object, by what is seen of its series

module _ (r other : Repository) (u : List ℕ) (x : Object) (h : IsAlike r other u x) where
  series_alike : option_map (seen_series r u) (series_of r x) ≡ option_map (seen_series other u) (series_of other x)
  series_alike = ap (λ o. o.series) h.alike

  and_then_alike : {A : Type 0} (f : Series → Option A) (g : SeenSeries → Option A) → ((q : Repository) → IsHere q u x → (s : Series) → f s ≡ g (seen_series q u s))
      → option_and_then f (series_of r x) ≡ option_and_then f (series_of other x)
  and_then_alike {A} f g e = by r (e r h.here) (series_of r x) ∙ (ap (option_and_then g) series_alike ∙ sym (by other (e other h.there) (series_of other x)))
    where
      by : (q : Repository) → ((s : Series) → f s ≡ g (seen_series q u s)) → (o : Option Series) → option_and_then f o ≡ option_and_then g (option_map (seen_series q u) o)
      by q c None = refl
      by q c (Some s) = c s

  test_alike : (f : Series → Bool) (g : SeenSeries → Bool) → ((q : Repository) → IsHere q u x → (s : Series) → f s ≡ g (seen_series q u s))
      → unwrap_or (option_map f (series_of r x)) false ≡ unwrap_or (option_map f (series_of other x)) false
  test_alike f g e = by r (e r h.here) (series_of r x) ∙ (ap (λ o. unwrap_or (option_map g o) false) series_alike ∙ sym (by other (e other h.there) (series_of other x)))
    where
      by : (q : Repository) → ((s : Series) → f s ≡ g (seen_series q u s)) → (o : Option Series) → unwrap_or (option_map f o) false ≡ unwrap_or (option_map g (option_map (seen_series q u) o)) false
      by q c None = refl
      by q c (Some s) = c s

  working_alike : is_working_copy r x ≡ is_working_copy other x
  working_alike = test_alike (λ s. is_copy_of s x.id) (seen_copy x) (λ q here s. copy_seen q u x here s)

  latest_alike : is_latest_version r x ≡ is_latest_version other x
  latest_alike = test_alike (λ s. is_latest s x.id) (seen_latest x) (λ q here s. refl)

  out_alike : is_checked_out r x ≡ is_checked_out other x
  out_alike = test_alike (λ s. is_some s.working) (λ s. is_some s.owner) (λ q here s. out_seen q u x here s)

  owner_alike : owner_of r x ≡ owner_of other x
  owner_alike = and_then_alike (λ s. option_and_then (λ w. if same w.copy x.id then Some w.owner else None) s.working) (seen_owner x) (λ q here s. owner_seen q u x here s)

  changeable_alike : judge_changeable r x ≡ judge_changeable other x
  changeable_alike = ap judge_by (and_then_alike (fixed_in x.id) (seen_fixed x) (λ q here s. fixed_seen q u x here s))

-- ---- all grounds

module _ (r other : Repository) (u : List ℕ) (a : AreAlike r other u) (x : Object) (h : IsAlike r other u x) where
  types_alike : r.types ≡ other.types
  types_alike = ap (λ s. s.types) (sym a.alike)

  admin_alike : is_administrator r.users u ≡ is_administrator other.users u
  admin_alike = ap (λ s. s.administrator) (sym a.alike)

  groups_alike : groups_of r u ≡ groups_of other u
  groups_alike = ap (λ s. s.groups) (sym a.alike)

  aces_alike : aces_at r (entry_of x) ≡ aces_at other (entry_of x)
  aces_alike = ap (λ o. o.aces) h.alike

  list_alike : level_by_list r u (entry_of x) ≡ level_by_list other u (entry_of x)
  list_alike i =
      if admin_alike i then levels.All
      else if same (entry_of x) root then greater levels.Read (granted (aces_alike i) u (groups_alike i))
      else granted (aces_alike i) u (groups_alike i)

  level_alike : level_of_caller r u x ≡ level_of_caller other u x
  level_alike i = level_at (owner_alike r other u x h i) (admin_alike i) (list_alike i) u

  rights_alike : rights_of r u x ≡ rights_of other u x
  rights_alike i = record {
    write = is_at_least levels.Write (level_alike i);
    all = is_at_least levels.All (level_alike i);
    list = is_at_least levels.All (list_alike i);
    named = not (bytes_eq u (codes "anonymous"));
  }

  kind_alike : kind_of r x ≡ kind_of other x
  kind_alike i = record {
    root = same x.id root;
    folder = is_of_base (types_alike i) bases.Folder x.kind;
    document = is_of_base (types_alike i) bases.Document x.kind;
    relationship = is_of_base (types_alike i) bases.Relationship x.kind;
  }

  rules_alike : rules_of r x ≡ rules_of other x
  rules_alike i = record {
    fileable = unwrap_or (option_map (λ t. t.fileable) (type_in (types_alike i) x.kind)) false;
    versionable = unwrap_or (option_map (λ t. t.versionable) (type_in (types_alike i) x.kind)) false;
    bars_content = unwrap_or (option_map bars_content (type_in (types_alike i) x.kind)) false;
    needs_content = unwrap_or (option_map needs_content (type_in (types_alike i) x.kind)) false;
    policies = unwrap_or (option_map (λ t. t.controllable_policy) (type_in (types_alike i) x.kind)) false;
    access = unwrap_or (option_map (λ t. t.controllable_acl) (type_in (types_alike i) x.kind)) false;
  }

  held_alike : is_under_hold r x ≡ is_under_hold other x
  held_alike i =
      (is_of_base (types_alike i) bases.Document x.kind && not (working_alike r other u x h i))
      && (has_type (types_alike i) x.secondary (codes "cmis:rm_hold") && is_set (value_in x.values (codes "cmis:rm_holdIds")))

  stage_alike : stage_of r x ≡ stage_of other x
  stage_alike i = record {
    working = working_alike r other u x h i;
    latest = latest_alike r other u x h i;
    checked_out = out_alike r other u x h i;
    changeable = is_ok (changeable_alike r other u x h i);
    filled = is_some (content_alike r other u x h i);
    held = held_alike i;
  }

  pub grounds_alike : grounds_of r u x ≡ grounds_of other u x
  grounds_alike i = record { rights = rights_alike i; kind = kind_alike i; rules = rules_alike i; stage = stage_alike i }

  pub actions_alike : actions_of r u x ≡ actions_of other u x
  actions_alike = ap (λ g. map (flag_of g) all_actions) grounds_alike
