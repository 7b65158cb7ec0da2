-- The repository that is opened is well formed.
use Rattle.std.specs.Prelude.{◌≡◌, ℕ, ◌<◌, ◌≤◌, Bool, true, false, if◌then◌else◌, not, List, [], ◌∷◌, map, length, All, Option, Some, None, IfSome, is_some, option_map, unwrap_or, bytes_eq, codes}
use Rattle.std.proofs.Common.{refl, ap, subst, ◌∙◌, inl, arith}
use Rattle.std.proofs.lemmas.Bool.{both_ways}
use Rattle.std.proofs.lemmas.List.Elements.{All-nil, All-cons, All-weaker}
use Rattle.core.specs.declared.cmp.Ordering.{Ordering}
use Rattle.core.specs.declared.cmp.Ordering.TheVariants.{Less, Equal, Greater}
use Rattle.core.specs.Ordering.{nat_cmp, is_lt, ordering_then, ordering_reverse}
use Rattle.core.specs.Cmp.Lexicographic.{slice_cmp, nat_list_cmp_total}
use Rattle.cm_base.specs.declared.access.Ace.{Ace}
use Rattle.cm_base.specs.declared.access.Level.TheVariants as levels
use Rattle.cmis_spec.specs.Access.{rank}
use Rattle.cm_base.specs.declared.limits.Start.{Start}
use Rattle.cm_base.specs.Limits.{greatest_limit, AreLimits}
use Rattle.cm_base.specs.declared.object.Object.{Object}
use Rattle.cm_base.specs.declared.user.User.{User}
use Rattle.cm_base.specs.declared.user.Group.{Group}
use Rattle.cm_base.specs.declared.value.Value.{Value}
use Rattle.cm_base.specs.declared.value.Value.TheVariants.{Unset}
use Rattle.cm_types.specs.declared.definition.TypeDef.{TypeDef}
use Rattle.cm_types.specs.declared.definition.BaseType.TheVariants as bases
use Rattle.cm_types.specs.Types.{type_in, same_base, is_below, props_of}
use Rattle.cm_types.specs.Properties.{is_faulty}
use Rattle.cmis_spec.specs.Repository.{object_at, series_at, root, same, is_a, opening, root_folder, root_access, administrator_of, entry_of, longest_stream}
use Rattle.cmis_spec.specs.Values.{words, form_value}
use Rattle.cmis_spec.specs.Well.{MayOpen, root_value, IsTyped, IsKept, IsAceList, ComesBefore, IsAccess, is_listed, IsOwn, OwnsValues, IsRendition, HasGroups, IsPair, HasWay, Belongs, IsMember, members, HasSome, IsBaseAt, IsThere, HasEnds, IsLabel, IsAlone, is_plain, is_version, Apart, IsWellFormed}
use Rattle.cmis_laws.proofs.Entries.{not_both}

one : {A : Type 0} (P : A → Type 0) (x : A) → P x → All P (x ∷ [])
one P x h = All-cons P x [] h (All-nil P)

there : (o : Option TypeDef) → unwrap_or (option_map (same_base bases.Folder) (option_map (λ t. t.base) o)) false ≡ true → is_some o ≡ true
there None h = absurd (both_ways false refl h)
there (Some t) h = refl

-- the root has no value of its own but its name and its type
root_kept : (types : List TypeDef) (users : List User) (groups : List Group) (start : Start) (x : Object) → x ≡ root_folder (administrator_of (map (λ u. u.name) users)) start.moment start.first_step
    → (id : List ℕ) → root_value id ≡ form_value (opening types users groups start) x id
root_kept types users groups start x e id = rw e (same (bytes_eq id (codes "cmis:name")) (bytes_eq id (codes "cmis:objectTypeId")) (bytes_eq id (codes "cmis:secondaryObjectTypeIds")) (words (codes "root")) (words (codes "cmis:folder")))
  where
    same : (a b c : Bool) (v w : Value) → (if a then v else if b then w else Unset) ≡ (if a then v else if b then w else if c then Unset else Unset)
    same true b c v w = refl
    same false true c v w = refl
    same false false true v w = refl
    same false false false v w = refl

turned : (a b : List ℕ) → ordering_then (slice_cmp nat_cmp b a) Less ≡ Less → IsAceList (record { principal = b; level = levels.Read } ∷ record { principal = a; level = levels.All } ∷ [])
turned a b e =
    let own : Ace = record { principal = a; level = levels.All } in
    let others : Ace = record { principal = b; level = levels.Read } in
    ((one (ComesBefore others) own e, (All-nil (ComesBefore own), tt)), All-cons (λ c. 1 ≤ rank c.level) others (own ∷ []) (omega arith) (one (λ c. 1 ≤ rank c.level) own (omega arith)))

-- the list of the root stands in its order, whatever the administrator's name is
two_aces : (a b : List ℕ) (o : Ordering) → slice_cmp nat_cmp a b ≡ o
    → IsAceList (let own : Ace = record { principal = a; level = levels.All } in let others : Ace = record { principal = b; level = levels.Read } in if is_lt o then own ∷ others ∷ [] else others ∷ own ∷ [])
two_aces a b Less e =
    let own : Ace = record { principal = a; level = levels.All } in
    let others : Ace = record { principal = b; level = levels.Read } in
    ((one (ComesBefore own) others (rw e refl), (All-nil (ComesBefore others), tt)), All-cons (λ c. 1 ≤ rank c.level) own (others ∷ []) (omega arith) (one (λ c. 1 ≤ rank c.level) others (omega arith)))
two_aces a b Equal e = turned a b (ap (λ o. ordering_then o Less) (nat_list_cmp_total.antisymm b a ∙ ap ordering_reverse e))
two_aces a b Greater e = turned a b (ap (λ o. ordering_then o Less) (nat_list_cmp_total.antisymm b a ∙ ap ordering_reverse e))

-- by the types and the groups alone: they are well formed, and the root is a folder of the types without a fault
pub opening_is : (types : List TypeDef) (users : List User) (groups : List Group) (start : Start) → MayOpen types → HasGroups (map (λ u. u.name) users) groups
    → start.first_step ≤ greatest_limit → AreLimits start.limits → IsWellFormed (opening types users groups start)
opening_is types users groups start f g bound within =
    let r = opening types users groups start in
    let n = start.first_step in
    let admin : List ℕ = administrator_of (map (λ u. u.name) users) in
    let x : Object = root_folder admin start.moment n in
    record {
      numbers = ((All-nil (λ y. x.id.0 < y.id.0), tt), one (λ y. y.id.0 < 2) x (omega arith));
      series_numbers = (tt, All-nil (λ s. s.id.0 < 2));
      firsts = All-nil (λ s. IfSome (object_at r s.id) (λ y. y.series ≡ Some s.id));
      renditions = (tt, All-nil (IsRendition r));
      root = ((x, refl, f.folder), refl);
      ways = one (λ y. is_a r bases.Folder y ≡ true → HasWay [] y.id) x (λ _. (0, omega arith, refl));
      one_parent = one (λ y. is_a r bases.Folder y ≡ true → 0 ≤ 1) x (λ _. omega arith);
      pairs = All-nil (IsPair r);
      names = tt;
      documents = one (λ y. Belongs r y y.series) x (not_both r x bases.Folder bases.Document refl f.folder);
      series = All-nil (λ s. All (IsMember r s) (members s) × Apart (λ m n. same m n ≡ false) (members s) × HasSome s);
      plain = one (λ y. is_plain r y ≡ true → IfSome y.series (λ n. IfSome (series_at r n) (λ s. IsAlone s y.id))) x (λ _. tt);
      own_names = one (λ y. is_some y.name ≡ not (is_version r y)) x refl;
      relationships = one (λ y. is_a r bases.Relationship y ≡ true → HasEnds r y) x (λ e. absurd (both_ways (is_a r bases.Relationship x) (not_both r x bases.Folder bases.Relationship refl f.folder) e));
      policies = All-nil (λ p. IsBaseAt r bases.Policy p.policy × IsThere r p.object);
      access = ((All-nil (λ l. root.0 < l.at.0), tt), one (IsAccess r) (root_access admin) (inl (x, refl, not_both r x bases.Folder bases.Document refl f.folder), two_aces admin (codes "anyone") (slice_cmp nat_cmp admin (codes "anyone")) refl));
      listed = one (λ y. is_listed (root_access admin ∷ []) (entry_of y) ≡ true) x refl;
      sizes = All-nil (λ c. length c.stream.pieces ≤ longest_stream);
      groups = g;
      own_values = one (OwnsValues types) x (All-nil (IsOwn types x), tt);
      contents = (tt, All-nil (λ c. IsBaseAt r bases.Document c.of × (c.step ≤ n)));
      typed = one (IsTyped types) x (there (type_in types (codes "cmis:folder")) f.folder, All-nil (λ s. is_below types s (codes "cmis:secondary") ≡ true));
      types = f.well;
      defs = f.defs;
      kept = one (λ y. IsKept r (props_of types y.kind y.secondary) y) x
          (All-weaker (λ d. is_faulty d (root_value d.id) ≡ false) (λ d. is_faulty d (form_value r x d.id) ≡ false) (λ d e. subst (λ v. is_faulty d v ≡ false) (root_kept types users groups start x refl d.id) e) (props_of types (codes "cmis:folder") []) f.root);
      bounds = (bound, omega arith, omega arith, within);
      tokens = one (λ y. y.token ≤ n) x (omega arith);
      labels = All-nil (λ s. All (λ v. IfSome v.label (IsLabel n)) s.versions);
    }
