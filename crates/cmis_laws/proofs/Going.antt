-- What goes with a deletion may go: nothing that stays ends at it, is filed in it, or has it applied.
use Rattle.std.specs.Prelude.{◌≡◌, ℕ, Bool, true, false, not, ◌&&◌, ◌||◌, ◌⊎◌, List, [], ◌∷◌, map, filter, find, All, Contains, Option, Some, None, IfSome, unwrap_or, option_map, option_and_then}
use Rattle.std.specs.List.{list_any, flat_map}
use Rattle.std.proofs.Common.{refl, sym, ap, subst, ◌∙◌, inl, inr, ⊎_elim}
use Rattle.std.proofs.lemmas.Bool.{both_ways, and_parts}
use Rattle.std.proofs.lemmas.List.Folds.{list_any-append}
use Rattle.std.proofs.lemmas.List.Elements.{All-head, All-tail, All-weaker, All-contains, All-contains_itself}
use Rattle.cm_base.specs.declared.number.Moment.{Moment}
use Rattle.cm_base.specs.declared.number.Oid.{Oid}
use Rattle.cm_base.specs.declared.object.Object.{Object}
use Rattle.cm_types.specs.declared.definition.BaseType.{BaseType}
use Rattle.cm_types.specs.declared.definition.BaseType.TheVariants as bases
use Rattle.cm_types.specs.Types.{same_base}
use Rattle.cmis_spec.specs.Repository.{Repository, same, root, object_at, is_a}
use Rattle.cmis_spec.specs.Access.{oid_named}
use Rattle.cmis_spec.specs.Removal.{ends_of, is_id_of, is_tied, going_with, among, each_once, going, removed, deleted, entry_goes}
use Rattle.cmis_spec.specs.Well.{IsThere, IsBaseAt, IsEnd, HasEnds, IsPair, IsWellFormed}
use Rattle.cmis_laws.proofs.Lists.{by_test, find_yes, find_no, some_eq, all_from_any, all_zip, all_found, none_some, same_eq, same_refl}
use Rattle.cmis_laws.proofs.Entries.{not_both, one_there}
use Rattle.cmis_laws.proofs.Removed.{IsRemoval, removal_keeps}

-- ---- lists

or_cases : (a b : Bool) → (a || b) ≡ true → (a ≡ true) ⊎ (b ≡ true)
or_cases true b h = inl refl
or_cases false b h = inr h

or_first : (a b : Bool) → a ≡ true → (a || b) ≡ true
or_first a b h = ap (λ c. c || b) h

or_second : (a b : Bool) → b ≡ true → (a || b) ≡ true
or_second true b h = refl
or_second false b h = h

-- one of both
pub either : {G : Type 0} (a b : Bool) → (a || b) ≡ true → (a ≡ true → G) → (b ≡ true → G) → G
either a b h f g = ⊎_elim f g (or_cases a b h)

-- what is not n stays where n is dropped
among_kept : (n m : Oid) (ls : List Oid) → among ls m ≡ true → same m n ≡ false → among (filter (λ k. not (same n k)) ls) m ≡ true
among_kept n m [] k e = absurd (both_ways false refl k)
among_kept n m (l ∷ ls) k e = by_test (same n l)
    (λ t. rw t (among_kept n m ls (sym (ap (λ c. c || among ls m) (subst (λ z. same m z ≡ false) (same_eq n l t) e)) ∙ k) e))
    (λ t. rw t (either (same m l) (among ls m) k
    (λ a. or_first (same m l) (among (filter (λ k. not (same n k)) ls) m) a)
    (λ a. or_second (same m l) (among (filter (λ k. not (same n k)) ls) m) (among_kept n m ls a e))))

-- dropping repeats loses nothing
pub among_once : (m : Oid) (ms : List Oid) → among ms m ≡ true → among (each_once ms) m ≡ true
among_once m [] h = h
among_once m (n ∷ ns) h = by_test (same m n)
    (λ a. or_first (same m n) (among (filter (λ k. not (same n k)) (each_once ns)) m) a)
    (λ a. or_second (same m n) (among (filter (λ k. not (same n k)) (each_once ns)) m)
    (among_kept n m (each_once ns) (among_once m ns (sym (ap (λ c. c || among ns m) a) ∙ h)) a))

-- and adds nothing
among_filter : (q : Oid → Bool) (m : Oid) (ms : List Oid) → among (filter q ms) m ≡ true → among ms m ≡ true
among_filter q m [] h = h
among_filter q m (n ∷ ns) h = by_test (q n)
    (λ e. either (same m n) (among (filter q ns) m) (rw e at h) (λ a. or_first (same m n) (among ns m) a) (λ a. or_second (same m n) (among ns m) (among_filter q m ns a)))
    (λ e. or_second (same m n) (among ns m) (among_filter q m ns (rw e at h)))

pub once_among : (m : Oid) (ms : List Oid) → among (each_once ms) m ≡ true → among ms m ≡ true
once_among m [] h = h
once_among m (n ∷ ns) h = either (same m n) (among (filter (λ k. not (same n k)) (each_once ns)) m) h
    (λ a. or_first (same m n) (among ns m) a)
    (λ a. or_second (same m n) (among ns m) (once_among m ns (among_filter (λ k. not (same n k)) m (each_once ns) a)))

-- ---- what goes

module _ (r : Repository) (w : IsWellFormed r) where
  -- the relationships that one ends
  tied_among : (n : Oid) (y : Object) (xs : List Object) → list_any (λ x. same y.id x.id && is_tied r n x) xs ≡ true → among (map (λ x. x.id) (filter (is_tied r n) xs)) y.id ≡ true
  tied_among n y [] h = h
  tied_among n y (x ∷ xs) h = by_test (is_tied r n x)
      (λ e. rw e (either (same y.id x.id && is_tied r n x) (list_any (λ x. same y.id x.id && is_tied r n x) xs) h
      (λ a. or_first (same y.id x.id) (among (map (λ x. x.id) (filter (is_tied r n) xs)) y.id) (and_parts (same y.id x.id) (is_tied r n x) a).0)
      (λ a. or_second (same y.id x.id) (among (map (λ x. x.id) (filter (is_tied r n) xs)) y.id) (tied_among n y xs a))))
      (λ e. rw e (either (same y.id x.id && is_tied r n x) (list_any (λ x. same y.id x.id && is_tied r n x) xs) h
      (λ a. absurd (both_ways (is_tied r n x) e (and_parts (same y.id x.id) (is_tied r n x) a).1))
      (λ a. tied_among n y xs a)))

  any_own : (P : Object → Bool) (y : Object) (xs : List Object) → find (λ x. same x.id y.id) xs ≡ Some y → P y ≡ true → list_any (λ x. same y.id x.id && P x) xs ≡ true
  any_own P y [] h p = absurd (none_some y h)
  any_own P y (x ∷ xs) h p = by_test (same x.id y.id)
      (λ e. let at : x ≡ y = some_eq x y (sym (find_yes (λ x. same x.id y.id) x xs e) ∙ h) in
      or_first (same y.id x.id && P x) (list_any (λ x. same y.id x.id && P x) xs) (subst (λ z. (same y.id z.id && P z) ≡ true) (sym at) (ap (λ b. b && P y) (same_refl y.id) ∙ p)))
      (λ e. or_second (same y.id x.id && P x) (list_any (λ x. same y.id x.id && P x) xs) (any_own P y xs (sym (find_no (λ x. same x.id y.id) x xs e) ∙ h) p))

  -- a relationship goes with each of its ends
  tied_with : (ns : List Oid) (n : Oid) (y : Object) → object_at r y.id ≡ Some y → is_tied r n y ≡ true → among ns n ≡ true → among (flat_map (going_with r) ns) y.id ≡ true
  tied_with [] n y there tied h = absurd (both_ways false refl h)
  tied_with (m ∷ ms) n y there tied h = list_any-append (same y.id) (going_with r m) (flat_map (going_with r) ms) ∙ either (same n m) (among ms n) h
      (λ a. or_first (among (going_with r m) y.id) (among (flat_map (going_with r) ms) y.id) (subst (λ k. among (going_with r k) y.id ≡ true) (same_eq n m a)
      (or_second (same y.id n) (among (map (λ x. x.id) (filter (is_tied r n) r.objects)) y.id) (tied_among n y r.objects (any_own (is_tied r n) y r.objects there tied)))))
      (λ a. or_second (among (going_with r m) y.id) (among (flat_map (going_with r) ms) y.id) (tied_with ms n y there tied a))

  pub tied_goes : (ns : List Oid) (n : Oid) (y : Object) → object_at r y.id ≡ Some y → is_tied r n y ≡ true → among ns n ≡ true → among (going r ns) y.id ≡ true
  tied_goes ns n y there tied h = among_once y.id (flat_map (going_with r) ns) (tied_with ns n y there tied h)

  is_tie : (n m : Oid) (xs : List Object) → All (λ x. object_at r x.id ≡ Some x) xs → among (map (λ x. x.id) (filter (is_tied r n) xs)) m ≡ true → IsBaseAt r bases.Relationship m
  is_tie n m [] all k = absurd (both_ways false refl k)
  is_tie n m (x ∷ xs) all k = by_test (is_tied r n x)
      (λ e. either (same m x.id) (among (map (λ x. x.id) (filter (is_tied r n) xs)) m) (rw e at k)
      (λ a. (x, ap (object_at r) (same_eq m x.id a) ∙ All-head (λ x. object_at r x.id ≡ Some x) x xs all, (and_parts (is_a r bases.Relationship x) (list_any (is_id_of n) (ends_of x)) e).0))
      (λ a. is_tie n m xs (All-tail (λ x. object_at r x.id ≡ Some x) x xs all) a))
      (λ e. is_tie n m xs (All-tail (λ x. object_at r x.id ≡ Some x) x xs all) (rw e at k))

  goes_with : (ns : List Oid) (m : Oid) → among (flat_map (going_with r) ns) m ≡ true → (among ns m ≡ true) ⊎ IsBaseAt r bases.Relationship m
  goes_with [] m k = absurd (both_ways false refl k)
  goes_with (n ∷ ns) m k = either (among (going_with r n) m) (among (flat_map (going_with r) ns) m) (sym (list_any-append (same m) (going_with r n) (flat_map (going_with r) ns)) ∙ k)
      (λ a. either (same m n) (among (map (λ x. x.id) (filter (is_tied r n) r.objects)) m) a
      (λ b. inl (or_first (same m n) (among ns m) b))
      (λ b. inr (is_tie n m r.objects (all_found (λ x. x.id) r.objects w.numbers.0) b)))
      (λ a. ⊎_elim (λ b. inl (or_second (same m n) (among ns m) b)) (λ b. inr b) (goes_with ns m a))

  -- what goes is one of these, or a relationship
  pub goes_by : (ns : List Oid) (m : Oid) → among (going r ns) m ≡ true → (among ns m ≡ true) ⊎ IsBaseAt r bases.Relationship m
  goes_by ns m h = goes_with ns m (once_among m (flat_map (going_with r) ns) h)

  -- ---- what may go

  -- the root is not among them, nothing is filed in one of them, and none is applied
  pub record IsFree (ns : List Oid) : Type 0 where
    pub root : among ns root ≡ false
    pub folders : All (λ p. among ns p.folder ≡ false) r.filed
    pub policies : All (λ a. among ns a.policy ≡ false) r.applied

  -- what is neither a folder nor a policy is free
  abbrev pub IsLoose : Oid → Type 0
  IsLoose n = (x : Object) × (object_at r n ≡ Some x) × (is_a r bases.Folder x ≡ false) × (is_a r bases.Policy x ≡ false)

  pub loose_free : (ns : List Oid) → ((n : Oid) → among ns n ≡ true → IsLoose n) → IsFree ns
  loose_free ns loose = record {
    root = no_folder root w.root.0;
    folders = All-weaker (IsPair r) (λ p. among ns p.folder ≡ false) (λ p l. no_folder p.folder l.0) r.filed w.pairs;
    policies = All-weaker (λ a. IsBaseAt r bases.Policy a.policy × IsThere r a.object) (λ a. among ns a.policy ≡ false) (λ a l. no_policy a.policy l.0) r.applied w.policies;
  }
    where
      no_folder : (n : Oid) → IsBaseAt r bases.Folder n → among ns n ≡ false
      no_folder n h = by_test (among ns n) (λ t. let l = loose n t in absurd (both_ways (is_a r bases.Folder l.0) l.2 (subst (λ z. is_a r bases.Folder z ≡ true) (one_there r n h.0 l.0 h.1 l.1) h.2))) (λ t. t)

      no_policy : (n : Oid) → IsBaseAt r bases.Policy n → among ns n ≡ false
      no_policy n h = by_test (among ns n) (λ t. let l = loose n t in absurd (both_ways (is_a r bases.Policy l.0) l.3 (subst (λ z. is_a r bases.Policy z ≡ true) (one_there r n h.0 l.0 h.1 l.1) h.2))) (λ t. t)

  module _ (ns : List Oid) (free : IsFree ns) where
    abbrev gone : Oid → Bool
    gone = among (going r ns)

    -- what is no relationship goes only as one of these
    stays : (n : Oid) → among ns n ≡ false → (IsBaseAt r bases.Relationship n → ⊥) → gone n ≡ false
    stays n other kind = by_test (gone n) (λ t. absurd (⊎_elim (λ a. both_ways (among ns n) other a) kind (goes_by ns n t))) (λ t. t)

    no_tie : (b : BaseType) (n : Oid) → same_base b bases.Relationship ≡ false → IsBaseAt r b n → IsBaseAt r bases.Relationship n → ⊥
    no_tie b n other h t = both_ways (is_a r bases.Relationship t.0) (not_both r t.0 b bases.Relationship other (subst (λ z. is_a r b z ≡ true) (one_there r n h.0 t.0 h.1 t.1) h.2)) t.2

    any_contains : (p : List ℕ → Bool) (ids : List (List ℕ)) (id : List ℕ) → Contains ids id → p id ≡ true → list_any p ids ≡ true
    any_contains p ids id inside h = by_test (list_any p ids) (λ t. t) (λ t. absurd (both_ways (p id) (All-contains (λ i. p i ≡ false) ids id (all_from_any p ids t) inside) h))

    end_stays : (y : Object) → object_at r y.id ≡ Some y → is_a r bases.Relationship y ≡ true → gone y.id ≡ false → (id : List ℕ) → Contains (ends_of y) id → IsEnd r id → IfSome (oid_named id) (λ n. gone n ≡ false)
    end_stays y there e k id inside h = by (oid_named id) refl h.1
      where
        tied : (n : Oid) → oid_named id ≡ Some n → is_tied r n y ≡ true
        tied n j = ap (λ b. b && list_any (is_id_of n) (ends_of y)) e
            ∙ any_contains (is_id_of n) (ends_of y) id inside (ap (λ o. unwrap_or (option_map (same n) o) false) j ∙ same_refl n)

        never : (n : Oid) → oid_named id ≡ Some n → object_at r n ≡ Some h.0 → (among ns n ≡ true) ⊎ IsBaseAt r bases.Relationship n → ⊥
        never n j at (inl a) = both_ways (gone y.id) k (tied_goes ns n y there (tied n j) a)
        never n j at (inr b) = both_ways (is_a r bases.Relationship h.0) h.2 (subst (λ z. is_a r bases.Relationship z ≡ true) (one_there r n b.0 h.0 b.1 at) b.2)

        by : (o : Option Oid) → oid_named id ≡ o → option_and_then (object_at r) o ≡ Some h.0 → IfSome o (λ n. gone n ≡ false)
        by None j at = tt
        by (Some n) j at = by_test (gone n) (λ t. absurd (never n j at (goes_by ns n t))) (λ t. t)

    pub may_go : IsRemoval r gone
    may_go = record {
      root = stays root free.root (no_tie bases.Folder root refl w.root.0);
      folders = all_zip (λ p. among ns p.folder ≡ false) (IsPair r) (λ p. entry_goes r gone p.child ≡ false → gone p.folder ≡ false) r.filed (λ p g l _. stays p.folder g (no_tie bases.Folder p.folder refl l.0)) free.folders w.pairs;
      ends = all_zip (λ y. object_at r y.id ≡ Some y) (λ y. is_a r bases.Relationship y ≡ true → HasEnds r y)
          (λ y. is_a r bases.Relationship y ≡ true → gone y.id ≡ false → All (λ id. IfSome (oid_named id) (λ n. gone n ≡ false)) (ends_of y)) r.objects
          (λ y there h e k. all_zip (Contains (ends_of y)) (IsEnd r) (λ id. IfSome (oid_named id) (λ n. gone n ≡ false)) (ends_of y) (λ id inside i. end_stays y there e k id inside i) (All-contains_itself (ends_of y)) (h e))
          (all_found (λ y. y.id) r.objects w.numbers.0) w.relationships;
      policies = all_zip (λ a. among ns a.policy ≡ false) (λ a. IsBaseAt r bases.Policy a.policy × IsThere r a.object) (λ a. gone a.object ≡ false → gone a.policy ≡ false) r.applied
          (λ a g l _. stays a.policy g (no_tie bases.Policy a.policy refl l.0)) free.policies w.policies;
    }

    -- so they may be deleted
    pub deleted_keeps : (m : Moment) → IsWellFormed (deleted r m ns)
    deleted_keeps m =
        let k : IsWellFormed (removed r gone) = removal_keeps r gone w may_go in
        record {
          numbers = k.numbers;
          series_numbers = k.series_numbers;
          firsts = k.firsts;
          renditions = k.renditions;
          root = k.root;
          ways = k.ways;
          one_parent = k.one_parent;
          pairs = k.pairs;
          names = k.names;
          documents = k.documents;
          series = k.series;
          plain = k.plain;
          own_names = k.own_names;
          relationships = k.relationships;
          policies = k.policies;
          access = k.access;
          listed = k.listed;
          contents = k.contents;
          sizes = k.sizes;
          typed = k.typed;
          types = k.types;
          defs = k.defs;
          kept = k.kept;
          own_values = k.own_values;
          groups = k.groups;
          bounds = k.bounds;
          tokens = k.tokens;
          labels = k.labels;
        }
