-- A child of one folder stands in another: every folder still leads up to the root.
use Rattle.std.specs.Prelude.{◌≡◌, ℕ, zero, suc, ◌+◌, ◌-◌, ◌≤◌, Bool, true, false, cond, not, ◌&&◌, ◌||◌, ◌⊎◌, List, [], ◌∷◌, map, length, find, count_by, All, Option, Some, None, option_map, nat_lt, bytes_eq}
use Rattle.std.specs.List.{list_any}
use Rattle.std.proofs.Common.{refl, sym, ap, subst, ◌∙◌, inl, inr, ⊎_elim, arith}
use Rattle.std.proofs.lemmas.Bool.{both_ways, ltb-false}
use Rattle.std.proofs.lemmas.List.Elements.{All-map, All-weaker}
use Rattle.cm_base.specs.declared.number.Oid.{Oid}
use Rattle.cm_base.specs.declared.object.Object.{Object}
use Rattle.cm_base.specs.declared.filing.Filed.{Filed}
use Rattle.cm_types.specs.declared.definition.BaseType.TheVariants as bases
use Rattle.cmis_spec.specs.Repository.{Repository, same, root, most_levels, levels_up, object_at, is_a, entry_of, entry_name, parent_in, upwards, is_filed, is_taken, is_under, depth_of}
use Rattle.cmis_spec.specs.Changes.{refiled, moved}
use Rattle.cmis_spec.specs.Well.{HasNumbers, IsBaseAt, IsEntryAt, Climbs, HasWay, HasRoot, HasWays, HasOneParent, HasPairs, IsPair, HasNames, Differ, Belongs, IsWellFormed}
use Rattle.cmis_laws.proofs.Lists.{by_test, bytes_turned, found_holds, none_some, same_eq, same_refl, differ, all_zip, all_from_any, apart_weaker, apart_map, count_cons}
use Rattle.cmis_laws.proofs.Tree.{climbs_beside, climbs_through, upwards_length}
use Rattle.cmis_laws.proofs.Entries.{all_there, entry_folder, entry_other}
use Rattle.cmis_laws.proofs.Paired.{way_of}

-- y is the folder n or one below it, and would stand too deep with n in the target
abbrev pub is_too_deep : Repository → Oid → Oid → Object → Bool
is_too_deep r n target y = is_a r bases.Folder y && is_under r y.id n && nat_lt most_levels (depth_of r target + 1 + (depth_of r y.id - depth_of r n))

-- ---- the pairs after a move

refiled_child : (n s t : Oid) (p : Filed) → (refiled n s t p).child ≡ p.child
refiled_child n s t p = by_test (same p.folder s && same p.child n)
    (λ e. rw e (sym (same_eq p.child n (and_right (same p.folder s) (same p.child n) e))))
    (λ e. rw e refl)
  where
    and_right : (a b : Bool) → a && b ≡ true → b ≡ true
    and_right true b h = h
    and_right false b h = absurd (both_ways false refl h)

refiled_other : (n s t : Oid) (p : Filed) → same p.child n ≡ false → refiled n s t p ≡ p
refiled_other n s t p h = by_test (same p.folder s) (λ e. rw (e, h) refl) (λ e. rw e refl)

refiled_one : (n s t : Oid) (p : Filed) → same p.folder s ≡ true → same p.child n ≡ true → refiled n s t p ≡ record { folder = t; child = n }
refiled_one n s t p a b = rw (a, b) refl

parent_yes : (p : Filed) (ps : List Filed) (h : Oid) → same p.child h ≡ true → parent_in (p ∷ ps) h ≡ Some p.folder
parent_yes p ps h e = rw e refl

parent_no : (p : Filed) (ps : List Filed) (h : Oid) → same p.child h ≡ false → parent_in (p ∷ ps) h ≡ parent_in ps h
parent_no p ps h e = rw e refl

-- whoever is not moved keeps its parent
pub parent_other : (n s t h : Oid) (ps : List Filed) → same n h ≡ false → parent_in (map (refiled n s t) ps) h ≡ parent_in ps h
parent_other n s t h [] o = refl
parent_other n s t h (p ∷ ps) o = by_test (same p.child h)
    (λ e. let at : p.child ≡ h = same_eq p.child h e in
    let q : refiled n s t p ≡ p = refiled_other n s t p (differ p.child n (λ k. both_ways (same n h) o (subst (λ m. same m h ≡ true) k e))) in
    subst (λ f. parent_in (f ∷ map (refiled n s t) ps) h ≡ parent_in (p ∷ ps) h) (sym q) (parent_yes p (map (refiled n s t) ps) h e ∙ sym (parent_yes p ps h e)))
    (λ e. parent_no (refiled n s t p) (map (refiled n s t) ps) h (subst (λ m. same m h ≡ false) (sym (refiled_child n s t p)) e) ∙ (parent_other n s t h ps o ∙ sym (parent_no p ps h e)))

counted : (n s : Oid) (ps : List Filed) → list_any (λ p. same p.folder s && same p.child n) ps ≡ true → count_by (λ p. same p.child n) ps ≡ 0 → ⊥
counted n s [] h z = both_ways false refl h
counted n s (p ∷ ps) h z = by_test (same p.child n)
    (λ e. let k : count_by (λ q. same q.child n) (p ∷ ps) ≡ 1 + count_by (λ q. same q.child n) ps = subst (λ b. count_by (λ q. same q.child n) (p ∷ ps) ≡ cond b 1 0 + count_by (λ q. same q.child n) ps) e (count_cons (λ q. same q.child n) p ps) in omega (arith, k, z))
    (λ e. let k : count_by (λ q. same q.child n) (p ∷ ps) ≡ 0 + count_by (λ q. same q.child n) ps = subst (λ b. count_by (λ q. same q.child n) (p ∷ ps) ≡ cond b 1 0 + count_by (λ q. same q.child n) ps) e (count_cons (λ q. same q.child n) p ps) in
    counted n s ps (rest (same p.folder s) (list_any (λ p. same p.folder s && same p.child n) ps) (rw e at h)) (omega (arith, k, z)))
  where
    rest : (a b : Bool) → a && false || b ≡ true → b ≡ true
    rest true b h = h
    rest false b h = h

-- and what is moved has the new one
pub parent_moved : (n s t : Oid) (ps : List Filed) → count_by (λ p. same p.child n) ps ≤ 1 → list_any (λ p. same p.folder s && same p.child n) ps ≡ true → parent_in (map (refiled n s t) ps) n ≡ Some t
parent_moved n s t [] one h = absurd (both_ways false refl h)
parent_moved n s t (p ∷ ps) one h = by_test (same p.child n)
    (λ e. by_test (same p.folder s)
    (λ f. subst (λ q. parent_in (q ∷ map (refiled n s t) ps) n ≡ Some t) (sym (refiled_one n s t p f e)) (parent_yes (record { folder = t; child = n }) (map (refiled n s t) ps) n (same_refl n)))
    (λ f. let k : count_by (λ q. same q.child n) (p ∷ ps) ≡ 1 + count_by (λ q. same q.child n) ps = subst (λ b. count_by (λ q. same q.child n) (p ∷ ps) ≡ cond b 1 0 + count_by (λ q. same q.child n) ps) e (count_cons (λ q. same q.child n) p ps) in
    absurd (counted n s ps (rw f at h) (omega (arith, k, one)))))
    (λ e. let k : count_by (λ q. same q.child n) (p ∷ ps) ≡ 0 + count_by (λ q. same q.child n) ps = subst (λ b. count_by (λ q. same q.child n) (p ∷ ps) ≡ cond b 1 0 + count_by (λ q. same q.child n) ps) e (count_cons (λ q. same q.child n) p ps) in
    parent_no (refiled n s t p) (map (refiled n s t) ps) n (subst (λ m. same m n ≡ false) (sym (refiled_child n s t p)) e)
    ∙ parent_moved n s t ps (omega (arith, k, one)) (rest (same p.folder s) (list_any (λ p. same p.folder s && same p.child n) ps) (rw e at h)))
  where
    rest : (a b : Bool) → a && false || b ≡ true → b ≡ true
    rest true b h = h
    rest false b h = h

pub count_moved : (n s t h : Oid) (ps : List Filed) → count_by (λ p. same p.child h) (map (refiled n s t) ps) ≡ count_by (λ p. same p.child h) ps
count_moved n s t h [] = refl
count_moved n s t h (p ∷ ps) = count_cons (λ q. same q.child h) (refiled n s t p) (map (refiled n s t) ps)
    ∙ (ap (λ m. cond (same m h) 1 0 + count_by (λ q. same q.child h) (map (refiled n s t) ps)) (refiled_child n s t p)
    ∙ (ap (λ k. cond (same p.child h) 1 0 + k) (count_moved n s t h ps) ∙ sym (count_cons (λ q. same q.child h) p ps)))

-- ---- ways

pub map_some : {A B : Type 0} (f : A → B) (o : Option A) (y : B) → option_map f o ≡ Some y → (x : A) × (o ≡ Some x) × (f x ≡ y)
map_some f None y h = absurd (none_some y h)
map_some f (Some x) y h = (x, refl, ap (λ o. elim o [ None ↦ f x | Some z ↦ z ]) h)

pub parent_folder : (r : Repository) (h g : Oid) → HasPairs r → parent_in r.filed h ≡ Some g → IsBaseAt r bases.Folder g
parent_folder r h g ps e =
    let a = map_some (λ p. p.folder) (find (λ p. same p.child h) r.filed) g e in
    subst (IsBaseAt r bases.Folder) a.2 ((found_holds (IsPair r) (λ p. same p.child h) r.filed a.0 ps a.1).0)

-- along places of which Q is true
pub climbs_along : (Q : Oid → Type 0) (k : ℕ) (xs ys : List Filed) (f : Oid) → ((h g : Oid) → Q h → parent_in xs h ≡ Some g → Q g × (parent_in ys h ≡ Some g)) → Q f → Climbs k xs f → Climbs k ys f
climbs_along Q zero xs ys f keep q c = c
climbs_along Q (suc k) xs ys f keep q c = let s : Q c.0 × (parent_in ys f ≡ Some c.0) = keep f c.0 q c.1 in (c.0, s.1, climbs_along Q k xs ys c.0 keep s.0 c.2)

-- what is moved is no folder: no way passes it
pub ways_beside : (r : Repository) (n s t : Oid) → HasNumbers r → HasPairs r → ((h : Oid) → IsBaseAt r bases.Folder h → same n h ≡ false) → HasWays r → HasWays (moved r n s t)
ways_beside r n s t nums ps other ways = all_zip (λ y. is_a r bases.Folder y ≡ true → HasWay r.filed y.id) (λ y. object_at r y.id ≡ Some y) (λ y. is_a r bases.Folder y ≡ true → HasWay (map (refiled n s t) r.filed) y.id) r.objects
    (λ y f there k. let w : HasWay r.filed y.id = f k in (
      w.0,
      w.1,
      climbs_along (IsBaseAt r bases.Folder) w.0 r.filed (map (refiled n s t) r.filed) y.id
          (λ h g q e. (parent_folder r h g ps e, parent_other n s t h r.filed (other h q) ∙ e)) (y, there, k) w.2,
    )) ways (all_there r.objects nums.0)

third : (a b c : Bool) → a ≡ true → b ≡ true → a && b && c ≡ false → c ≡ false
third a b c x y h = rw y at (rw x at h)

second : (a b : Bool) → a ≡ true → a && b ≡ false → b ≡ false
second a b x h = rw x at h

-- a folder is moved: the ways that pass it go by its new parent
pub ways_moved : (r : Repository) (n s t : Oid) → HasRoot r → HasWays r → IsBaseAt r bases.Folder n → IsBaseAt r bases.Folder t
    → count_by (λ p. same p.child n) r.filed ≤ 1 → is_filed r s n ≡ true → is_under r t n ≡ false → list_any (is_too_deep r n t) r.objects ≡ false
    → HasWays (moved r n s t)
unfolding levels_up most_levels
ways_moved r n s t top ways fn ft one filed beside deep =
    let xs = r.filed in
    let ys = map (refiled n s t) r.filed in
    let wn : HasWay xs n = way_of r n ways fn in
    let wt : HasWay xs t = way_of r t ways ft in
    let keep : (h g : Oid) → same n h ≡ false → parent_in xs h ≡ Some g → parent_in ys h ≡ Some g = λ h g o e. parent_other n s t h xs o ∙ e in
    let tn : Climbs (suc wt.0) ys n = (t, parent_moved n s t xs one filed, climbs_beside wt.0 49 xs ys n t keep wt.2 (omega (arith, wt.1)) beside) in
    let ln : length (upwards 49 xs n) ≡ suc wn.0 = upwards_length wn.0 49 xs n top.1 wn.2 (omega (arith, wn.1)) in
    let lt : length (upwards 49 xs t) ≡ suc wt.0 = upwards_length wt.0 49 xs t top.1 wt.2 (omega (arith, wt.1)) in
    all_zip (λ y. is_a r bases.Folder y ≡ true → HasWay xs y.id) (λ y. is_too_deep r n t y ≡ false) (λ y. is_a r bases.Folder y ≡ true → HasWay ys y.id) r.objects
    (λ y f no k.
    let w : HasWay xs y.id = f k in
    let ly : length (upwards 49 xs y.id) ≡ suc w.0 = upwards_length w.0 49 xs y.id top.1 w.2 (omega (arith, w.1)) in
    by_test (list_any (same n) (upwards 49 xs y.id))
    (λ e.
    let c : (wn.0 ≤ w.0) × Climbs (suc wt.0 + (w.0 - wn.0)) ys y.id = climbs_through w.0 49 wn.0 (suc wt.0) xs ys n y.id top.1 keep wn.2 tn w.2 (omega (arith, w.1)) e in
    let far : nat_lt 48 (length (upwards 49 xs t) - 1 + 1 + (length (upwards 49 xs y.id) - 1 - (length (upwards 49 xs n) - 1))) ≡ false = third (is_a r bases.Folder y) (is_under r y.id n) _ k e no in
    let near : length (upwards 49 xs t) - 1 + 1 + (length (upwards 49 xs y.id) - 1 - (length (upwards 49 xs n) - 1)) ≤ 48 = ltb-false 48 _ far in
    (suc wt.0 + (w.0 - wn.0), omega (arith, near, ly, ln, lt, c.0), c.1))
    (λ e. (w.0, w.1, climbs_beside w.0 49 xs ys n y.id keep w.2 (omega (arith, w.1)) e)))
    ways (all_from_any (is_too_deep r n t) r.objects deep)

-- ---- names

moved_cases : (n s t : Oid) (p : Filed) → ((p.folder ≡ s) × (p.child ≡ n) × ((refiled n s t p).folder ≡ t)) ⊎ (refiled n s t p ≡ p)
moved_cases n s t p = by_test (same p.folder s)
    (λ a. by_test (same p.child n)
    (λ b. inl (same_eq p.folder s a, same_eq p.child n b, ap (λ q. q.folder) (refiled_one n s t p a b)))
    (λ b. inr (refiled_other n s t p b)))
    (λ a. inr (rw a refl))

abbrev Free : Repository → Oid → Oid → Filed → Type 0
Free r n t p = (same p.folder t && same p.child n ≡ false) × (same p.folder t && not (same p.child n) && bytes_eq (entry_name r p.child) (entry_name r n) ≡ false)

unlike : (r : Repository) (n t : Oid) (p : Filed) → Free r n t p → p.folder ≡ t → bytes_eq (entry_name r p.child) (entry_name r n) ≡ false
unlike r n t p f e =
    let a : same p.folder t ≡ true = rw e (same_refl t) in
    let b : same p.child n ≡ false = second (same p.folder t) (same p.child n) a f.0 in
    third (same p.folder t) (not (same p.child n)) (bytes_eq (entry_name r p.child) (entry_name r n)) a (rw b refl) f.1

pub names_moved : (r : Repository) (n s t : Oid) → All (Free r n t) r.filed → HasNames r → HasNames (moved r n s t)
names_moved r n s t free h = apart_map (Differ r) (refiled n s t) r.filed
    (apart_weaker (Free r n t) (Differ r) (λ p q. Differ r (refiled n s t p) (refiled n s t q)) r.filed
    (λ p q a b d e. rw (refiled_child n s t p, refiled_child n s t q) (step p q a b d e (moved_cases n s t p) (moved_cases n s t q))) free h)
  where
    step : (p q : Filed) → Free r n t p → Free r n t q → Differ r p q → (refiled n s t p).folder ≡ (refiled n s t q).folder
        → ((p.folder ≡ s) × (p.child ≡ n) × ((refiled n s t p).folder ≡ t)) ⊎ (refiled n s t p ≡ p)
        → ((q.folder ≡ s) × (q.child ≡ n) × ((refiled n s t q).folder ≡ t)) ⊎ (refiled n s t q ≡ q)
        → bytes_eq (entry_name r p.child) (entry_name r q.child) ≡ false
    step p q a b d e (inl x) (inl y) = d (x.0 ∙ sym y.0)
    step p q a b d e (inl x) (inr y) = bytes_turned (entry_name r q.child) (entry_name r p.child)
        (subst (λ m. bytes_eq (entry_name r q.child) (entry_name r m) ≡ false) (sym x.1) (unlike r n t q b (sym (ap (λ f. f.folder) y) ∙ (sym e ∙ x.2))))
    step p q a b d e (inr x) (inl y) =
        subst (λ m. bytes_eq (entry_name r p.child) (entry_name r m) ≡ false) (sym y.1) (unlike r n t p a (sym (ap (λ f. f.folder) x) ∙ (e ∙ y.2)))
    step p q a b d e (inr x) (inr y) = d (sym (ap (λ f. f.folder) x) ∙ (e ∙ ap (λ f. f.folder) y))

-- ---- the other facts

pub pairs_moved : (r : Repository) (n s t : Oid) → IsBaseAt r bases.Folder t → HasPairs r → HasPairs (moved r n s t)
pairs_moved r n s t ft h = All-map (IsPair r) (refiled n s t) r.filed (All-weaker (IsPair r) (λ p. IsPair r (refiled n s t p))
    (λ p l. (
      ⊎_elim (λ x. subst (IsBaseAt r bases.Folder) (sym x.2) ft) (λ e. subst (λ q. IsBaseAt r bases.Folder q.folder) (sym e) l.0) (moved_cases n s t p),
      subst (IsEntryAt r) (sym (refiled_child n s t p)) l.1,
    )) r.filed h)

pub one_parent_moved : (r : Repository) (n s t : Oid) → HasOneParent r → HasOneParent (moved r n s t)
one_parent_moved r n s t h = All-weaker (λ x. is_a r bases.Folder x ≡ true → count_by (λ p. same p.child x.id) r.filed ≤ 1) (λ x. is_a r bases.Folder x ≡ true → count_by (λ p. same p.child x.id) (map (refiled n s t) r.filed) ≤ 1)
    (λ x f k. rw (count_moved n s t x.id r.filed) (f k)) r.objects h

pub root_moved : (r : Repository) (n s t : Oid) → same n root ≡ false → HasRoot r → HasRoot (moved r n s t)
root_moved r n s t o h = (h.0, parent_other n s t root r.filed o ∙ h.1)

-- ---- all

-- what a move must be, where its source is another folder than its target
pub record IsMove (r : Repository) (x : Object) (source target : Oid) : Type 0 where
  pub there : object_at r x.id ≡ Some x
  pub goal : IsBaseAt r bases.Folder target
  pub no_root : same x.id root ≡ false
  pub filed : is_filed r source (entry_of x) ≡ true
  pub unfiled : is_filed r target (entry_of x) ≡ false
  pub below : is_a r bases.Folder x ≡ true → is_under r target x.id ≡ false
  pub deep : is_a r bases.Folder x ≡ true → list_any (is_too_deep r x.id target) r.objects ≡ false
  pub free : is_taken r target (entry_of x) (entry_name r (entry_of x)) ≡ false

pub move_keeps : (r : Repository) (x : Object) (source target : Oid) → IsWellFormed r → IsMove r x source target → IsWellFormed (moved r (entry_of x) source target)
move_keeps r x s t w p =
    let n = entry_of x in
    let belongs : Belongs r x x.series = found_holds (λ x. Belongs r x x.series) (λ y. same y.id x.id) r.objects x w.documents p.there in
    let free : All (Free r n t) r.filed = all_zip (λ q. same q.folder t && same q.child n ≡ false) (λ q. same q.folder t && not (same q.child n) && bytes_eq (entry_name r q.child) (entry_name r n) ≡ false) (Free r n t) r.filed (λ q a b. (a, b))
    (all_from_any (λ q. same q.folder t && same q.child n) r.filed p.unfiled) (all_from_any (λ q. same q.folder t && not (same q.child n) && bytes_eq (entry_name r q.child) (entry_name r n)) r.filed p.free) in
    let ways : HasWays (moved r n s t) = by_test (is_a r bases.Folder x)
    (λ f.
    let at : n ≡ x.id = entry_folder r x x.series belongs f in
    ways_moved r n s t w.root w.ways (x, subst (λ z. object_at r z ≡ Some x) (sym at) p.there, f) p.goal
    (subst (λ z. count_by (λ q. same q.child z) r.filed ≤ 1) (sym at) (found_holds (λ y. is_a r bases.Folder y ≡ true → count_by (λ q. same q.child y.id) r.filed ≤ 1) (λ y. same y.id x.id) r.objects x w.one_parent p.there f))
    p.filed (subst (λ z. is_under r t z ≡ false) (sym at) (p.below f)) (subst (λ z. list_any (is_too_deep r z t) r.objects ≡ false) (sym at) (p.deep f)))
    (λ f. ways_beside r n s t w.numbers w.pairs (entry_other r x x.series w.firsts w.documents belongs p.there f) w.ways) in
    let top : same n root ≡ false = by_test (is_a r bases.Folder x)
    (λ f. subst (λ z. same z root ≡ false) (sym (entry_folder r x x.series belongs f)) p.no_root)
    (λ f. entry_other r x x.series w.firsts w.documents belongs p.there f root w.root.0) in
    record {
      numbers = w.numbers;
      series_numbers = w.series_numbers;
      firsts = w.firsts;
      renditions = w.renditions;
      root = root_moved r n s t top w.root;
      ways = ways;
      one_parent = one_parent_moved r n s t w.one_parent;
      pairs = pairs_moved r n s t p.goal w.pairs;
      names = names_moved r n s t free w.names;
      documents = w.documents;
      series = w.series;
      plain = w.plain;
      own_names = w.own_names;
      relationships = w.relationships;
      policies = w.policies;
      access = w.access;
      listed = w.listed;
      contents = w.contents;
      sizes = w.sizes;
      typed = w.typed;
      types = w.types;
      defs = w.defs;
      kept = w.kept;
      own_values = w.own_values;
      groups = w.groups;
      bounds = w.bounds;
      tokens = w.tokens;
      labels = w.labels;
    }
