-- The objects that stand in a folder: by their numbers, and by their names.
use Rattle.std.specs.Prelude.{◌≡◌, ℕ, ◌<◌, ◌==◌, Bool, true, false, ◌&&◌, ◌||◌, if◌then◌else◌, List, [], ◌∷◌, map, filter, find, All, Option, Some, None, is_some, option_map, option_and_then, unwrap_or, bytes_eq}
use Rattle.std.specs.List.{list_any}
use Rattle.std.proofs.Common.{refl, sym, ap, subst, ◌∙◌, arith}
use Rattle.std.proofs.lemmas.Bool.{both_ways, and_parts}
use Rattle.std.proofs.lemmas.List.Folds.{list_any_none}
use Rattle.std.proofs.lemmas.Slice.Eq.{bytes_eq-Decides}
use Rattle.std.proofs.lemmas.List.Elements.{All-nil, All-cons, All-head, All-tail, All-weaker}
use Rattle.cm_base.specs.declared.number.Oid.{Oid}
use Rattle.cm_base.specs.declared.object.Object.{Object}
use Rattle.cm_base.specs.declared.filing.Filed.{Filed}
use Rattle.cm_map.specs.Keyed.{Rises}
use Rattle.cmis_spec.specs.Repository.{Repository, same, object_at, is_filed, entry_of, entry_name}
use Rattle.cmis_spec.specs.Access.{stands}
use Rattle.cmis_spec.specs.Well.{Apart, Differ, IsWellFormed}
use Rattle.cmis_laws.proofs.Lists.{by_test, some_eq, find_yes, find_no, find_none, find_alike, found_holds, found_passes, none_some, same_eq, same_refl, differ}
use Rattle.cmis_laws.proofs.Entries.{all_there}
use Rattle.cm_state.specs.Looks.{entries_in, child_in, standing_at, has_number, numbers_in}
use Rattle.cm_state.proofs.Numbers.{flip}
use Rattle.cm_state.proofs.Stands.{number_stands, none_stands, tells, bool_same}

-- ---- lists of numbers that rise

is_some_find : {A : Type 0} (p : A → Bool) (xs : List A) → is_some (find p xs) ≡ list_any p xs
is_some_find p [] = refl
is_some_find p (x ∷ xs) = by_test (p x) (λ e. rw e refl) (λ e. rw e (is_some_find p xs))

any_found : {A : Type 0} (p : A → Bool) (xs : List A) → list_any p xs ≡ true → (x : A) × (find p xs ≡ Some x)
any_found p xs h = by (find p xs) (is_some_find p xs ∙ h)
  where
    by : {A : Type 0} (o : Option A) → is_some o ≡ true → (x : A) × (o ≡ Some x)
    by None e = absurd (both_ways false refl e)
    by (Some x) e = (x, refl)

rises_filter : (q : Object → Bool) (xs : List Object) → Apart (λ x y. x.id.0 < y.id.0) xs → Rises (λ n. n.0) (map (λ x. x.id) (filter q xs))
rises_filter q [] a = tt
rises_filter q (x ∷ xs) a = by_test (q x)
    (λ e. rw e (above xs a.0, rises_filter q xs a.1))
    (λ e. rw e (rises_filter q xs a.1))
  where
    above : (ys : List Object) → All (λ y. x.id.0 < y.id.0) ys → All (λ n. x.id.0 < n.0) (map (λ y. y.id) (filter q ys))
    above [] h = All-nil (λ n. x.id.0 < n.0)
    above (y ∷ ys) h = by_test (q y)
        (λ e. rw e (All-cons (λ n. x.id.0 < n.0) y.id (map (λ y. y.id) (filter q ys)) (All-head (λ y. x.id.0 < y.id.0) y ys h) (above ys (All-tail (λ y. x.id.0 < y.id.0) y ys h))))
        (λ e. rw e (above ys (All-tail (λ y. x.id.0 < y.id.0) y ys h)))

any_filter : (q : Object → Bool) (n : Oid) (xs : List Object) → Apart (λ x y. x.id.0 < y.id.0) xs
    → list_any (same n) (map (λ x. x.id) (filter q xs)) ≡ unwrap_or (option_map q (find (λ x. same x.id n) xs)) false
any_filter q n [] a = refl
any_filter q n (x ∷ xs) a = by_test (same x.id n)
    (λ e.
    let at : x.id ≡ n = same_eq x.id n e in
    let none_left : find (λ y. same y.id n) xs ≡ None = find_none (λ y. same y.id n) xs (All-weaker (λ y. x.id.0 < y.id.0) (λ y. same y.id n ≡ false)
    (λ y l. differ y.id n (λ k. let m : x.id.0 ≡ y.id.0 = ap (λ i. i.0) (at ∙ sym k) in omega (arith, l, m))) xs a.0) in
    let rest : list_any (same n) (map (λ x. x.id) (filter q xs)) ≡ false = any_filter q n xs a.1 ∙ ap (λ o. unwrap_or (option_map q o) false) none_left in
    by_test (q x)
    (λ d. rw (e, d) (ap (λ b. b || list_any (same n) (map (λ x. x.id) (filter q xs))) (subst (λ m. same n m ≡ true) (sym at) (same_refl n))))
    (λ d. rw (e, d) rest))
    (λ e.
    let other : same n x.id ≡ false = flip x.id.0 n.0 ∙ e in
    by_test (q x)
    (λ d. rw (e, d, other) (any_filter q n xs a.1))
    (λ d. rw (e, d) (any_filter q n xs a.1)))

none_below : (n : Oid) (ys : List Oid) → All (λ m. n.0 < m.0) ys → list_any (same n) ys ≡ false
none_below n ys h = list_any_none (same n) ys (All-weaker (λ m. n.0 < m.0) (λ m. same n m ≡ false) (λ m l. differ n m (λ k. let e : n.0 ≡ m.0 = ap (λ i. i.0) k in omega (arith, l, e))) ys h)

has_head : (x : Oid) (xs : List Oid) → list_any (same x) (x ∷ xs) ≡ true
has_head x xs = rw (same_refl x) refl

-- with the same members, they are one; the first of one list is not below the first of the other
pub rising_same : (xs ys : List Oid) → Rises (λ n. n.0) xs → Rises (λ n. n.0) ys → ((n : Oid) → list_any (same n) xs ≡ list_any (same n) ys) → xs ≡ ys
rising_same [] [] a b h = refl
rising_same [] (y ∷ ys) a b h = absurd (both_ways false refl (h y ∙ has_head y ys))
rising_same (x ∷ xs) [] a b h = absurd (both_ways false refl (sym (h x) ∙ has_head x xs))
rising_same (x ∷ xs) (y ∷ ys) a b h = by_test (same x y)
    (λ e. let at : x ≡ y = same_eq x y e in
    let rest : xs ≡ ys = rising_same xs ys a.1 b.1 (λ n. drop_head n at) in
    ap (λ z. z ∷ xs) at ∙ ap (λ zs. y ∷ zs) rest)
    (λ e. absurd (apart e))
  where
    drop_head : (n : Oid) → x ≡ y → list_any (same n) xs ≡ list_any (same n) ys
    drop_head n at = by_test (same n x)
        (λ e. let k : n ≡ x = same_eq n x e in
        subst (λ m. list_any (same m) xs ≡ list_any (same m) ys) (sym k) (none_below x xs a.0 ∙ sym (none_below x ys (subst (λ z. All (λ m. z.0 < m.0) ys) (sym at) b.0))))
        (λ e. let g : same n y ≡ false = subst (λ z. same n z ≡ false) at e in
        sym (ap (λ t. t || list_any (same n) xs) e) ∙ (h n ∙ ap (λ t. t || list_any (same n) ys) g))

    apart : same x y ≡ false → ⊥
    apart e =
        let in_ys : list_any (same x) ys ≡ true = sym (ap (λ t. t || list_any (same x) ys) e) ∙ (sym (h x) ∙ has_head x xs) in
        let other : same y x ≡ false = flip x.0 y.0 ∙ e in
        let in_xs : list_any (same y) xs ≡ true = sym (ap (λ t. t || list_any (same y) xs) other) ∙ (h y ∙ has_head y ys) in
        let p = any_found (same x) ys in_ys in
        let q = any_found (same y) xs in_xs in
        let yx : y.0 < x.0 = subst (λ m. y.0 < m.0) (sym (same_eq x p.0 (found_passes (same x) ys p.0 p.1))) (found_holds (λ m. y.0 < m.0) (same x) ys p.0 b.0 p.1) in
        let xy : x.0 < y.0 = subst (λ m. x.0 < m.0) (sym (same_eq y q.0 (found_passes (same y) xs q.0 q.1))) (found_holds (λ m. x.0 < m.0) (same y) xs q.0 a.0 q.1) in
        omega (arith, yx, xy)

any_by : {A : Type 0} (p q : A → Bool) → ((a : A) → p a ≡ q a) → (xs : List A) → list_any p xs ≡ list_any q xs
any_by p q e [] = refl
any_by p q e (x ∷ xs) = λ i. e x i || any_by p q e xs i

-- a test of the children of a folder
pub any_entry : (t : Oid → Bool) (f : Oid) (ps : List Filed) → list_any t (map (λ p. p.child) (filter (λ p. same p.folder f) ps)) ≡ list_any (λ p. same p.folder f && t p.child) ps
any_entry t f [] = refl
any_entry t f (p ∷ ps) = by_test (same p.folder f)
    (λ e. rw e (ap (λ b. t p.child || b) (any_entry t f ps)))
    (λ e. rw e (any_entry t f ps))

any_and : {A : Type 0} (p : A → Bool) (b : Bool) (xs : List A) → list_any (λ a. p a && b) xs ≡ (list_any p xs && b)
any_and p b [] = refl
any_and p b (x ∷ xs) = ap (λ c. p x && b || c) (any_and p b xs) ∙ spread (p x) b (list_any p xs)
  where
    spread : (a b c : Bool) → (a && b || c && b) ≡ ((a || c) && b)
    spread a b c = grind arith

any_never : {A : Type 0} (p : A → Bool) (xs : List A) → ((a : A) → p a ≡ false) → list_any p xs ≡ false
any_never p [] h = refl
any_never p (x ∷ xs) h = λ i. h x i || any_never p xs h i

module _ (r : Repository) (w : IsWellFormed r) (f : Oid) where
  -- ---- by their numbers

  pub standing_any : (n : Oid) → list_any (λ c. has_number n.0 (standing_at r c)) (entries_in r f) ≡ list_any (same n) (numbers_in r f)
  standing_any n = any_entry (λ c. has_number n.0 (standing_at r c)) f r.filed
      ∙ (by (object_at r n) refl ∙ sym (any_filter (λ x. is_filed r f (entry_of x) && stands r x) n r.objects w.numbers.0))
    where
      turned : (a b c : Bool) → (a && (b && c)) ≡ ((a && b) && c)
      turned a b c = grind arith

      never : (a : Bool) → a && false ≡ false
      never a = grind arith

      flipped : (x : Object) (p : Filed) → same (entry_of x) p.child ≡ same p.child (entry_of x)
      flipped x p = flip p.child.0 (entry_of x).0

      by : (o : Option Object) → object_at r n ≡ o → list_any (λ p. same p.folder f && has_number n.0 (standing_at r p.child)) r.filed ≡ unwrap_or (option_map (λ x. is_filed r f (entry_of x) && stands r x) o) false
      by None e = any_never (λ (p : Filed). same p.folder f && has_number n.0 (standing_at r p.child)) r.filed (λ p. ap (λ b. same p.folder f && b) (none_stands r w n p.child e) ∙ never (same p.folder f))
      by (Some x) e = any_by (λ (p : Filed). same p.folder f && has_number n.0 (standing_at r p.child)) (λ (p : Filed). (same p.folder f && same p.child (entry_of x)) && stands r x)
          (λ p. ap (λ b. same p.folder f && b) (number_stands r w n x e p.child ∙ ap (λ b. b && stands r x) (flipped x p)) ∙ turned (same p.folder f) (same p.child (entry_of x)) (stands r x)) r.filed
          ∙ any_and (λ (p : Filed). same p.folder f && same p.child (entry_of x)) (stands r x) r.filed

  pub children_are : (all : List Oid) → Rises (λ n. n.0) all → ((n : Oid) → list_any (same n) all ≡ list_any (λ c. has_number n.0 (standing_at r c)) (entries_in r f)) → all ≡ numbers_in r f
  children_are all rises member = rising_same all (numbers_in r f) rises (rises_filter (λ x. is_filed r f (entry_of x) && stands r x) r.objects w.numbers.0) (λ n. member n ∙ standing_any n)

  -- ---- by a name

  module _ (name : List ℕ) where
    abbrev is_named : Filed → Bool
    is_named p = same p.folder f && bytes_eq (entry_name r p.child) name

    -- two children of the folder do not have one name
    clash : (p q : Filed) → Differ r p q → is_named p ≡ true → is_named q ≡ true → ⊥
    clash p q d a b =
        let pa = and_parts (same p.folder f) (bytes_eq (entry_name r p.child) name) a in
        let qb = and_parts (same q.folder f) (bytes_eq (entry_name r q.child) name) b in
        both_ways (bytes_eq (entry_name r p.child) (entry_name r q.child)) (d (same_eq p.folder f pa.0 ∙ sym (same_eq q.folder f qb.0)))
        ((bytes_eq-Decides (entry_name r p.child) (entry_name r q.child)).1 ((bytes_eq-Decides (entry_name r p.child) name).0 pa.1 ∙ sym ((bytes_eq-Decides (entry_name r q.child) name).0 qb.1)))

    -- an entry that is filed there under the name is the child that is found
    found_child : (c : Oid) (ps : List Filed) → Apart (Differ r) ps → list_any (λ p. same p.folder f && same p.child c) ps && bytes_eq (entry_name r c) name ≡ true → option_map (λ p. p.child) (find is_named ps) ≡ Some c
    found_child c [] a h = absurd (both_ways false refl h)
    found_child c (p ∷ ps) a h = by_test (is_named p)
        (λ t. ap (option_map (λ p. p.child)) (find_yes is_named p ps t) ∙ ap Some (head t))
        (λ t. ap (option_map (λ p. p.child)) (find_no is_named p ps t) ∙ found_child c ps a.1 (tail t))
      where
        own : bytes_eq (entry_name r c) name ≡ true
        own = (and_parts (list_any (λ p. same p.folder f && same p.child c) (p ∷ ps)) (bytes_eq (entry_name r c) name) h).1

        among : same p.folder f && same p.child c ≡ false → list_any (λ p. same p.folder f && same p.child c) ps ≡ true
        among e = sym (ap (λ b. b || list_any (λ p. same p.folder f && same p.child c) ps) e) ∙ (and_parts (list_any (λ p. same p.folder f && same p.child c) (p ∷ ps)) (bytes_eq (entry_name r c) name) h).0

        named : (q : Filed) → same q.folder f && same q.child c ≡ true → is_named q ≡ true
        named q e = (λ i. (and_parts (same q.folder f) (same q.child c) e).0 i && bytes_eq (entry_name r (same_eq q.child c (and_parts (same q.folder f) (same q.child c) e).1 i)) name) ∙ own

        head : is_named p ≡ true → p.child ≡ c
        head t = by_test (same p.folder f && same p.child c)
            (λ e. same_eq p.child c (and_parts (same p.folder f) (same p.child c) e).1)
            (λ e. let q = any_found (λ p. same p.folder f && same p.child c) ps (among e) in
            absurd (clash p q.0 (found_holds (Differ r p) (λ p. same p.folder f && same p.child c) ps q.0 a.0 q.1) t (named q.0 (found_passes (λ p. same p.folder f && same p.child c) ps q.0 q.1))))

        tail : is_named p ≡ false → list_any (λ p. same p.folder f && same p.child c) ps && bytes_eq (entry_name r c) name ≡ true
        tail t = by_test (same p.folder f && same p.child c)
            (λ e. absurd (both_ways (is_named p) t (named p e)))
            (λ e. (λ i. among e i && own i))

    -- and the child that is found is filed there under the name
    child_filed : (c : Oid) (ps : List Filed) → option_map (λ p. p.child) (find is_named ps) ≡ Some c → list_any (λ p. same p.folder f && same p.child c) ps && bytes_eq (entry_name r c) name ≡ true
    child_filed c [] h = absurd (none_some c h)
    child_filed c (p ∷ ps) h = by_test (is_named p)
        (λ t. let at : p.child ≡ c = some_eq p.child c (sym (ap (option_map (λ p. p.child)) (find_yes is_named p ps t)) ∙ h) in
        let both = and_parts (same p.folder f) (bytes_eq (entry_name r p.child) name) t in
        (λ i. (both.0 i && same (at i) c || list_any (λ p. same p.folder f && same p.child c) ps) && bytes_eq (entry_name r (sym at i)) name)
        ∙ (λ i. (same_refl c i || list_any (λ p. same p.folder f && same p.child c) ps) && both.1 i))
        (λ t. more (same p.folder f && same p.child c) (list_any (λ p. same p.folder f && same p.child c) ps) (bytes_eq (entry_name r c) name)
        (child_filed c ps (sym (ap (option_map (λ p. p.child)) (find_no is_named p ps t)) ∙ h)))
      where
        more : (a b c : Bool) → b && c ≡ true → (a || b) && c ≡ true
        more a b c h = grind (arith, h)

    abbrev is_child : Option Oid → Oid → Bool
    is_child o c = unwrap_or (option_map (same c) o) false

    child_tells : (c : Oid) → (is_filed r f c && bytes_eq (entry_name r c) name) ≡ is_child (child_in r f name) c
    child_tells c = bool_same r w (is_filed r f c && bytes_eq (entry_name r c) name) (is_child (child_in r f name) c)
        (λ t. ap (λ o. is_child o c) (found_child c r.filed w.names t) ∙ same_refl c)
        (λ t. child_filed c r.filed (some (child_in r f name) t))
      where
        some : (o : Option Oid) → is_child o c ≡ true → o ≡ Some c
        some None h = absurd (both_ways false refl h)
        some (Some d) h = ap Some (sym (same_eq c d h))

    -- found, and then tested: with numbers that are apart, found by both at once
    find_kept : (keep : Object → Bool) (xs : List Object) (n : Oid) → Apart (λ x y. x.id.0 < y.id.0) xs
        → find (λ x. same x.id n && keep x) xs ≡ option_and_then (λ x. if keep x then Some x else None) (find (λ x. same x.id n) xs)
    find_kept keep [] n apart = refl
    find_kept keep (x ∷ xs) n apart = by_test (same x.id n)
        (λ e. by_test (keep x)
        (λ d. rw (e, d) refl)
        (λ d. rw (e, d) (find_none (λ y. same y.id n && keep y) xs
        (All-weaker (λ y. x.id.0 < y.id.0) (λ y. same y.id n && keep y ≡ false)
        (λ y l. rw (differ y.id n (λ k. let m : x.id.0 ≡ y.id.0 = ap (λ i. i.0) (same_eq x.id n e ∙ sym k) in omega (arith, l, m))) refl) xs apart.0))))
        (λ e. rw e (find_kept keep xs n apart.1))

    -- the object that stands for the child of the name
    pub standing_is : (keep : Object → Bool) → find (λ x. (is_filed r f (entry_of x) && stands r x && keep x) && bytes_eq (entry_name r (entry_of x)) name) r.objects
        ≡ option_and_then (λ x. if keep x then Some x else None) (option_and_then (standing_at r) (child_in r f name))
    standing_is keep = find_alike (λ x. (is_filed r f (entry_of x) && stands r x && keep x) && bytes_eq (entry_name r (entry_of x)) name) (λ x. of_child (child_in r f name) x && keep x) r.objects
        (All-weaker (λ x. object_at r x.id ≡ Some x) (λ x. ((is_filed r f (entry_of x) && stands r x && keep x) && bytes_eq (entry_name r (entry_of x)) name) ≡ (of_child (child_in r f name) x && keep x))
        (λ x there. apart (is_filed r f (entry_of x)) (stands r x) (keep x) (bytes_eq (entry_name r (entry_of x)) name)
        ∙ ap (λ b. b && keep x) (ap (λ b. b && stands r x) (child_tells (entry_of x)) ∙ sym (by_child (child_in r f name) x there)))
        r.objects (all_there r.objects w.numbers.0))
        ∙ by (option_and_then (standing_at r) (child_in r f name)) (λ x e. stood (child_in r f name) x e)
      where
        of_child : Option Oid → Object → Bool
        of_child o x = has_number x.id.0 (option_and_then (standing_at r) o)

        apart : (a b k d : Bool) → ((a && b && k) && d) ≡ (((a && d) && b) && k)
        apart a b k d = grind arith

        by_child : (o : Option Oid) (x : Object) → object_at r x.id ≡ Some x → of_child o x ≡ (is_child o (entry_of x) && stands r x)
        by_child None x there = refl
        by_child (Some c) x there = number_stands r w x.id x there c

        stood : (o : Option Oid) (x : Object) → option_and_then (standing_at r) o ≡ Some x → object_at r x.id ≡ Some x
        stood None x e = absurd (none_some x e)
        stood (Some c) x e = (tells r w c x e).0

        by : (o : Option Object) → ((x : Object) → o ≡ Some x → object_at r x.id ≡ Some x) → find (λ x. has_number x.id.0 o && keep x) r.objects ≡ option_and_then (λ x. if keep x then Some x else None) o
        by None there = find_none (λ x. false && keep x) r.objects (All-weaker (λ x. object_at r x.id ≡ Some x) (λ x. false && keep x ≡ false) (λ x h. refl) r.objects (all_there r.objects w.numbers.0))
        by (Some y) there = find_alike (λ x. (y.id.0 == x.id.0) && keep x) (λ x. same x.id y.id && keep x) r.objects
            (All-weaker (λ x. object_at r x.id ≡ Some x) (λ x. ((y.id.0 == x.id.0) && keep x) ≡ (same x.id y.id && keep x)) (λ x h. ap (λ b. b && keep x) (flip x.id.0 y.id.0)) r.objects (all_there r.objects w.numbers.0))
            ∙ (find_kept keep r.objects y.id w.numbers.0 ∙ ap (option_and_then (λ x. if keep x then Some x else None)) (there y refl))
