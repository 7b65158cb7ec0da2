-- The groups of a list are groups of its users, in byte order of their names.
use Rattle.std.specs.Prelude.{◌≡◌, ℕ, ◌<◌, Bool, true, false, ◌&&◌, ◌||◌, not, if◌then◌else◌, List, [], ◌∷◌, length, map, fold, All, nat_le, bytes_eq, Option, Some, None}
use Rattle.std.specs.List.{list_all, list_any, after_first}
use Rattle.core.specs.declared.cmp.Ordering.{Ordering}
use Rattle.core.specs.declared.cmp.Ordering.TheVariants.{Less, Equal, Greater}
use Rattle.core.specs.Ordering.{nat_cmp, is_lt, ordering_reverse}
use Rattle.core.specs.Cmp.Lexicographic.{slice_cmp, nat_list_cmp_total}
use Rattle.std.specs.Cmp.Lexicographic.{bytes_decides, nat_list_eq_equiv}
use Rattle.std.proofs.Common.{refl, sym, ap, subst, ◌∙◌, arith}
use Rattle.std.proofs.lemmas.Bool.{both_ways}
use Rattle.std.proofs.lemmas.Map.Lookups.{exact_bytes}
use Rattle.std.proofs.lemmas.List.Elements.{All-nil, All-cons, All-head, All-tail, All-weaker}
use Rattle.std.proofs.lemmas.List.Splits.{length-slice_split}
use Rattle.cm_base.specs.declared.user.User.{User}
use Rattle.cm_base.specs.declared.user.Group.{Group}
use Rattle.cm_base.specs.UserLists.{is_colon, is_user_name, is_user_byte, has_user_length, is_reserved_name, is_secret, pieces, name_part, secret_part, user_of, users_of, is_user_list, all_differ, is_user as is_user_piece}
use Rattle.cmis_spec.specs.Well.{Apart, is_user, IsGroup, HasGroups}
use Rattle.cmis_words.specs.GroupLists.{is_plus, members_part, group_of, is_group, put_group, by_name, is_group_list, groups_of}
use Rattle.cmis_words.specs.Programs.{groups_by}

-- ---- tests

by_test : {G : Type 0} (b : Bool) → (b ≡ true → G) → (b ≡ false → G) → G
by_test {G} b f g = elim b as (λ c. b ≡ c → G) [ true ↦ f | false ↦ g ] refl

both : (a b : Bool) → a && b ≡ true → (a ≡ true) × (b ≡ true)
both true b h = (refl, h)
both false b h = absurd (both_ways false refl h)

join : (a b : Bool) → a ≡ true → b ≡ true → a && b ≡ true
join true b h k = k
join false b h k = absurd (both_ways false refl h)

negated : (b : Bool) → not b ≡ true → b ≡ false
negated true h = absurd (both_ways false refl h)
negated false h = refl

neither : (a b : Bool) → a || b ≡ false → (a ≡ false) × (b ≡ false)
neither true b h = absurd (both_ways true h refl)
neither false b h = (refl, h)

if_some : {A : Type 0} (b : Bool) (x y : A) → if b then Some x else None ≡ Some y → (b ≡ true) × (x ≡ y)
if_some true x y h = (refl, ap (λ o. elim o [ None ↦ x | Some z ↦ z ]) h)
if_some false x y h = absurd (both_ways false refl (ap (λ o. elim o [ None ↦ false | Some z ↦ true ]) h))

all_pass : {A : Type 0} (p : A → Bool) (xs : List A) → list_all p xs ≡ true → All (λ x. p x ≡ true) xs
all_pass p [] h = All-nil (λ x. p x ≡ true)
all_pass p (x ∷ xs) h = All-cons (λ x. p x ≡ true) x xs (both (p x) (list_all p xs) h).0 (all_pass p xs (both (p x) (list_all p xs) h).1)

all_zip : {A : Type 0} (P Q R : A → Type 0) (xs : List A) → ((x : A) → P x → Q x → R x) → All P xs → All Q xs → All R xs
all_zip P Q R [] f ps qs = All-nil R
all_zip P Q R (x ∷ xs) f ps qs = All-cons R x xs (f x (All-head P x xs ps) (All-head Q x xs qs)) (all_zip P Q R xs f (All-tail P x xs ps) (All-tail Q x xs qs))

-- ---- users

-- each of these names is formed like a user's
abbrev pub AreFormed : List (List ℕ) → Type 0
AreFormed names = All (λ n. is_user_name n ≡ true) names

formed : (ps : List (List ℕ)) → list_all is_user_piece ps ≡ true → AreFormed (map (λ (u : User). u.name) (map user_of ps))
formed [] h = All-nil (λ n. is_user_name n ≡ true)
formed (p ∷ ps) h =
    let each : (is_user_piece p ≡ true) × (list_all is_user_piece ps ≡ true) = both (is_user_piece p) (list_all is_user_piece ps) h in
    All-cons (λ n. is_user_name n ≡ true) (name_part p) (map (λ (u : User). u.name) (map user_of ps))
    (both (list_any is_colon p) (is_user_name (name_part p)) (both (list_any is_colon p && is_user_name (name_part p)) (is_secret (secret_part p)) each.0).0).1
    (formed ps each.1)

pub users_formed : (list : List ℕ) (users : List User) → users_of list ≡ Some users → AreFormed (map (λ u. u.name) users)
users_formed list users h =
    let s : (is_user_list list ≡ true) × (map user_of (pieces list) ≡ users) = if_some (is_user_list list) (map user_of (pieces list)) users h in
    let counted : Bool = nat_le (length (pieces list)) 1000 in
    let each : list_all is_user_piece (pieces list) ≡ true = (both counted (list_all is_user_piece (pieces list)) (both (counted && list_all is_user_piece (pieces list)) (all_differ (map name_part (pieces list))) s.0).0).1 in
    subst (λ (us : List User). AreFormed (map (λ u. u.name) us)) s.1 (formed (pieces list) each)

user_formed : (users : List (List ℕ)) (m : List ℕ) → AreFormed users → is_user users m ≡ true → is_user_name m ≡ true
user_formed [] m all h = absurd (both_ways false refl h)
user_formed (u ∷ us) m all h = by_test (bytes_eq m u)
    (λ e. subst (λ n. is_user_name n ≡ true) (sym ((bytes_decides m u).0 e)) (All-head (λ n. is_user_name n ≡ true) u us all))
    (λ e. user_formed us m (All-tail (λ n. is_user_name n ≡ true) u us all) (rw e at h))

-- ---- one group

some_of : (xs : List (List ℕ)) → 0 < length xs → list_any (λ m. true) xs ≡ true
some_of [] h = absurd (omega arith)
some_of (x ∷ xs) h = refl

group_well : (users : List (List ℕ)) → AreFormed users → (piece : List ℕ) → is_group users piece ≡ true → IsGroup users (group_of piece)
group_well users all piece h =
    let ms : List (List ℕ) = members_part piece in
    let named : Bool = is_user_name (name_part piece) && not (is_user users (name_part piece)) in
    let d : (((list_any is_colon piece && named) && list_all (is_user users) ms) ≡ true) × (all_differ ms ≡ true) = both ((list_any is_colon piece && named) && list_all (is_user users) ms) (all_differ ms) h in
    let m : ((list_any is_colon piece && named) ≡ true) × (list_all (is_user users) ms ≡ true) = both (list_any is_colon piece && named) (list_all (is_user users) ms) d.0 in (
      (both (list_any is_colon piece) named m.0).1,
      All-weaker (λ n. is_user users n ≡ true) (λ n. not (is_reserved_name n) && is_user users n ≡ true)
          (λ n e. join (not (is_reserved_name n)) (is_user users n) (both (has_user_length n && list_all is_user_byte n) (not (is_reserved_name n)) (user_formed users n all e)).1 e)
          ms (all_pass (is_user users) ms m.1),
      d.1,
      some_of ms (let n = length-slice_split is_plus (after_first is_colon piece) in omega (arith, n)),
    )

groups_well_each : (users : List (List ℕ)) → AreFormed users → (ps : List (List ℕ)) → list_all (is_group users) ps ≡ true → All (IsGroup users) (map group_of ps)
groups_well_each users all [] h = All-nil (IsGroup users)
groups_well_each users all (p ∷ ps) h =
    let each : (is_group users p ≡ true) × (list_all (is_group users) ps ≡ true) = both (is_group users p) (list_all (is_group users) ps) h in
    All-cons (IsGroup users) (group_of p) (map group_of ps) (group_well users all p each.0) (groups_well_each users all ps each.1)

-- ---- in order

abbrev Before : Group → Group → Type 0
Before g h = slice_cmp nat_cmp g.name h.name ≡ Less

abbrev Differs : Group → Group → Type 0
Differs g h = bytes_eq g.name h.name ≡ false

put_all : (P : Group → Type 0) (hs : List Group) (g : Group) → All P hs → P g → All P (put_group hs g)
put_all P [] g all p = All-cons P g [] p all
put_all P (h ∷ hs) g all p = by_test (is_lt (slice_cmp nat_cmp g.name h.name))
    (λ e. rw e (All-cons P g (h ∷ hs) p all))
    (λ e. rw e (All-cons P h (put_group hs g) (All-head P h hs all) (put_all P hs g (All-tail P h hs all) p)))

put_apart : (hs : List Group) (g : Group) → Apart Before hs → All (Differs g) hs → Apart Before (put_group hs g)
put_apart [] g ap' all = (All-nil (Before g), tt)
put_apart (h ∷ hs) g ap' all = by_order (slice_cmp nat_cmp g.name h.name) refl (put_apart hs g ap'.1 (All-tail (Differs g) h hs all))
  where
    by_order : (r : Ordering) → slice_cmp nat_cmp g.name h.name ≡ r → Apart Before (put_group hs g) → Apart Before (put_group (h ∷ hs) g)
    by_order Less e rest = rw e
        (All-cons (Before g) h hs e (All-weaker (Before h) (Before g) (λ x b. nat_list_cmp_total.trans g.name h.name x.name e b) hs ap'.0), ap')
    by_order Equal e rest =
        absurd (both_ways (bytes_eq g.name h.name) (All-head (Differs g) h hs all) ((bytes_decides g.name h.name).1 (exact_bytes g.name h.name e)))
    by_order Greater e rest =
        let first : Before h g = nat_list_cmp_total.antisymm h.name g.name ∙ ap ordering_reverse e in
        rw e (put_all (Before h) hs g ap'.0 first, rest)

sorted_all : (P : Group → Type 0) (hs gs : List Group) → All P hs → All P gs → All P (fold put_group hs gs)
sorted_all P hs [] a b = a
sorted_all P hs (g ∷ gs) a b = sorted_all P (put_group hs g) gs (put_all P hs g a (All-head P g gs b)) (All-tail P g gs b)

turned : (g h : Group) → Differs g h → Differs h g
turned g h e = sym (nat_list_eq_equiv.symm g.name h.name) ∙ e

sorted_apart : (hs gs : List Group) → Apart Before hs → All (λ g. All (Differs g) hs) gs → Apart Differs gs → Apart Before (fold put_group hs gs)
sorted_apart hs [] ap' all d = ap'
sorted_apart hs (g ∷ gs) ap' all d =
    sorted_apart (put_group hs g) gs (put_apart hs g ap' (All-head (λ g. All (Differs g) hs) g gs all))
    (all_zip (λ x. All (Differs x) hs) (Differs g) (λ x. All (Differs x) (put_group hs g)) gs (λ x a b. put_all (Differs x) hs g a (turned g x b)) (All-tail (λ g. All (Differs g) hs) g gs all) d.0)
    d.1

apart_from : (x : List ℕ) (ps : List (List ℕ)) → list_any (bytes_eq x) (map name_part ps) ≡ false → All (λ g. bytes_eq x g.name ≡ false) (map group_of ps)
apart_from x [] h = All-nil (λ g. bytes_eq x g.name ≡ false)
apart_from x (p ∷ ps) h =
    let n : (bytes_eq x (name_part p) ≡ false) × (list_any (bytes_eq x) (map name_part ps) ≡ false) = neither (bytes_eq x (name_part p)) (list_any (bytes_eq x) (map name_part ps)) h in
    All-cons (λ g. bytes_eq x g.name ≡ false) (group_of p) (map group_of ps) n.0 (apart_from x ps n.1)

differ_apart : (ps : List (List ℕ)) → all_differ (map name_part ps) ≡ true → Apart Differs (map group_of ps)
differ_apart [] h = tt
differ_apart (p ∷ ps) h =
    let d : (not (list_any (bytes_eq (name_part p)) (map name_part ps)) ≡ true) × (all_differ (map name_part ps) ≡ true) = both (not (list_any (bytes_eq (name_part p)) (map name_part ps))) (all_differ (map name_part ps)) h in
    (apart_from (name_part p) ps (negated (list_any (bytes_eq (name_part p)) (map name_part ps)) d.0), differ_apart ps d.1)

all_of_none : (gs : List Group) → All (λ g. All (Differs g) []) gs
all_of_none [] = All-nil (λ g. All (Differs g) [])
all_of_none (g ∷ gs) = All-cons (λ g. All (Differs g) []) g gs (All-nil (Differs g)) (all_of_none gs)

groups_well : (users : List (List ℕ)) → AreFormed users → (list : List ℕ) (groups : List Group) → groups_of users list ≡ Some groups → HasGroups users groups
groups_well users all list groups h =
    let s : (is_group_list users list ≡ true) × (by_name (map group_of (pieces list)) ≡ groups) = if_some (is_group_list users list) (by_name (map group_of (pieces list))) groups h in
    let counted : Bool = nat_le (length (pieces list)) 100 in
    let e : ((counted && all_differ (map name_part (pieces list))) ≡ true) × (list_all (is_group users) (pieces list) ≡ true) = both (counted && all_differ (map name_part (pieces list))) (list_all (is_group users) (pieces list)) s.0 in
    let d : all_differ (map name_part (pieces list)) ≡ true = (both counted (all_differ (map name_part (pieces list))) e.0).1 in
    let gs : List Group = map group_of (pieces list) in
    subst (HasGroups users) s.1
    (sorted_apart [] gs tt (all_of_none gs) (differ_apart (pieces list) d), sorted_all (IsGroup users) [] gs (All-nil (IsGroup users)) (groups_well_each users all (pieces list) e.1))

-- with the option or without it
pub given_well : (users : List (List ℕ)) → AreFormed users → (option : Option (List ℕ)) (groups : List Group) → groups_by users option ≡ Some groups → HasGroups users groups
given_well users all (Some list) groups h = groups_well users all list groups h
given_well users all None groups h =
    let none : [] ≡ groups = ap (λ o. elim o [ None ↦ [] | Some gs ↦ gs ]) h in
    subst (HasGroups users) none (tt, All-nil (IsGroup users))
