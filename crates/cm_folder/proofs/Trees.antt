-- A move keeps the tree of folders.
use Rattle.std.specs.Prelude.{◌≡◌, suc, ◌+◌, ◌-◌, ◌≤◌, Bool, true, false, not, ◌&&◌, ◌||◌, if◌then◌else◌, List, [], ◌∷◌, map, find, length, All, count_by, Some, is_some, nat_lt, Result, Ok, Err, IfOk}
use Rattle.std.specs.List.{list_any}
use Rattle.std.proofs.Common.{refl, sym, ap, subst, ◌∙◌, inl, inr, ⊎_elim, arith}
use Rattle.std.proofs.lemmas.Bool.{both_ways, ltb-false}
use Rattle.std.proofs.lemmas.List.Elements.{All-head, All-tail, All-map, All-weaker}
use mathlib.Core.List.{map-append}
use Rattle.cm_base.specs.declared.number.Oid.{Oid}
use Rattle.cm_base.specs.declared.fail.Fail.{Fail}
use Rattle.cm_base.specs.declared.cause.Cause.TheVariants as causes
use Rattle.cm_base.specs.Judged.{Leaves, refuse, ◌>>◌}
use Rattle.cmis_spec.specs.Repository.{same, root, most_levels, levels_up, parent_in, upwards}
use Rattle.cmis_spec.specs.Well.{Climbs, HasWay}
use Rattle.cmis_spec.specs.Changes.{refiled}
use Rattle.cmis_laws.proofs.Lists.{by_test, found_holds, same_eq, same_refl, differ, all_zip, all_from_any}
use Rattle.cmis_laws.proofs.Passed.{refuse_ok, not_false}
use Rattle.cmis_laws.proofs.Tree.{climbs_beside, climbs_through, upwards_length}
use Rattle.cmis_laws.proofs.Moved.{parent_other, parent_moved, climbs_along, map_some, count_moved}
use Rattle.cm_folder.specs.declared.entry.FilingEntry.{FilingEntry}
use Rattle.cm_folder.specs.Filings.{pair_of, pairs_of, is_entry, is_filed_in, is_name_taken, name_under, folder_of, is_under_in, is_too_deep, in_folder, refusal_place, refusal_shift, shifted}
use Rattle.cm_folder.proofs.Edits.{stays}
use Rattle.cm_folder.specs.Trees.{is_folder_in, IsFolderAt, IsTree}

-- ---- tests

and_left : (a b : Bool) → a && b ≡ true → a ≡ true
and_left true b h = refl
and_left false b h = h

and_right : (a b : Bool) → a && b ≡ true → b ≡ true
and_right true b h = h
and_right false b h = absurd (both_ways false refl h)

and_rest : (a b : Bool) → a ≡ true → a && b ≡ false → b ≡ false
and_rest a b x h = rw x at h

-- ---- folders

-- what holds of each folder holds of one
of_folder : (Q : Oid → Type 0) (es : List FilingEntry) (f : Oid) → All (λ e. e.is_folder ≡ true → Q e.child) es → is_folder_in es f ≡ true → Q f
of_folder Q [] f all h = absurd (both_ways false refl h)
of_folder Q (e ∷ es) f all h = by_test (e.is_folder && same e.child f)
    (λ t. subst Q (same_eq e.child f (and_right e.is_folder (same e.child f) t)) (All-head (λ e. e.is_folder ≡ true → Q e.child) e es all (and_left e.is_folder (same e.child f) t)))
    (λ t. of_folder Q es f (All-tail (λ e. e.is_folder ≡ true → Q e.child) e es all) (rw t at h))

way_at : (es : List FilingEntry) (f : Oid) → IsTree es → IsFolderAt es f → HasWay (pairs_of es) f
unfolding most_levels
way_at es f w (inl e) = (0, omega arith, e)
way_at es f w (inr e) = of_folder (HasWay (pairs_of es)) es f w.ways e

-- above a child stands the root or a folder
parent_at : (es : List FilingEntry) (h g : Oid) → IsTree es → parent_in (pairs_of es) h ≡ Some g → IsFolderAt es g
parent_at es h g w e =
    let a = map_some (λ p. p.folder) (find (λ p. same p.child h) (pairs_of es)) g e in
    subst (IsFolderAt es) a.2 (found_holds (λ p. IsFolderAt es p.folder) (λ p. same p.child h) (pairs_of es) a.0 (All-map (λ p. IsFolderAt es p.folder) pair_of es w.parents) a.1)

-- what is no folder, and not the root
beside_folders : (es : List FilingEntry) (c : Oid) → same c root ≡ false → is_folder_in es c ≡ false → (h : Oid) → IsFolderAt es h → same c h ≡ false
beside_folders es c top flat h (inl e) = subst (λ g. same c g ≡ false) (sym e) top
beside_folders es c top flat h (inr e) = differ c h (λ k. both_ways (is_folder_in es c) flat (subst (λ g. is_folder_in es g ≡ true) (sym k) e))

-- what is filed is not the root
filed_found : (es : List FilingEntry) (s c : Oid) → is_filed_in es s c ≡ true → is_some (folder_of es c) ≡ true
filed_found [] s c h = h
filed_found (e ∷ es) s c h = by_test (same e.child c)
    (λ t. rw t refl)
    (λ t. rw t (filed_found es s c (rest (same e.folder s) (same e.child c) (list_any (is_entry s c) es) t h)))
  where
    rest : (a b r : Bool) → b ≡ false → a && b || r ≡ true → r ≡ true
    rest true true r x h = absurd (both_ways true x refl)
    rest true false r x h = h
    rest false b r x h = h

filed_no_root : (es : List FilingEntry) (s c : Oid) → IsTree es → is_filed_in es s c ≡ true → same c root ≡ false
filed_no_root es s c w h = differ c root (λ e. both_ways false refl (sym (ap is_some (ap (folder_of es) e ∙ w.root)) ∙ filed_found es s c h))

-- ---- a child more

abbrev moved_entry : Oid → Oid → Oid → FilingEntry → FilingEntry
moved_entry c s t e = if is_entry s c e then in_folder t e else e

shift_pairs : (es : List FilingEntry) (c s t : Oid) → pairs_of (shifted es c s t) ≡ map (refiled c s t) (pairs_of es)
shift_pairs [] c s t = refl
shift_pairs (e ∷ es) c s t = by_test (same e.folder s)
    (λ a. by_test (same e.child c)
    (λ b. rw (a, b) (λ i. record { folder = t; child = same_eq e.child c b i } ∷ shift_pairs es c s t i))
    (λ b. rw (a, b) (ap (λ l. pair_of e ∷ l) (shift_pairs es c s t))))
    (λ a. rw a (ap (λ l. pair_of e ∷ l) (shift_pairs es c s t)))

shift_folders : (es : List FilingEntry) (c s t f : Oid) → is_folder_in (shifted es c s t) f ≡ is_folder_in es f
shift_folders [] c s t f = refl
shift_folders (e ∷ es) c s t f = by_test (is_entry s c e)
    (λ a. rw a (ap (λ b. e.is_folder && same e.child f || b) (shift_folders es c s t f)))
    (λ a. rw a (ap (λ b. e.is_folder && same e.child f || b) (shift_folders es c s t f)))

-- a fact of an entry that does not read its folder
shift_all : (Q : Oid → Bool → Type 0) (es : List FilingEntry) (c s t : Oid) → All (λ e. Q e.child e.is_folder) es → All (λ e. Q e.child e.is_folder) (shifted es c s t)
shift_all Q es c s t all = All-map (λ e. Q e.child e.is_folder) (moved_entry c s t) es
    (All-weaker (λ e. Q e.child e.is_folder) (λ e. Q (moved_entry c s t e).child (moved_entry c s t e).is_folder) (λ e h. by_test (is_entry s c e) (λ a. rw a h) (λ a. rw a h)) es all)

-- what is moved is no folder: no way passes it
ways_beside : (es : List FilingEntry) (c s t : Oid) → IsTree es → same c root ≡ false → is_folder_in es c ≡ false
    → All (λ e. e.is_folder ≡ true → HasWay (map (refiled c s t) (pairs_of es)) e.child) es
ways_beside es c s t w top flat =
    let xs = pairs_of es in
    let ys = map (refiled c s t) (pairs_of es) in
    let flagged : All (λ e. e.is_folder && same e.child c ≡ false) es = all_from_any (λ e. e.is_folder && same e.child c) es flat in
    all_zip (λ e. e.is_folder && same e.child c ≡ false) (λ e. e.is_folder ≡ true → HasWay xs e.child) (λ e. e.is_folder ≡ true → HasWay ys e.child) es
    (λ e o h k.
    let v : HasWay xs e.child = h k in
    let apart : same c e.child ≡ false = differ c e.child (λ at. both_ways (same e.child c) (and_rest e.is_folder (same e.child c) k o) (subst (λ g. same g c ≡ true) at (same_refl c))) in (
      v.0,
      v.1,
      climbs_along (λ h. same c h ≡ false) v.0 xs ys e.child (λ h g q p. (beside_folders es c top flat g (parent_at es h g w p), parent_other c s t h xs q ∙ p)) apart v.2,
    )) flagged w.ways

-- a folder is moved: the ways that pass it go by its new parent
ways_moved : (es : List FilingEntry) (c s t : Oid) → IsTree es → is_folder_in es c ≡ true → IsFolderAt es t → is_filed_in es s c ≡ true → is_under_in es t c ≡ false
    → list_any (is_too_deep es c t) es ≡ false → All (λ e. e.is_folder ≡ true → HasWay (map (refiled c s t) (pairs_of es)) e.child) es
unfolding levels_up most_levels
ways_moved es c s t w fc ft filed beside deep =
    let xs = pairs_of es in
    let ys = map (refiled c s t) (pairs_of es) in
    let wc : HasWay xs c = way_at es c w (inr fc) in
    let wt : HasWay xs t = way_at es t w ft in
    let one : count_by (λ p. same p.child c) xs ≤ 1 = of_folder (λ n. count_by (λ p. same p.child n) xs ≤ 1) es c w.one fc in
    let keep : (h g : Oid) → same c h ≡ false → parent_in xs h ≡ Some g → parent_in ys h ≡ Some g = λ h g o e. parent_other c s t h xs o ∙ e in
    let tc : Climbs (suc wt.0) ys c = (t, parent_moved c s t xs one (filed_pair es s c filed), climbs_beside wt.0 49 xs ys c t keep wt.2 (omega (arith, wt.1)) beside) in
    let lc : length (upwards 49 xs c) ≡ suc wc.0 = upwards_length wc.0 49 xs c w.root wc.2 (omega (arith, wc.1)) in
    let lt : length (upwards 49 xs t) ≡ suc wt.0 = upwards_length wt.0 49 xs t w.root wt.2 (omega (arith, wt.1)) in
    all_zip (λ e. e.is_folder ≡ true → HasWay xs e.child) (λ e. is_too_deep es c t e ≡ false) (λ e. e.is_folder ≡ true → HasWay ys e.child) es
    (λ e f near_enough k.
    let v : HasWay xs e.child = f k in
    let le : length (upwards 49 xs e.child) ≡ suc v.0 = upwards_length v.0 49 xs e.child w.root v.2 (omega (arith, v.1)) in
    by_test (list_any (same c) (upwards 49 xs e.child))
    (λ u.
    let d : (wc.0 ≤ v.0) × Climbs (suc wt.0 + (v.0 - wc.0)) ys e.child = climbs_through v.0 49 wc.0 (suc wt.0) xs ys c e.child w.root keep wc.2 tc v.2 (omega (arith, v.1)) u in
    let far : nat_lt 48 (length (upwards 49 xs t) - 1 + 1 + (length (upwards 49 xs e.child) - 1 - (length (upwards 49 xs c) - 1))) ≡ false = third e.is_folder (is_under_in es e.child c) _ k u near_enough in
    let near : length (upwards 49 xs t) - 1 + 1 + (length (upwards 49 xs e.child) - 1 - (length (upwards 49 xs c) - 1)) ≤ 48 = ltb-false 48 _ far in
    (suc wt.0 + (v.0 - wc.0), omega (arith, near, le, lc, lt, d.0), d.1))
    (λ u. (v.0, v.1, climbs_beside v.0 49 xs ys c e.child keep v.2 (omega (arith, v.1)) u)))
    w.ways (all_from_any (is_too_deep es c t) es deep)
  where
    third : (a b c : Bool) → a ≡ true → b ≡ true → a && b && c ≡ false → c ≡ false
    third a b c x y h = rw y at (rw x at h)

    filed_pair : (es : List FilingEntry) (s c : Oid) → is_filed_in es s c ≡ true → list_any (λ p. same p.folder s && same p.child c) (pairs_of es) ≡ true
    filed_pair [] s c h = h
    filed_pair (e ∷ es) s c h = by_test (is_entry s c e) (λ a. rw a refl) (λ a. rw a (filed_pair es s c (rw a at h)))

pub shift_keeps : (es : List FilingEntry) (c s t : Oid) → IsTree es → IsFolderAt es t → is_filed_in es s c ≡ true → is_under_in es t c ≡ false → list_any (is_too_deep es c t) es ≡ false
    → IsTree (shifted es c s t)
shift_keeps es c s t w ft filed beside deep =
    let xs = pairs_of es in
    let ys = map (refiled c s t) (pairs_of es) in
    let pairs : pairs_of (shifted es c s t) ≡ ys = shift_pairs es c s t in
    let top : same c root ≡ false = filed_no_root es s c w filed in
    let folder : (f : Oid) → IsFolderAt es f → IsFolderAt (shifted es c s t) f = λ f h. ⊎_elim (λ e. inl e) (λ e. inr (shift_folders es c s t f ∙ e)) h in
    let ways : All (λ e. e.is_folder ≡ true → HasWay ys e.child) es = by_test (is_folder_in es c)
    (λ f. ways_moved es c s t w f ft filed beside deep)
    (λ f. ways_beside es c s t w top f) in
    record {
      root = ap (λ l. parent_in l root) pairs ∙ (parent_other c s t root xs top ∙ w.root);
      parents = All-map (λ e. IsFolderAt (shifted es c s t) e.folder) (moved_entry c s t) es
          (All-weaker (λ e. IsFolderAt es e.folder) (λ e. IsFolderAt (shifted es c s t) (moved_entry c s t e).folder)
          (λ e h. by_test (is_entry s c e) (λ a. rw a (folder t ft)) (λ a. rw a (folder e.folder h))) es w.parents);
      one = subst (λ l. All (λ e. e.is_folder ≡ true → count_by (λ p. same p.child e.child) l ≤ 1) (shifted es c s t)) (sym pairs)
          (shift_all (λ n b. b ≡ true → count_by (λ p. same p.child n) ys ≤ 1) es c s t
          (All-weaker (λ e. e.is_folder ≡ true → count_by (λ p. same p.child e.child) xs ≤ 1) (λ e. e.is_folder ≡ true → count_by (λ p. same p.child e.child) ys ≤ 1) (λ e h k. rw (count_moved c s t e.child xs) (h k)) es w.one));
      ways = subst (λ l. All (λ e. e.is_folder ≡ true → HasWay l e.child) (shifted es c s t)) (sym pairs) (shift_all (λ n b. b ≡ true → HasWay ys n) es c s t ways);
    }

-- ---- a child less

pub shift_tree : (result : Result (List FilingEntry) Fail) (es : List FilingEntry) (c s t : Oid) → Leaves result (refusal_shift es c s t) (shifted es c s t) → IsTree es → IsFolderAt es t → IfOk result IsTree
shift_tree (Err x) es c s t h w ft = tt
shift_tree (Ok made) es c s t h w ft =
    let first = refuse_ok causes.NotFiled (not (is_filed_in es s c)) (if same s t then Ok tt else refusal_place es c s t) h.0 in
    let filed : is_filed_in es s c ≡ true = not_false (is_filed_in es s c) first.0 in
    subst IsTree (sym h.1) (by_test (same s t)
    (λ e. subst IsTree (sym (stays c s t es e)) w)
    (λ e.
    let place : refusal_place es c s t ≡ Ok tt = rw e at first.1 in
    let already = refuse_ok causes.AlreadyFiled (is_filed_in es t c) (refuse causes.Below (is_under_in es t c) >> refuse causes.Deep (list_any (is_too_deep es c t) es) >> refuse causes.NameTaken (is_name_taken es t c (name_under es s c))) place in
    let below = refuse_ok causes.Below (is_under_in es t c) (refuse causes.Deep (list_any (is_too_deep es c t) es) >> refuse causes.NameTaken (is_name_taken es t c (name_under es s c))) already.1 in
    let deep = refuse_ok causes.Deep (list_any (is_too_deep es c t) es) (refuse causes.NameTaken (is_name_taken es t c (name_under es s c))) below.1 in
    shift_keeps es c s t w ft filed below.0 deep.0))
