-- A pair more in the folder tree: its child is new there.
use Rattle.std.specs.Prelude.{◌≡◌, ℕ, suc, ◌-◌, ◌<◌, ◌≤◌, Bool, true, false, not, ◌&&◌, List, [], ◌∷◌, ◌++◌, length, All, count_by, Some, None, nat_le, bytes_eq}
use Rattle.std.proofs.Common.{refl, subst, inl, inr, arith}
use Rattle.std.proofs.lemmas.Bool.{both_ways}
use Rattle.std.proofs.lemmas.List.Elements.{All-push, All-weaker}
use Rattle.cm_base.specs.declared.number.Oid.{Oid}
use Rattle.cm_base.specs.declared.filing.Filed.{Filed}
use Rattle.cm_types.specs.declared.definition.BaseType.TheVariants as bases
use Rattle.cmis_spec.specs.Repository.{Repository, same, root, most_levels, levels_up, object_at, is_a, entry_name, parent_in, upwards, depth_of, is_filed, is_taken}
use Rattle.cmis_spec.specs.Changes.{with_pair}
use Rattle.cmis_spec.specs.Well.{HasWay, HasWays, HasPairs, IsPair, Differ, HasNumbers, HasSeriesNumbers, IsBaseAt, IsEntryAt, IsWellFormed}
use Rattle.cmis_laws.proofs.Lists.{find_last, find_passed_over, apart_push, all_zip, all_from_any, found_holds, same_refl, count_passed_over}
use Rattle.cmis_laws.proofs.Tree.{climbs_kept, parent_more, upwards_length}
use Rattle.cmis_laws.proofs.Entries.{number_found, entry_below, all_there, is_other, IsLeafAt, leaf_other}

-- the way of a folder that is there
pub way_of : (r : Repository) (n : Oid) → HasWays r → IsBaseAt r bases.Folder n → HasWay r.filed n
way_of r n h k = subst (HasWay r.filed) (number_found r n k.0 k.1)
    (found_holds (λ y. is_a r bases.Folder y ≡ true → HasWay r.filed y.id) (λ x. same x.id n) r.objects k.0 h k.1 k.2)

-- what has no number yet is filed nowhere
pub unfiled : (r : Repository) (n : Oid) → HasNumbers r → HasSeriesNumbers r → HasPairs r → n.0 ≡ r.next → All (λ q. same q.child n ≡ false) r.filed
unfiled r n h k ps e = All-weaker (IsPair r) (λ q. same q.child n ≡ false) (λ q l. let b : q.child.0 < r.next = entry_below r q.child h k l.1 in is_other q.child n (omega (arith, b, e))) r.filed ps

pub root_paired : (filed : List Filed) (p : Filed) → parent_in filed root ≡ None → same p.child root ≡ false → parent_in (filed ++ p ∷ []) root ≡ None
root_paired filed p h other = rw (find_passed_over (λ q. same q.child root) filed p other) h

pub ways_paired : (r : Repository) (p : Filed) → HasWays r → All (λ y. is_a r bases.Folder y ≡ true → HasWay (r.filed ++ p ∷ []) y.id) r.objects
ways_paired r p h = All-weaker (λ y. is_a r bases.Folder y ≡ true → HasWay r.filed y.id) (λ y. is_a r bases.Folder y ≡ true → HasWay (r.filed ++ p ∷ []) y.id)
    (λ y f e. let v : HasWay r.filed y.id = f e in (v.0, v.1, climbs_kept v.0 r.filed (r.filed ++ p ∷ []) y.id (parent_more r.filed p) v.2)) r.objects h

-- a child that is new in the tree stands one below its folder
pub way_below : (r : Repository) (p : Filed) → parent_in r.filed root ≡ None → HasWay r.filed p.folder → All (λ q. same q.child p.child ≡ false) r.filed
    → nat_le most_levels (depth_of r p.folder) ≡ false → HasWay (r.filed ++ p ∷ []) p.child
unfolding levels_up most_levels
way_below r p top w new deep =
    let count : length (upwards 49 r.filed p.folder) ≡ suc w.0 = upwards_length w.0 49 r.filed p.folder top w.2 (omega (arith, w.1)) in
    let free : nat_le 48 (suc w.0 - 1) ≡ false = rw count at deep in
    (suc w.0, below w.0 free, (p.folder, rw (find_last (λ q. same q.child p.child) r.filed p new (same_refl p.child)) refl, climbs_kept w.0 r.filed (r.filed ++ p ∷ []) p.folder (parent_more r.filed p) w.2))
  where
    below : (k : ℕ) → nat_le 48 (suc k - 1) ≡ false → suc k ≤ 48
    below k h = grind (arith, h)

-- no other child has the name, and the child itself is not there
pub free_name : (r : Repository) (p : Filed) → is_filed r p.folder p.child ≡ false → is_taken r p.folder p.child (entry_name r p.child) ≡ false → All (λ q. Differ r q p) r.filed
free_name r p unfiled free = all_zip (λ q. same q.folder p.folder && same q.child p.child ≡ false) (λ q. same q.folder p.folder && not (same q.child p.child) && bytes_eq (entry_name r q.child) (entry_name r p.child) ≡ false) (λ q. Differ r q p) r.filed
    (λ q a b e. last (same q.folder p.folder) (same q.child p.child) (bytes_eq (entry_name r q.child) (entry_name r p.child)) (rw e (same_refl p.folder)) a b)
    (all_from_any (λ q. same q.folder p.folder && same q.child p.child) r.filed unfiled)
    (all_from_any (λ q. same q.folder p.folder && not (same q.child p.child) && bytes_eq (entry_name r q.child) (entry_name r p.child)) r.filed free)
  where
    last : (a b c : Bool) → a ≡ true → a && b ≡ false → a && not b && c ≡ false → c ≡ false
    last true true c x y h = absurd (both_ways true y refl)
    last true false c x y h = h
    last false b c x y h = absurd (both_ways false refl x)

-- ---- an item or a series in one folder more

-- what a pair more must be
pub record IsNewPair (r : Repository) (folder child : Oid) : Type 0 where
  pub below : IsBaseAt r bases.Folder folder
  pub leaf : IsLeafAt r child
  pub unfiled : is_filed r folder child ≡ false
  pub free : is_taken r folder child (entry_name r child) ≡ false

leaf_entry : (r : Repository) (n : Oid) → IsLeafAt r n → IsEntryAt r n
leaf_entry r n (inl h) = inr (inl h)
leaf_entry r n (inr h) = inr (inr h)

pub pair_keeps : (r : Repository) (folder child : Oid) → IsWellFormed r → IsNewPair r folder child → IsWellFormed (with_pair r folder child)
pair_keeps r folder child w f =
    let p : Filed = record { folder = folder; child = child } in
    let other : (h : Oid) → IsBaseAt r bases.Folder h → same child h ≡ false = leaf_other r child w.firsts w.documents f.leaf in
    record {
      numbers = w.numbers;
      series_numbers = w.series_numbers;
      firsts = w.firsts;
      renditions = w.renditions;
      root = (w.root.0, root_paired r.filed p w.root.1 (other root w.root.0));
      ways = ways_paired r p w.ways;
      one_parent = all_zip (λ x. object_at r x.id ≡ Some x) (λ x. is_a r bases.Folder x ≡ true → count_by (λ q. same q.child x.id) r.filed ≤ 1) (λ x. is_a r bases.Folder x ≡ true → count_by (λ q. same q.child x.id) (r.filed ++ p ∷ []) ≤ 1) r.objects
          (λ x there g e. rw (count_passed_over (λ q. same q.child x.id) r.filed p (other x.id (x, there, e))) (g e)) (all_there r.objects w.numbers.0) w.one_parent;
      pairs = All-push (IsPair r) r.filed p w.pairs (f.below, leaf_entry r child f.leaf);
      names = apart_push (Differ r) r.filed p w.names (free_name r p f.unfiled f.free);
      documents = w.documents;
      series = w.series;
      plain = w.plain;
      own_names = w.own_names;
      relationships = w.relationships;
      policies = w.policies;
      access = w.access;
      listed = w.listed;
      contents = w.contents;
      sizes = w.sizes;
      typed = w.typed;
      types = w.types;
      defs = w.defs;
      kept = w.kept;
      own_values = w.own_values;
      groups = w.groups;
      bounds = w.bounds;
      tokens = w.tokens;
      labels = w.labels;
    }
