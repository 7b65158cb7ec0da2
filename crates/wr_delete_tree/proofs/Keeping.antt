-- What is deleted with a tree, or taken out of it, leaves what is well formed.
use Rattle.std.specs.Prelude.{◌≡◌, ℕ, Bool, true, false, ◌||◌, if◌then◌else◌, List, [], ◌∷◌, filter, fold, find, All, Option, Some, None, is_none, option_map, unwrap_or}
use Rattle.std.specs.List.{list_all}
use Rattle.std.proofs.Common.{refl, sym, ap, subst, ◌∙◌, inl, inr}
use Rattle.std.proofs.lemmas.Bool.{both_ways}
use Rattle.std.proofs.lemmas.List.Elements.{All-weaker}
use Rattle.cm_base.specs.declared.number.Oid.{Oid}
use Rattle.cm_base.specs.declared.number.Moment.{Moment}
use Rattle.cm_base.specs.declared.object.Object.{Object}
use Rattle.cm_base.specs.declared.series.Series.{Series}
use Rattle.cm_base.specs.declared.filing.Filed.{Filed}
use Rattle.cm_base.specs.declared.access.Level.TheVariants as levels
use Rattle.cm_base.specs.declared.log.ChangeKind.TheVariants as changes
use Rattle.cm_types.specs.declared.definition.BaseType.TheVariants as bases
use Rattle.cm_state.specs.Looks.{folders_in}
use Rattle.cmis_spec.specs.Repository.{Repository, same, root, object_at, series_at, is_a, parent_in}
use Rattle.cmis_spec.specs.Changes.{without_pair}
use Rattle.cmis_spec.specs.Removal.{among, deleted}
use Rattle.cmis_spec.specs.Well.{IsBaseAt, IsEntryAt, IsThere, IsPair, members, IsWellFormed}
use Rattle.cmis_laws.proofs.Lists.{none_some, found_holds, found_passes, all_from_any, same_eq, differ}
use Rattle.cmis_laws.proofs.Entries.{not_both, one_there, IsLeafAt}
use Rattle.cmis_laws.proofs.Going.{IsFree, deleted_keeps}
use Rattle.cmis_laws.proofs.Steps.{note_keeps}
use Rattle.wr_filing.specs.Filing.{lacks_at, out_of}
use Rattle.wr_filing.proofs.Entry.{out_keeps}
use Rattle.wr_remove.specs.Delete.{is_filled_at}
use Rattle.wr_remove.proofs.Free.{one_free, series_free}
use Rattle.delete_tree_parts.specs.declared.writes.DeleteTree.{DeleteTree}
use Rattle.wr_delete_tree.specs.DeleteTree.{is_folder_at, is_checked_out_at, is_kept_at, is_to_go, is_deleted_by, may_not_go, fails, whole, event_object, taken_out}

-- ---- what is filed

entry_by : (r : Repository) (n : Oid) (o : Option Filed) → IsWellFormed r → find (λ p. same p.child n) r.filed ≡ o → is_none (option_map (λ p. p.folder) o) ≡ false → IsEntryAt r n
entry_by r n None w e h = absurd (both_ways true h refl)
entry_by r n (Some p) w e h = subst (IsEntryAt r) (same_eq p.child n (found_passes (λ p. same p.child n) r.filed p e)) (found_holds (IsPair r) (λ p. same p.child n) r.filed p w.pairs e).1

-- what is filed is a folder, an item or a series
entry_of : (r : Repository) (n : Oid) → IsWellFormed r → is_none (parent_in r.filed n) ≡ false → IsEntryAt r n
entry_of r n w h = entry_by r n (find (λ p. same p.child n) r.filed) w refl h

-- and not the root
no_root : (r : Repository) (n : Oid) → IsWellFormed r → is_none (parent_in r.filed n) ≡ false → same root n ≡ false
no_root r n w h = differ root n (λ e. both_ways (is_none (parent_in r.filed n)) h (ap (λ k. is_none (parent_in r.filed k)) (sym e) ∙ ap is_none w.root.1))

-- ---- deleted

module _ (r : Repository) (w : IsWellFormed r) where
  -- what is no policy is applied to nothing
  unapplied : (n : Oid) (x : Object) → object_at r n ≡ Some x → is_a r bases.Policy x ≡ false → All (λ a. same a.policy n ≡ false) r.applied
  unapplied n x there kind = All-weaker (λ a. IsBaseAt r bases.Policy a.policy × IsThere r a.object) (λ a. same a.policy n ≡ false)
      (λ a l. differ a.policy n (λ e. both_ways (is_a r bases.Policy x) kind
      (subst (λ z. is_a r bases.Policy z ≡ true) (one_there r n l.0.0 x (ap (object_at r) (sym e) ∙ l.0.1) there) l.0.2))) r.applied w.policies

  -- an object alone, where nothing is filed in it and it is no policy
  object_free : (n : Oid) (x : Object) → object_at r n ≡ Some x → is_a r bases.Policy x ≡ false → same root n ≡ false → is_filled_at r n ≡ false → IsFree r w (n ∷ [])
  object_free n x there kind other empty = one_free r w n other (all_from_any (λ p. same p.folder n) r.filed empty) (unapplied n x there kind)

  alone_free : (n : Oid) → IsEntryAt r n → series_at r n ≡ None → same root n ≡ false → is_filled_at r n ≡ false → IsFree r w (n ∷ [])
  alone_free n (inl f) none other empty = object_free n f.0 f.1 (not_both r f.0 bases.Folder bases.Policy refl f.2) other empty
  alone_free n (inr (inl i)) none other empty = object_free n i.0 i.1 (not_both r i.0 bases.Item bases.Policy refl i.2) other empty
  alone_free n (inr (inr s)) none other empty = absurd (none_some s.0 (sym none ∙ s.1))

  whole_free : (n : Oid) (o : Option Series) → series_at r n ≡ o → IsEntryAt r n → same root n ≡ false → is_filled_at r n ≡ false → IsFree r w (unwrap_or (option_map members o) (n ∷ []))
  whole_free n None e entry other empty = alone_free n entry e other empty
  whole_free n (Some s) e entry other empty = series_free r w s n e

-- a folder in which nothing is filed, an item, or a series with all its documents
whole_keeps : (r : Repository) (m : Moment) (n : Oid) → IsWellFormed r → is_none (parent_in r.filed n) ≡ false → is_filled_at r n ≡ false → IsWellFormed (deleted r m (whole r n))
whole_keeps r m n w filed empty = deleted_keeps r w (whole r n) (whole_free r w n (series_at r n) refl (entry_of r n w filed) (no_root r n w filed) empty) m

-- ---- taken out

leaf_by : (r : Repository) (n : Oid) → IsEntryAt r n → is_folder_at r n ≡ false → IsLeafAt r n
leaf_by r n (inl f) h = absurd (both_ways (is_a r bases.Folder f.0) (sym (ap (λ o. unwrap_or (option_map (is_a r bases.Folder) o) false) f.1) ∙ h) f.2)
leaf_by r n (inr l) h = l

leaf_of : (r : Repository) (n : Oid) → IsWellFormed r → is_none (parent_in r.filed n) ≡ false → is_folder_at r n ≡ false → IsLeafAt r n
leaf_of r n w filed h = leaf_by r n (entry_of r n w filed) h

-- of one folder after another
outs_keep : (n : Oid) (fs : List Oid) (r : Repository) → IsWellFormed r → IsLeafAt r n → IsWellFormed (fold (out_of n) r fs)
outs_keep n [] r w leaf = w
outs_keep n (f ∷ fs) r w leaf = outs_keep n fs (without_pair r f n) (out_keeps r f n w leaf) leaf

-- ---- a visit that does not fail

first_of : (a b : Bool) → a || b ≡ false → a ≡ false
first_of true b h = h
first_of false b h = refl

third_of : (a b c d : Bool) → a || (b || (c || d)) ≡ false → c ≡ false
third_of true b c d h = absurd (both_ways true h refl)
third_of false true c d h = absurd (both_ways true h refl)
third_of false false c d h = first_of c d h

pub deletion_keeps : (r : Repository) (u : List ℕ) (m : Moment) (call : DeleteTree) (tree : List Oid) (n : Oid) → IsWellFormed r → is_none (parent_in r.filed n) ≡ false → fails r u m call tree n ≡ false
    → is_to_go r call tree n ≡ true → IsWellFormed (deleted r m (whole r n))
deletion_keeps r u m call tree n w filed able goes = whole_keeps r m n w filed
    (third_of (lacks_at r u levels.All n) (is_checked_out_at r n) (is_filled_at r n) (is_kept_at r m n) (sym (ap (λ b. if b then may_not_go r u m n else lacks_at r u levels.Write n) goes) ∙ able))

pub taking_keeps : (r : Repository) (m : Moment) (call : DeleteTree) (tree : List Oid) (n : Oid) → IsWellFormed r → is_none (parent_in r.filed n) ≡ false
    → is_to_go r call tree n ≡ false → IsWellFormed (taken_out r m tree n)
taking_keeps r m call tree n w filed stays =
    let fs : List Oid = filter (among tree) (folders_in r n) in
    let leaf = leaf_of r n w filed (first_of (is_folder_at r n) (is_deleted_by call.unfile_objects (list_all (among tree) (folders_in r n))) stays) in
    note_keeps (fold (out_of n) r fs) changes.Updated (event_object r n) m [] (outs_keep n fs r w leaf)
