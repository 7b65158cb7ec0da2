-- The folders of an entry, by its pairs and by the objects that are folders of it.
use Rattle.std.specs.Prelude.{◌≡◌, ℕ, Bool, true, false, ◌&&◌, ◌||◌, List, [], ◌∷◌, map, filter, All, None}
use Rattle.std.specs.List.{list_any, filter_map}
use Rattle.std.proofs.Common.{refl, sym, ap, ◌∙◌}
use Rattle.std.proofs.lemmas.List.Elements.{All-head, All-tail}
use Rattle.cm_base.specs.declared.number.Oid.{Oid}
use Rattle.cm_base.specs.declared.filing.Filed.{Filed}
use Rattle.cm_map.specs.Keyed.{Rises}
use Rattle.cmis_spec.specs.Repository.{Repository, same, object_at, is_filed}
use Rattle.cmis_spec.specs.Access.{read_at, parents_of}
use Rattle.cmis_spec.specs.Well.{IsPair, IsWellFormed}
use Rattle.cmis_laws.proofs.Lists.{by_test, none_some, same_eq}
use Rattle.cm_state.proofs.Numbers.{flip}
use Rattle.cm_state.specs.Looks.{folders_in}
use Rattle.rd_lists.proofs.Rising.{read_passing}

any_folder : (m n : Oid) (ps : List Filed) → list_any (same m) (map (λ p. p.folder) (filter (λ p. same p.child n) ps)) ≡ list_any (λ p. same p.folder m && same p.child n) ps
any_folder m n [] = refl
any_folder m n (p ∷ ps) = by_test (same p.child n)
    (λ e. rw e (ap (λ b. same m p.folder || b) (any_folder m n ps) ∙ ap (λ b. b || list_any (λ p. same p.folder m && same p.child n) ps) (flip p.folder.0 m.0 ∙ sym (yes (same p.folder m)))))
    (λ e. rw e (any_folder m n ps ∙ sym (ap (λ b. b || list_any (λ p. same p.folder m && same p.child n) ps) (no (same p.folder m)))))
  where
    yes : (a : Bool) → (a && true) ≡ a
    yes true = refl
    yes false = refl

    no : (a : Bool) → (a && false) ≡ false
    no true = refl
    no false = refl

-- what is not there is no folder of anything
none_filed : (r : Repository) (m n : Oid) (ps : List Filed) → object_at r m ≡ None → All (IsPair r) ps → list_any (λ p. same p.folder m && same p.child n) ps ≡ false
none_filed r m n [] e h = refl
none_filed r m n (p ∷ ps) e h = by_test (same p.folder m)
    (λ k. let there = (All-head (IsPair r) p ps h).0 in
    absurd (none_some there.0 (sym (ap (object_at r) (same_eq p.folder m k) ∙ e) ∙ there.1)))
    (λ k. rw k (none_filed r m n ps e (All-tail (IsPair r) p ps h)))

-- numbers that rise and are those of the entry's folders: of these, what the caller reads
pub parents_read : (r : Repository) (u : List ℕ) (n : Oid) (ns : List Oid) → IsWellFormed r → Rises (λ n. n.0) ns → ((m : Oid) → list_any (same m) ns ≡ list_any (same m) (folders_in r n))
    → filter_map (read_at r u) ns ≡ parents_of r u n
parents_read r u n ns w rise members = read_passing (λ m. is_filed r m n) ns r u w.numbers rise
    (λ m. members m ∙ any_folder m n r.filed)
    (λ m e. none_filed r m n r.filed e w.pairs)
