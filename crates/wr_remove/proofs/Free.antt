-- What may go, and leaves what is well formed: an object alone, and the documents of a series.
use Rattle.std.specs.Prelude.{◌≡◌, false, true, List, [], ◌∷◌, ◌||◌, All, Some}
use Rattle.std.proofs.Common.{refl, sym, ap, subst, ◌∙◌}
use Rattle.std.proofs.lemmas.Bool.{both_ways}
use Rattle.std.proofs.lemmas.List.Elements.{All-head, All-tail, All-weaker}
use Rattle.cm_base.specs.declared.number.Oid.{Oid}
use Rattle.cm_base.specs.declared.series.Series.{Series}
use Rattle.cm_types.specs.declared.definition.BaseType.TheVariants as bases
use Rattle.cmis_spec.specs.Repository.{Repository, same, root, series_at, is_a}
use Rattle.cmis_spec.specs.Removal.{among}
use Rattle.cmis_spec.specs.Well.{Belongs, members, IsMember, IsWellFormed}
use Rattle.cmis_laws.proofs.Lists.{by_test, found_holds, same_eq}
use Rattle.cmis_laws.proofs.Entries.{not_both}
use Rattle.cmis_laws.proofs.Begun.{IsSeries}
use Rattle.cmis_laws.proofs.Going.{IsFree, loose_free}

module _ (r : Repository) (w : IsWellFormed r) where
  only_one : (m n : Oid) → same m n ≡ false → among (n ∷ []) m ≡ false
  only_one m n h = ap (λ b. b || false) h

  -- an object that is not the root, in which nothing is filed, and that is nowhere applied
  pub one_free : (n : Oid) → same root n ≡ false → All (λ p. same p.folder n ≡ false) r.filed → All (λ a. same a.policy n ≡ false) r.applied → IsFree r w (n ∷ [])
  one_free n other empty unapplied = record {
    root = only_one root n other;
    folders = All-weaker (λ p. same p.folder n ≡ false) (λ p. among (n ∷ []) p.folder ≡ false) (λ p h. only_one p.folder n h) r.filed empty;
    policies = All-weaker (λ a. same a.policy n ≡ false) (λ a. among (n ∷ []) a.policy ≡ false) (λ a h. only_one a.policy n h) r.applied unapplied;
  }

  member_of : (s : Series) (ms : List Oid) → All (IsMember r s) ms → (n : Oid) → among ms n ≡ true → IsMember r s n
  member_of s [] all n h = absurd (both_ways false refl h)
  member_of s (m ∷ ms) all n h = by_test (same n m)
      (λ e. subst (IsMember r s) (sym (same_eq n m e)) (All-head (IsMember r s) m ms all))
      (λ e. member_of s ms (All-tail (IsMember r s) m ms all) n (sym (ap (λ b. b || among ms n) e) ∙ h))

  -- the documents of a series
  pub series_free : (s : Series) (n : Oid) → series_at r n ≡ Some s → IsFree r w (members s)
  series_free s n h = loose_free r w (members s) (λ k t.
      let m : IsMember r s k = member_of s (members s) (found_holds (IsSeries r) (λ u. same u.id n) r.series s w.series h).0 k t in
      let doc : is_a r bases.Document m.0 ≡ true = (subst (Belongs r m.0) m.2 (found_holds (λ z. Belongs r z z.series) (λ z. same z.id k) r.objects m.0 w.documents m.1)).0 in
      (m.0, m.1, not_both r m.0 bases.Document bases.Folder refl doc, not_both r m.0 bases.Document bases.Policy refl doc))
