-- Each object that is no document, and each series, has an access list: what is said of each object by its entry comes to that.
use Rattle.std.specs.Prelude.{◌≡◌, true, false, List, [], ◌∷◌, All, Option, Some, None, unwrap_or}
use Rattle.std.specs.List.{list_any}
use Rattle.std.proofs.Common.{refl, subst}
use Rattle.std.proofs.lemmas.Bool.{both_ways}
use Rattle.std.proofs.lemmas.List.Elements.{All-head, All-weaker}
use Rattle.cm_base.specs.declared.number.Oid.{Oid}
use Rattle.cm_base.specs.declared.object.Object.{Object}
use Rattle.cm_base.specs.declared.series.Series.{Series}
use Rattle.cm_types.specs.declared.definition.BaseType.TheVariants as bases
use Rattle.cmis_spec.specs.Repository.{Repository, same, is_a, entry_of}
use Rattle.cmis_spec.specs.Well.{Belongs, IsMember, members, HasLists, is_listed, IsWellFormed}
use Rattle.cmis_laws.proofs.Lists.{found_holds, all_zip}
use Rattle.cmis_laws.proofs.Begun.{IsSeries}

-- a document of the series is there, and its list is that of the series
pub series_listed : (r : Repository) (s : Series) → HasLists r → IsSeries r s → is_listed r.access s.id ≡ true
series_listed r s lists i = by (members s) i.0 i.2
  where
    by : (ms : List Oid) → All (IsMember r s) ms → list_any (λ n. true) ms ≡ true → is_listed r.access s.id ≡ true
    by [] all h = absurd (both_ways false refl h)
    by (m ∷ ms) all h =
        let in_it = All-head (IsMember r s) m ms all in
        subst (λ o. is_listed r.access (unwrap_or o in_it.0.id) ≡ true) in_it.2 (found_holds (λ y. is_listed r.access (entry_of y) ≡ true) (λ y. same y.id m) r.objects in_it.0 lists in_it.1)

alone_listed : (r : Repository) (x : Object) (o : Option Oid) → Belongs r x o → is_a r bases.Document x ≡ false → is_listed r.access (unwrap_or o x.id) ≡ true → is_listed r.access x.id ≡ true
alone_listed r x None b other h = h
alone_listed r x (Some n) b other h = absurd (both_ways (is_a r bases.Document x) other b.0)

pub each_listed : (r : Repository) → IsWellFormed r → All (λ x. is_a r bases.Document x ≡ false → is_listed r.access x.id ≡ true) r.objects × All (λ s. is_listed r.access s.id ≡ true) r.series
each_listed r w = (
  all_zip (λ x. Belongs r x x.series) (λ x. is_listed r.access (entry_of x) ≡ true) (λ x. is_a r bases.Document x ≡ false → is_listed r.access x.id ≡ true) r.objects
      (λ x b h other. alone_listed r x x.series b other h) w.documents w.listed,
  All-weaker (IsSeries r) (λ s. is_listed r.access s.id ≡ true) (λ s i. series_listed r s w.listed i) r.series w.series,
)
