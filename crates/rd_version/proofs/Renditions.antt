-- Renditions have numbers of their own, so that one is found among those of its object where it is found among all.
use Rattle.std.specs.Prelude.{◌≡◌, ◌<◌, Bool, false, if◌then◌else◌, List, [], ◌∷◌, filter, find, All, Option, Some, None, option_and_then}
use Rattle.std.proofs.Common.{refl, sym, ap, ◌∙◌, arith}
use Rattle.std.proofs.lemmas.List.Elements.{All-head, All-tail, All-weaker}
use Rattle.cm_base.specs.declared.number.Oid.{Oid}
use Rattle.cm_base.specs.declared.object.Object.{Object}
use Rattle.cm_base.specs.declared.content.Rendition.{Rendition}
use Rattle.cmis_spec.specs.Repository.{Repository, same}
use Rattle.cmis_spec.specs.Well.{Apart, IsWellFormed}
use Rattle.cmis_laws.proofs.Lists.{by_test, same_eq, differ}
use Rattle.cm_state.specs.Looks.{rendition_at}
use Rattle.rd_version.specs.Content.{rendition_of}

none_in : (p : Rendition → Bool) (n : Oid) (ds : List Rendition) → All (λ d. same d.id n ≡ false) ds → find (λ d. same d.id n) (filter p ds) ≡ None
none_in p n [] h = refl
none_in p n (d ∷ ds) h =
    let rest = none_in p n ds (All-tail (λ d. same d.id n ≡ false) d ds h) in
    by_test (p d)
    (λ e. rw e (rw (All-head (λ d. same d.id n ≡ false) d ds h) rest))
    (λ e. rw e rest)

found_in : (p : Rendition → Bool) (n : Oid) (ds : List Rendition) → Apart (λ c d. c.id.0 < d.id.0) ds
    → find (λ d. same d.id n) (filter p ds) ≡ option_and_then (λ d. if p d then Some d else None) (find (λ d. same d.id n) ds)
found_in p n [] apart = refl
found_in p n (d ∷ ds) apart = by_test (same d.id n)
    (λ e. by_test (p d)
    (λ t. rw (e, t) (rw e refl))
    (λ t. rw (e, t) (none_in p n ds
    (All-weaker (λ c. d.id.0 < c.id.0) (λ c. same c.id n ≡ false)
    (λ c l. differ c.id n (λ k. let m : d.id.0 ≡ c.id.0 = ap (λ i. i.0) (same_eq d.id n e ∙ sym k) in omega (arith, l, m))) ds apart.0))))
    (λ e. by_test (p d)
    (λ t. rw (e, t) (rw e (found_in p n ds apart.1)))
    (λ t. rw (e, t) (found_in p n ds apart.1)))

pub found_of : (r : Repository) (x : Object) (n : Oid) (o : Option Rendition) → IsWellFormed r → o ≡ rendition_at r n
    → option_and_then (λ d. if same d.of x.id then Some d else None) o ≡ rendition_of r x n
found_of r x n o w e =
    ap (option_and_then (λ d. if same d.of x.id then Some d else None)) e
    ∙ sym (found_in (λ d. same d.of x.id) n r.renditions w.renditions.0)
