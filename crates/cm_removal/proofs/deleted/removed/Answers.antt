use Rattle.std.proofs.Common.{not, filter, List, ◌∙◌}
use Rattle.cm_base.specs.declared.number.Oid.{Oid}
use Rattle.cmis_spec.specs.Repository.{Repository}
use Rattle.cmis_spec.specs.Removal.{among}
use Rattle.cm_removal.proofs.deleted.removed.Goals as goal

pub returns : goal.returns
returns c =
    let policies : Repository → List Oid → Repository = λ q l. record q { applied = filter (λ a. not (among l a.object)) q.applied } in
    let renditions : Repository → List Oid → Repository = λ q l. record q { renditions = filter (λ d. not (among l d.of)) q.renditions } in
    let contents : Repository → List Oid → Repository = λ q l. record q { contents = filter (λ x. not (among l x.of)) q.contents } in
    let objects : Repository → List Oid → Repository = λ q l. record q { objects = filter (λ x. not (among l x.id)) q.objects } in
    c.in_ok-left.ensures
    ∙ (λ m. objects ((c.in_ok-empty.ensures
    ∙ (λ k. contents ((c.in_ok-plain.ensures
    ∙ (λ j. renditions ((c.in_ok-bare.ensures
    ∙ (λ i. policies (c.in_ok-draft.ensures i) (c.as_slice.ensures i))) j) (c.as_slice-2.ensures j))) k) (c.as_slice-3.ensures k))) m) (c.as_slice-4.ensures m))
