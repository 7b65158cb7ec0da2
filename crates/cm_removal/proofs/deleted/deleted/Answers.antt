use Rattle.std.proofs.Common.{◌++◌, map, List, ap, ◌∙◌}
use Rattle.cm_base.specs.declared.number.Oid.{Oid}
use Rattle.cmis_spec.specs.Repository.{Repository}
use Rattle.cmis_spec.specs.Removal.{among, removed, deletion}
use Rattle.cm_removal.proofs.deleted.deleted.Goals as goal

pub returns : goal.returns
returns c =
    let r : Repository = c.args.state.now in
    let told : Repository → List Oid → Repository = λ q l. record q { log = q.log ++ map (deletion r c.args.moment) l } in
    c.in_ok-told.ensures ∙ (λ k. told ((c.in_ok-left.ensures ∙ ap (λ l. removed r (among l)) c.in_ok-gone.ensures) k) ((c.as_slice.ensures ∙ c.in_ok-gone.ensures) k))
