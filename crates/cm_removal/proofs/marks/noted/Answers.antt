use Rattle.std.proofs.Common.{[], ◌∷◌, ◌++◌, map, take, get_or, sym, ap, ◌∙◌}
use Rattle.std.proofs.lemmas.List.{append-nil, map_more, append_assoc}
use Rattle.cm_base.specs.declared.number.Oid.{Oid}
use Rattle.cm_base.specs.declared.log.ChangeKind.TheVariants as changes
use Rattle.cmis_spec.specs.Changes.{noted}
use Rattle.cmis_spec.specs.Removal.{deletion}
use Rattle.cm_removal.proofs.marks.noted.Goals as goal

pub loop-n-init : goal.loop-n-init
loop-n-init c = λ k. record c.args.draft { log = sym (append-nil c.args.draft.log) k }

pub loop-n-preserved : goal.loop-n-preserved
loop-n-preserved c =
    let d : Oid = record { 0 = 0 } in
    let i = c.loop-n.n-index in
    let gs = c.args.gone.now in
    let n : Oid = get_or gs i d in
    let f = deletion c.args.state.now c.args.moment in
    c.in_ok-told.ensures ∙ ((λ k. noted (c.loop-n.invariant k) changes.Deleted n c.args.moment (c.in_ok-readers.ensures k))
    ∙ (λ k. record c.args.draft { log = (append_assoc c.args.draft.log (map f (take i gs)) (f n ∷ []) ∙ ap (λ l. c.args.draft.log ++ l) (sym (map_more f gs i d c.loop-n-test.true))) k }))
