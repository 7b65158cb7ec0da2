use Rattle.std.proofs.Common.{◌≡◌, sym, ap, ◌∙◌, []}
use Rattle.std.specs.Prelude.{fold}
use Rattle.call_parts.specs.declared.changes.UpdateProperties.{UpdateProperties}
use Rattle.wr_bulk.specs.BulkUpdate.{update_of, changed, with_changed, with_object}
use Rattle.wr_bulk.specs.Parts.{asked_of}
use Rattle.wr_bulk.proofs.Folding.{fold_more}
use Rattle.wr_bulk.proofs.bulk_update.with_objects.Goals as goal

pub loop-object-preserved : goal.loop-object-preserved
loop-object-preserved c =
    let u = c.args.user.now in
    let m = c.args.moment in
    let call = c.args.call.now in
    let before = c.loop-object.so_far in
    let o = c.object-item.result in
    let asked : c.in_ok-asked-2.asked ≡ update_of call o = c.in_ok-asked-2.ensures ∙ ap (λ (a : UpdateProperties). asked_of a o) c.loop-object.invariant.1.is in (
      c.in_ok-so_far.ensures
          ∙ ap (λ (a : UpdateProperties). with_changed before (changed before.0 u m a)) asked
          ∙ ap (λ s. with_object u m call s o) c.loop-object.invariant.0
          ∙ sym (fold_more (with_object u m call) (c.args.begun, []) c.as_slice-object-items.result.now c.loop-object.object-index o c.loop-object-test.true c.object-item.is),
      record { object = o; is = asked },
    )
