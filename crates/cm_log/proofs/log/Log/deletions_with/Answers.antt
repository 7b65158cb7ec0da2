use Rattle.std.proofs.Common.{◌≡◌, [], ◌∷◌, ◌++◌, length, sym, ap, subst, ◌∙◌}
use Rattle.std.proofs.lemmas.Result.{IfOk-weaker}
use Rattle.core.specs.FinMap.Entries.{put}
use Rattle.core.specs.Ordering.{nat_cmp}
use Rattle.cm_log.specs.Deletions.{AreDeletions}
use Rattle.cm_log.proofs.Deletions.{place_more, places_stay}
use Rattle.cm_log.proofs.log.Log.deletions_with.Goals as goal

pub returns-then-is_first_deletion : goal.returns-then-is_first_deletion
returns-then-is_first_deletion c =
    let old = c.self.inside.deletions in
    let cs = c.args.self.now in
    let event = c.args.event.now in
    let kept : AreDeletions old cs = subst (AreDeletions old) c.self.view_is c.self.invariant in
    let place : c.len.result ≡ length cs = c.len.ensures ∙ ap length c.self.view_is in
    IfOk-weaker c.with.result (λ m. m ≡ put nat_cmp event.object.0 c.len.result old) (λ m. AreDeletions m (cs ++ event ∷ []))
    (λ m h. subst (λ t. AreDeletions t (cs ++ event ∷ [])) (sym (h ∙ ap (λ k. put nat_cmp event.object.0 k old) place))
    (place_more old cs event kept (sym c.is_first_deletion.ensures ∙ c.if-is_first_deletion.true))) c.with.ensures

pub returns-else-is_first_deletion : goal.returns-else-is_first_deletion
returns-else-is_first_deletion c =
    let old = c.self.inside.deletions in
    let cs = c.args.self.now in
    let event = c.args.event.now in
    let kept : AreDeletions old cs = subst (AreDeletions old) c.self.view_is c.self.invariant in
    IfOk-weaker c.share.result (λ m. m ≡ old) (λ m. AreDeletions m (cs ++ event ∷ []))
    (λ m h. subst (λ t. AreDeletions t (cs ++ event ∷ [])) (sym h) (places_stay old cs event kept (sym c.is_first_deletion.ensures ∙ c.if-is_first_deletion.false))) c.share.ensures
