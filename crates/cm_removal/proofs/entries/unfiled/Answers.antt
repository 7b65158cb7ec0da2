use Rattle.std.proofs.Common.{◌≡◌, ◌&&◌, [], not, map, filter, unwrap_or, IfOk, subst, sym, ap, ◌∙◌}
use Rattle.std.specs.List.{list_any}
use Rattle.std.specs.Option.{option_copied}
use Rattle.cmis_spec.specs.Repository.{same}
use Rattle.cm_state.specs.Looks.{folders_in}
use Rattle.cm_removal.proofs.Filters.{all_pass}
use Rattle.cm_removal.proofs.Whole.{pairs_by}
use Rattle.cm_removal.proofs.entries.unfiled.Goals as goal

pub returns-in-Some : goal.returns-in-Some
returns-in-Some c =
    let r = c.args.state.now in
    let n = c.args.n in
    let q = c.args.draft in
    let at : map (λ e. e.1) c.in-Some.folders.now ≡ folders_in r n = sym (ap (λ o. map (λ e. e.1) (unwrap_or (option_copied o) [])) c.in-Some.is) ∙ c.folders.ensures in
    subst (λ e. IfOk c.out_of.result (λ d. d ≡ e)) (λ k. record q { filed = (ap (λ fs. filter (λ p. not (list_any (λ f. same p.folder f && same p.child n) fs)) q.filed) at ∙ pairs_by r n q.filed) k }) c.out_of.ensures

pub returns-in-None : goal.returns-in-None
returns-in-None c =
    let r = c.args.state.now in
    let n = c.args.n in
    let q = c.args.draft in
    let at : [] ≡ folders_in r n = sym (ap (λ o. map (λ e. e.1) (unwrap_or (option_copied o) [])) c.in-None.is) ∙ c.folders.ensures in
    λ k. record q { filed = (sym (all_pass q.filed) ∙ (ap (λ fs. filter (λ p. not (list_any (λ f. same p.folder f && same p.child n) fs)) q.filed) at ∙ pairs_by r n q.filed)) k }
