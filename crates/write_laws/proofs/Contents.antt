-- The calls on the content of documents, and on their renditions, keep what is well formed.
use Rattle.std.specs.Prelude.{◌≡◌, ℕ, List, Ok, is_some}
use Rattle.std.proofs.Common.{refl, subst}
use Rattle.cm_base.specs.declared.number.Moment.{Moment}
use Rattle.call_parts.specs.declared.changes.AppendContent.{AppendContent}
use Rattle.call_parts.specs.declared.changes.DeleteContent.{DeleteContent}
use Rattle.call_parts.specs.declared.changes.SetContent.{SetContent}
use Rattle.rendition_parts.specs.declared.writes.AddRendition.{AddRendition}
use Rattle.cm_state.specs.Looks.{content_at}
use Rattle.cmis_spec.specs.Repository.{Repository}
use Rattle.cmis_spec.specs.Well.{IsWellFormed}
use Rattle.cmis_laws.proofs.Lists.{by_test}
use Rattle.wr_content.specs.Changed.{changed_by}
use Rattle.wr_content.specs.SetContent.{refusal_set_content, content_set, after_set_content}
use Rattle.wr_content.specs.AppendContent.{refusal_append_content, content_appended, after_append_content}
use Rattle.wr_content.specs.DeleteContent.{refusal_delete_content, after_delete_content}
use Rattle.wr_content.proofs.SetContent.{set_is, set_well}
use Rattle.wr_content.proofs.AppendContent.{append_is, append_well}
use Rattle.wr_content.proofs.DeleteContent.{cleared_is, cleared_well, stepped_is, stepped_well}
use Rattle.wr_rendition.specs.AddRendition.{refusal_add_rendition, rendition_added, after_add_rendition}
use Rattle.wr_rendition.proofs.Added.{added_is, added_well}
use Rattle.write_laws.proofs.Passing.{found}

module _ (r : Repository) (u : List ℕ) (m : Moment) (cost : ℕ) (w : IsWellFormed r) where
  pub keeps_set_content : (call : SetContent) → refusal_set_content r u m cost call ≡ Ok tt → IsWellFormed (after_set_content r u m cost call)
  keeps_set_content call h =
      let f = found r u cost call.place _ h in
      subst IsWellFormed (set_is r u m cost cost call f.x (changed_by r u m f.x) (content_set r call f.x) f.at refl refl refl)
      (set_well r u m cost cost call f.x (changed_by r u m f.x) (content_set r call f.x) w f.at h refl refl refl)

  pub keeps_append_content : (call : AppendContent) → refusal_append_content r u m cost call ≡ Ok tt → IsWellFormed (after_append_content r u m cost call)
  keeps_append_content call h =
      let f = found r u cost call.place _ h in
      subst IsWellFormed (append_is r u m cost cost call f.x (changed_by r u m f.x) (content_appended r call f.x) f.at refl refl refl)
      (append_well r u m cost cost call f.x (changed_by r u m f.x) (content_appended r call f.x) w f.at h refl refl refl)

  pub keeps_delete_content : (call : DeleteContent) → refusal_delete_content r u m cost call ≡ Ok tt → IsWellFormed (after_delete_content r u m cost call)
  keeps_delete_content call h =
      let f = found r u cost call.place _ h in
      by_test (is_some (content_at r f.x.id))
      (λ e. subst IsWellFormed (cleared_is r u m cost cost call f.x (changed_by r u m f.x) f.at e refl refl) (cleared_well r u m cost cost call f.x (changed_by r u m f.x) w f.at h refl refl))
      (λ e. subst IsWellFormed (stepped_is r u m cost cost call f.x f.at e refl) (stepped_well r u m cost cost call f.x w f.at h refl))

  pub keeps_add_rendition : (call : AddRendition) → refusal_add_rendition r u cost call ≡ Ok tt → IsWellFormed (after_add_rendition r u m cost call)
  keeps_add_rendition call h =
      let f = found r u cost call.place _ h in
      subst IsWellFormed (added_is r u m cost cost call f.x (rendition_added r call f.x) f.at refl refl)
      (added_well r u m cost cost call f.x (rendition_added r call f.x) w f.at h refl refl)
