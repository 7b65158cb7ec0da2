use Rattle.std.proofs.Common.{◌≡◌, true, ap, ◌∙◌}
use Rattle.std.specs.Prelude.{is_some}
use Rattle.serde_json.specs.Written.{compact_text}
use Rattle.call_parts.specs.declared.readings.PropertyFilter.TheVariants as filters
use Rattle.cm_see.specs.Shown.{shown_object}
use Rattle.cmis_spec.specs.Repository.{object_at}
use Rattle.object_json.specs.Objects.{shown_data}
use Rattle.object_json.specs.Sent.{shown_json}
use Rattle.wr_object.specs.CreateFolder.{folder_made}
use Rattle.cm_repo.proofs.server_machine.sent_folder.Goals as goal

pub sent_made-requires : goal.sent_made-requires
sent_made-requires c = record {
  there = ap is_some ((λ i. object_at c.in_ok-made.made (record { 0 = c.next_number.ensures i })) ∙ c.in_ok-made.ensures.there);
}

pub returns : goal.returns
returns c =
    let r = c.args.state.now in
    let u = c.args.user.now in
    let call = c.args.call.now in
    let made = c.in_ok-made.ensures.created.1 in
    let there = (λ i. object_at c.in_ok-made.made (record { 0 = c.next_number.ensures i })) ∙ c.in_ok-made.ensures.there in (
      c.in_ok-made.ensures.created.0,
      made,
      c.in_ok-shown.ensures (folder_made r u c.args.moment call) there
          ∙ ap (λ s. shown_json 201 (compact_text (shown_data (shown_object s u filters.All call.succinct (folder_made r u c.args.moment call)))) s.step) made,
    )
