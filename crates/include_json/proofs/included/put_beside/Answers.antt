use Rattle.std.proofs.Common.{◌∙◌, ap}
use Rattle.std.specs.Prelude.{fold}
use Rattle.json_text.specs.Build.{with_field}
use Rattle.json_text.specs.Shown.{fields_of}
use Rattle.include_json.specs.Included.{action_fields, policy_fields, relationship_fields, rendition_fields}
use Rattle.include_json.proofs.Beside.{put_beside}
use Rattle.include_json.proofs.included.put_beside.Goals as goal

pub returns : goal.returns
returns c =
    let o = c.args.beside.now in
    c.in_ok-put_renditions.ensures
    ∙ (ap (λ ms. fold with_field ms (rendition_fields o.renditions)) (c.in_ok-put_relationships.ensures
    ∙ ap (λ ms. fold with_field ms (relationship_fields o.relationships)) (c.in_ok-put_policy_ids.ensures
    ∙ ap (λ ms. fold with_field ms (policy_fields o.policy_ids)) (c.in_ok-put_actions.ensures
    ∙ ap (λ ms. fold with_field ms (action_fields o.actions)) c.in_ok-put_acl.ensures)))
    ∙ put_beside (fields_of c.args.fields.now) o)
