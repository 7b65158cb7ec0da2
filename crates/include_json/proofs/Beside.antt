-- Fields that are put in one list after another are put as one list.
use Rattle.std.specs.Prelude.{◌≡◌, ◌++◌, fold}
use Rattle.std.proofs.Common.{sym, ap, ◌∙◌}
use Rattle.std.proofs.lemmas.List.Sums.{fold-append}
use Rattle.serde_json.specs.Data.{Members}
use Rattle.json_text.specs.Build.{with_field}
use Rattle.include_parts.specs.declared.replies.ShownBeside.{ShownBeside}
use Rattle.include_json.specs.Included.{acl_fields, action_fields, fields_beside, policy_fields, relationship_fields, rendition_fields}

pub put_beside : (ms : Members) (o : ShownBeside)
    → fold with_field (fold with_field (fold with_field (fold with_field (fold with_field ms (acl_fields o.acl)) (action_fields o.actions)) (policy_fields o.policy_ids)) (relationship_fields o.relationships)) (rendition_fields o.renditions)
    ≡ fold with_field ms (fields_beside o)
put_beside ms o =
    let a = acl_fields o.acl in
    let b = action_fields o.actions in
    let c = policy_fields o.policy_ids in
    let d = relationship_fields o.relationships in
    let e = rendition_fields o.renditions in
    sym (fold-append with_field ms (a ++ b ++ c ++ d) e
    ∙ ap (λ m. fold with_field m e) (fold-append with_field ms (a ++ b ++ c) d
    ∙ ap (λ m. fold with_field m d) (fold-append with_field ms (a ++ b) c
    ∙ ap (λ m. fold with_field m c) (fold-append with_field ms a b))))
