use Rattle.std.proofs.Common.{true, ap, ◌∙◌}
use Rattle.std.specs.Prelude.{is_some}
use Rattle.call_parts.specs.declared.readings.PropertyFilter.TheVariants as filters
use Rattle.call_parts.specs.declared.replies.ObjectReply.{ObjectReply}
use Rattle.cm_see.specs.Shown.{shown_object}
use Rattle.wr_version.specs.CheckIn.{cost_check_in, after_check_in, version_made}
use Rattle.wr_version.proofs.Joined.{room_for, version_is, as_changed, version_found}
use Rattle.wr_version.proofs.check_in.check_in.Goals as goal

pub changed_by-requires : goal.changed_by-requires
changed_by-requires c = record { room = (room_for c.args.state.now c.args.user.now (cost_check_in c.args.call.now) c.args.call.now c.step-step.ensures.well c.in_ok-x.ensures.0).0 }

pub with_version-requires : goal.with_version-requires
with_version-requires c = record {
  allowed = c.in_ok-x.ensures.0;
  found = c.in_ok-x.ensures.1;
  version = as_changed c.args.state.now c.args.user.now c.args.moment c.args.call.now c.in_ok-x.x.now c.in_ok-version.version
      (version_is c.args.state.now c.args.user.now c.args.moment c.args.call.now c.in_ok-x.x.now c.in_ok-kept.kept c.in_ok-version.version c.in_ok-x.values
      c.in_ok-kept.ensures c.in_ok-version.ensures c.in_ok-x.ensures.2);
}

pub with_reply-requires : goal.with_reply-requires
with_reply-requires c =
    let r = c.args.state.now in
    let u = c.args.user.now in
    let m = c.args.moment in
    let call = c.args.call.now in
    let version = version_is r u m call c.in_ok-x.x.now c.in_ok-kept.kept c.in_ok-version.version c.in_ok-x.values c.in_ok-kept.ensures c.in_ok-version.ensures c.in_ok-x.ensures.2 in
    let made = c.in_ok-made.ensures ∙ ap (λ t. after_check_in r u t (cost_check_in call) call) (ap (λ v. v.modified_at) version) in
    record { there = ap is_some (version_found r u m (cost_check_in call) call c.in_ok-made.made c.in_ok-x.x.now c.step-step.ensures.well.numbers c.in_ok-x.ensures.1 made) }

pub returns-clause-written : goal.returns-clause-written
returns-clause-written c =
    let r = c.args.state.now in
    let u = c.args.user.now in
    let m = c.args.moment in
    let call = c.args.call.now in
    let version = version_is r u m call c.in_ok-x.x.now c.in_ok-kept.kept c.in_ok-version.version c.in_ok-x.values c.in_ok-kept.ensures c.in_ok-version.ensures c.in_ok-x.ensures.2 in
    let made = c.in_ok-made.ensures ∙ ap (λ t. after_check_in r u t (cost_check_in call) call) (ap (λ v. v.modified_at) version) in
    let there = version_found r u m (cost_check_in call) call c.in_ok-made.made c.in_ok-x.x.now c.step-step.ensures.well.numbers c.in_ok-x.ensures.1 made in (
      c.in_ok-x.ensures.0,
      c.in_ok-next.ensures.same ∙ made,
      c.in_ok-next.ensures.shown (version_made r u m call) there
          ∙ ap {B = ObjectReply} (λ s. record { object = shown_object s u filters.All call.succinct (version_made r u m call); created = true }) made,
    )
