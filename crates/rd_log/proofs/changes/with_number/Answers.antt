use Rattle.std.proofs.Common.{◌≡◌, ◌∙◌, ◌-◌, ◌≤◌, ◌++◌, List, [], ◌∷◌, length, arith, rules, sym, ap, true, false}
use Rattle.std.specs.Prelude.{Some, slice_get, if◌then◌else◌}
use Rattle.std.proofs.lemmas.Result.{IfOk-weaker}
use Rattle.cmis_spec.specs.Seen.{SeenEvent, is_visible}
use Rattle.rd_log.specs.EventsIn.{events_in, seen_event}
use Rattle.rd_log.specs.ReadChanges.{changes_reply}
use Rattle.rd_log.proofs.Fronts.{events_few, number_more}
use Rattle.rd_log.proofs.changes.with_number.Goals as goal

pub with_event-requires : goal.with_event-requires
with_event-requires c =
    let r = c.args.state.now in
    let few : length (events_in r c.args.user.now c.args.q.now.token (c.args.number - 1)) ≤ c.args.number - 1 = events_few r c.args.user.now c.args.q.now.token (c.args.number - 1) in
    let count : c.args.reply.num_items ≡ length (events_in r c.args.user.now c.args.q.now.token (c.args.number - 1)) = ap (λ a. a.num_items) c.requires.before in
    record { few = omega (arith, few, count, c.requires.within.0) }

pub returns-then-is_visible : goal.returns-then-is_visible
returns-then-is_visible c =
    let r = c.args.state.now in
    let u = c.args.user.now in
    let q = c.args.q.now in
    let number = c.args.number in
    let event = c.in-Some.event.now in
    let before = events_in r u q.token (number - 1) in
    let there : slice_get r.log (number - 1) ≡ Some event = search rules in
    let shown : is_visible r u event ≡ true = sym c.is_visible.ensures ∙ c.if-is_visible.true in
    let more : events_in r u q.token number ≡ before ++ seen_event number event ∷ [] =
    number_more r u q.token number event c.requires.within.0 there c.requires.from ∙ ap (λ b. if b then before ++ seen_event number event ∷ [] else before) shown in
    IfOk-weaker c.with_event.result (λ longer. (es : List SeenEvent) → c.args.reply ≡ changes_reply q es → longer ≡ changes_reply q (es ++ seen_event number event ∷ []))
    (λ longer. longer ≡ changes_reply q (events_in r u q.token number)) (λ longer h. h before c.requires.before ∙ ap (changes_reply q) (sym more)) c.with_event.ensures

pub returns-else-is_visible : goal.returns-else-is_visible
returns-else-is_visible c =
    let r = c.args.state.now in
    let u = c.args.user.now in
    let q = c.args.q.now in
    let number = c.args.number in
    let event = c.in-Some.event.now in
    let before = events_in r u q.token (number - 1) in
    let there : slice_get r.log (number - 1) ≡ Some event = search rules in
    let hidden : is_visible r u event ≡ false = sym c.is_visible.ensures ∙ c.if-is_visible.false in
    let same : events_in r u q.token number ≡ before =
    number_more r u q.token number event c.requires.within.0 there c.requires.from ∙ ap (λ b. if b then before ++ seen_event number event ∷ [] else before) hidden in
    c.requires.before ∙ ap (changes_reply q) (sym same)
