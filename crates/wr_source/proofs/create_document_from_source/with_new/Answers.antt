use Rattle.std.proofs.Common.{◌≡◌, ap, sym, subst, ◌∙◌}
use Rattle.cmis_spec.specs.Well.{Apart, ComesBefore, IsWellFormed}
use Rattle.wr_rules.specs.Rules.{policies_in, new_aces}
use Rattle.wr_object.specs.CreateDocument.{made_of_parts}
use Rattle.wr_source.specs.CreateDocumentFromSource.{after_create_document_from_source}
use Rattle.wr_source.proofs.Created.{keeps_create_document_from_source, series_of_parts}
use Rattle.wr_source.proofs.Found.{room_for}
use Rattle.wr_source.proofs.create_document_from_source.with_new.Goals as goal
use Rattle.wr_source.proofs.create_document_from_source.with_new.Goals.{In_ok-draft}

pub document_in-requires : goal.document_in-requires
document_in-requires c =
    let r = c.args.state.now in
    let room = room_for r c.args.user.now c.args.cost c.args.call.now c.step-step.ensures.well c.requires.allowed in
    record {
      number = ap (λ n. n.object.id) c.requires.new;
      first = ap (λ n. n.series.id) c.requires.new ∙ series_of_parts r c.args.user.now c.args.moment c.args.call.now;
      next = room.next;
      step = room.step;
      cost = room.paid;
    }

aces_are : (c : In_ok-draft) → c.in_ok-aces.aces ≡ new_aces c.args.user.now c.args.call.now.document.remove c.args.call.now.document.add
aces_are c = c.in_ok-aces.ensures.list ∙ (λ i. new_aces c.args.user.now (c.as_slice.ensures i) (c.as_slice-2.ensures i))

is_after : (c : In_ok-draft) → c.in_ok-draft.draft ≡ after_create_document_from_source c.args.state.now c.args.user.now c.args.moment c.args.cost c.args.call.now
is_after c =
    let r = c.args.state.now in
    let u = c.args.user.now in
    let policies = c.as_slice-policies.ensures ∙ c.in_ok-policies.ensures ∙ ap (policies_in r u) c.as_slice-3.ensures in
    let aces = aces_are c in
    c.in_ok-draft.ensures ∙ (λ i. made_of_parts r (c.requires.new i) (aces i) (policies i) c.args.cost c.args.moment)

pub seal-requires : goal.seal-requires
seal-requires c = record {
  well = subst IsWellFormed (sym (is_after c)) (keeps_create_document_from_source c.args.state.now c.args.user.now c.args.moment c.args.cost c.args.call.now c.step-step.ensures.well c.requires.allowed (subst (Apart ComesBefore) (aces_are c) c.in_ok-aces.ensures.ordered));
}

pub returns : goal.returns
returns c =
    let r = c.args.state.now in
    let u = c.args.user.now in
    let call = c.args.call.now in
    let policies = c.as_slice-policies.ensures ∙ c.in_ok-policies.ensures ∙ ap (policies_in r u) c.as_slice-3.ensures in
    let aces = c.in_ok-aces.ensures.list ∙ (λ i. new_aces u (c.as_slice.ensures i) (c.as_slice-2.ensures i)) in
    c.seal.ensures ∙ (c.in_ok-draft.ensures ∙ (λ i. made_of_parts r (c.requires.new i) (aces i) (policies i) c.args.cost c.args.moment))
