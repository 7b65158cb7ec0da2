use Rattle.std.proofs.Common.{◌+◌, ◌<◌, ◌^◌, All, sym, ap, subst, ◌∙◌}
use Rattle.cmis_spec.specs.Changes.{stepped, with_object}
use Rattle.cmis_laws.proofs.Entries.{lists_below}
use Rattle.wr_create.proofs.making.entered.Goals as goal

pub stepped-paid-requires : goal.stepped-paid-requires
stepped-paid-requires c =
    let same = sym c.in_ok-begun.ensures in
    record { step = subst (λ d. d.step + 1 < 2 ^ 64) same c.requires.step; cost = subst (λ d. d.cost + c.args.cost < 2 ^ 64) same c.requires.cost }

pub with_object-requires : goal.with_object-requires
with_object-requires c =
    let r = c.args.state.now in
    let w = c.step-step.ensures.well in
    let paid = c.stepped-paid.result in
    let same = sym (c.stepped-paid.ensures ∙ ap (λ d. stepped d c.args.cost) c.in_ok-begun.ensures) in
    let number = sym (ap (λ n. n.0) c.requires.number) in
    record {
      room = subst (λ d. d.next + 1 < 2 ^ 64) same c.requires.next;
      objects = subst (λ n. All (λ x. x.id.0 < n) paid.objects) number (subst (λ d. All (λ x. x.id.0 < r.next) d.objects) same w.numbers.1);
      access = subst (λ n. All (λ l. l.at.0 < n) paid.access) number (subst (λ d. All (λ l. l.at.0 < r.next) d.access) same (lists_below r w.numbers w.series_numbers w.access));
    }

pub returns : goal.returns
returns c =
    let paid = c.stepped-paid.ensures ∙ ap (λ d. stepped d c.args.cost) c.in_ok-begun.ensures in
    c.in_ok-made.ensures ∙ ap (λ d. with_object d c.args.object c.args.aces c.args.policies.now) paid
