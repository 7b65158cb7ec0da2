use Rattle.std.proofs.Common.{◌+◌, ◌<◌, ◌^◌, All, sym, ap, subst, ◌∙◌}
use Rattle.cm_base.specs.declared.log.ChangeKind.TheVariants.{Created}
use Rattle.cmis_spec.specs.Changes.{stepped, noted, with_object, with_pair}
use Rattle.cmis_laws.proofs.Entries.{lists_below}
use Rattle.wr_object.proofs.making.made_in.Goals as goal

pub with_object-requires : goal.with_object-requires
with_object-requires c =
    let r = c.args.state.now in
    let w = c.step-step.ensures.well in
    let begun = c.in_ok-begun.begun in
    let same = sym c.in_ok-begun.ensures in
    let number = sym (ap (λ n. n.0) c.requires.number) in
    record {
      room = subst (λ d. d.next + 1 < 2 ^ 64) same c.requires.next;
      objects = subst (λ n. All (λ x. x.id.0 < n) begun.objects) number (subst (λ d. All (λ x. x.id.0 < r.next) d.objects) same w.numbers.1);
      access = subst (λ n. All (λ l. l.at.0 < n) begun.access) number (subst (λ d. All (λ l. l.at.0 < r.next) d.access) same (lists_below r w.numbers w.series_numbers w.access));
    }

pub stepped-paid-requires : goal.stepped-paid-requires
stepped-paid-requires c =
    let same = sym (c.in_ok-filed.ensures ∙ ap (λ d. with_pair d c.args.folder c.args.object.id) (c.in_ok-made.ensures ∙ ap (λ d. with_object d c.args.object c.args.aces c.args.policies.now) c.in_ok-begun.ensures)) in
    record { step = subst (λ d. d.step + 1 < 2 ^ 64) same c.requires.step; cost = subst (λ d. d.cost + c.args.cost < 2 ^ 64) same c.requires.cost }

pub returns : goal.returns
returns c =
    let made = c.in_ok-made.ensures ∙ ap (λ d. with_object d c.args.object c.args.aces c.args.policies.now) c.in_ok-begun.ensures in
    let filed = c.in_ok-filed.ensures ∙ ap (λ d. with_pair d c.args.folder c.args.object.id) made in
    let paid = c.stepped-paid.ensures ∙ ap (λ d. stepped d c.args.cost) filed in
    c.in_ok-noted.ensures ∙ (λ i. noted (paid i) Created c.args.object.id c.args.moment (c.new.ensures i))
