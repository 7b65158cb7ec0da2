use Rattle.std.proofs.Common.{◌∙◌, refl, arith}
use Rattle.talk.specs.Served.{wire_of}
use Rattle.talk.proofs.SoFar.{so-far-none, so-far-more, counts}
use Rattle.talk.proofs.Ending.{talked-at, starved-at-once}
use Rattle.talk.proofs.session.talk.Goals as goal

pub returns-in_default-clause-talked : goal.returns-in_default-clause-talked
returns-in_default-clause-talked g c =
    let sound = g.met.D.Desk.sound c.args.desk.now c.args.pass.now c.requires.is_of in
    starved-at-once (record { next = g.D.Kind.Machine.next; answer = g.D.Kind.Machine.answer; number = g.D.Kind.Machine.number; call = g.D.Kind.Served.call; wire = wire_of g.D.Kind.Served.user g.D.Kind.Served.least g.D.Kind.Served.closes })
    _ _ _ _ _ _ _ _ (record { none_made = c.requires.none_made; none_before = c.requires.none_before; begun = sound.begun }) sound.mine c.starve.ensures.sent c.starve.ensures.source

pub steps-init : goal.steps-init
steps-init g c = record {
  laws = record {
    kept = c.first_is_kept.ensures;
    within = c.request_lies_within.ensures;
    head_one = c.held_head_is_one.ensures;
    head_kept = c.held_head_is_kept.ensures;
    no_head = c.held_head_has_bytes.ensures;
    whole_head = c.whole_request_holds_its_head.ensures;
    fault_head = c.fault_holds_its_head.ensures;
  };
  aside = refl;
  place = refl;
  is_of = c.requires.is_of;
  few = omega arith;
  stands_for = refl;
  so_far = rw c.in-Ok.ensures (so-far-none _ _ _ _ _ _ _);
}

pub returns-in-Some-clause-talked : goal.returns-in-Some-clause-talked
returns-in-Some-clause-talked g c =
    let start = g.met.D.Desk.sound c.args.desk.now c.args.pass.now c.requires.is_of in
    let sound = g.met.D.Desk.sound c.step.new.desk c.step.new.pass c.step.ensures.is_of in
    talked-at _ _ _ _ _ _ _ _ _ _ _ _ _ _ c.in-Some.end c.steps.invariant.laws
    (record { none_made = c.requires.none_made; none_before = c.requires.none_before; begun = start.begun }) sound.mine c.steps.invariant.so_far c.in-Some.ensures.steps

pub steps-preserved : goal.steps-preserved
steps-preserved g c =
    let on = counts _ _ _ _ _ _ _ _ _ _ c.steps.invariant.few c.in-None.ensures.steps in
    record {
      laws = c.steps.invariant.laws;
      aside = c.step.ensures.aside ∙ c.steps.invariant.aside;
      place = c.step.ensures.place ∙ c.steps.invariant.place;
      is_of = c.step.ensures.is_of;
      few = on.0;
      stands_for = c.step.ensures.stands_for ∙ c.steps.invariant.stands_for;
      so_far = so-far-more _ _ _ _ _ _ _ _ _ _ _ _ _ _ c.steps.invariant.laws c.requires.none_made c.steps.invariant.so_far c.in-None.ensures.steps;
    }
