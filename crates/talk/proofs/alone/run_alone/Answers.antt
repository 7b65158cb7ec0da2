use Rattle.std.proofs.Common.{◌∙◌, ◌+◌, ap, sym, length}
use Rattle.talk.specs.Served.{wire_of}
use Rattle.talk.proofs.WireLaws.{GrammarLaws}
use Rattle.talk.proofs.Running.{run-alone, whole-seen, leaves}
use Rattle.talk.proofs.alone.run_alone.Goals as goal

pub returns-clause-ran : goal.returns-clause-ran
returns-clause-ran g c =
    let version = c.in_ok-version.ensures in
    let desk = c.in_ok-desk.ensures in
    let made = c.in_ok-pass.ensures.made in
    let new = c.in_ok-pass.ensures.ok in
    let law : GrammarLaws = record {
      kept = c.first_is_kept.ensures;
      within = c.request_lies_within.ensures;
      head_one = c.held_head_is_one.ensures;
      head_kept = c.held_head_is_kept.ensures;
      no_head = c.held_head_has_bytes.ensures;
      whole_head = c.whole_request_holds_its_head.ensures;
      fault_head = c.fault_holds_its_head.ensures;
    } in
    let base = new.1 ∙ (ap (λ d. d.base) desk ∙ ap (λ v. length v.journal) version) in
    let session = new.3 ∙ ap (λ d. d.made) desk in
    let one = ap (λ k. k.sessions) c.talk-end.ensures.aside ∙ (ap (λ d. d.made) made ∙ ap (λ d. d.made + 1) desk) in
    let of = c.talk-end.ensures.is_of in
    let told = c.talk-end.ensures.talked in
    leaves _ _ _ _ _ _ _ _ _ _ _ _ _
    (whole-seen g.M.Machine.next _ _ of one (told.base ∙ base) (told.number ∙ session) ∙ sym (ap (λ v. v.journal) c.close-last.ensures.last))
    (sym c.close-last.ensures.words)
    (run-alone (record { next = g.M.Machine.next; answer = g.M.Machine.answer; number = g.M.Machine.number; call = g.M.Served.call; wire = wire_of g.M.Served.user g.M.Served.least g.M.Served.closes })
    c.args.opening c.args.users.now _ _ _ _ _ _ _ _ _ _ _ (record { one = c.first_is_one.ensures; within = c.request_lies_within.ensures }) law _ told c.talk-end.ensures.failed
    (ap (λ d. d.words) made ∙ ap (λ d. d.words) desk)
    (new.2 ∙ (ap (λ d. d.opening) desk ∙ ap (λ v. v.opening) version))
    base
    session
    (new.4 ∙ (ap (λ d. d.journal) desk ∙ ap (λ v. v.journal) version))
    one
    of.below
    (g.met.L.Source.end_is_empty c.talk-end.new.link))

pub returns-clause-opening : goal.returns-clause-opening
returns-clause-opening g c =
    ap (λ v. v.opening) c.close-last.ensures.last
    ∙ (sym c.talk-end.ensures.is_of.opening
    ∙ (c.talk-end.ensures.talked.opening
    ∙ (c.in_ok-pass.ensures.ok.2 ∙ (ap (λ d. d.opening) c.in_ok-desk.ensures ∙ ap (λ v. v.opening) c.in_ok-version.ensures))))

pub returns-clause-clock : goal.returns-clause-clock
returns-clause-clock g c =
    c.close-last.ensures.stands_for
    ∙ (ap (λ k. k.stands_for) c.talk-end.ensures.aside
    ∙ (ap (λ d. d.stands_for) c.in_ok-pass.ensures.made ∙ ap (λ d. d.stands_for) c.in_ok-desk.ensures))
