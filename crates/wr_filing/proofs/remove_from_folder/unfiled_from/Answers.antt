use Rattle.std.proofs.Common.{◌≡◌, ◌+◌, ◌<◌, ◌^◌, length, rules, sym, ap, subst, ◌∙◌}
use Rattle.std.proofs.lemmas.Bool.{both_ways}
use Rattle.cmis_spec.specs.Repository.{entry_of}
use Rattle.wr_filing.specs.Filing.{unfiled, changed_by}
use Rattle.wr_filing.proofs.Folders.{filed_nowhere, filed_somewhere}
use Rattle.wr_filing.proofs.Removing.{filed_yes, filed_no}
use Rattle.wr_filing.proofs.remove_from_folder.unfiled_from.Goals as goal

pub returns-then-is_empty : goal.returns-then-is_empty
returns-then-is_empty c =
    let none : length c.args.folders.now ≡ 0 = search rules in
    c.in_ok-paid.ensures ∙ sym (filed_no c.args.state.now c.args.moment c.args.cost c.args.x.now (filed_nowhere c.args.state.now (entry_of c.args.x.now) c.args.folders.now c.requires.folders none))

pub changed_by-requires : goal.changed_by-requires
changed_by-requires c =
    let r = c.args.state.now in
    let out = c.in_ok-out.ensures in
    record { step = subst (λ d. d.step + 1 < 2 ^ 64) (sym out) c.requires.step; cost = subst (λ d. d.cost + c.args.cost < 2 ^ 64) (sym out) c.requires.cost }

pub returns : goal.returns
returns c =
    let r = c.args.state.now in
    let x = c.args.x.now in
    let some : length c.args.folders.now ≡ 0 → ⊥ = λ e. both_ways c.is_empty.result c.if-is_empty.false (c.is_empty.ensures.1 e) in
    c.in_ok-changed.ensures
    ∙ (ap (λ q. changed_by q x.id c.args.moment c.args.cost) c.in_ok-out.ensures
    ∙ (ap (λ n. changed_by (unfiled r n) x.id c.args.moment c.args.cost) c.entry_of.ensures
    ∙ sym (filed_yes r c.args.moment c.args.cost x (filed_somewhere r (entry_of x) c.args.folders.now c.requires.folders some))))
