use Rattle.std.proofs.Common.{sym, ap, subst, ◌∙◌}
use Rattle.cmis_spec.specs.Well.{IsWellFormed}
use Rattle.cm_state.specs.Members.{Principals}
use Rattle.cm_people.proofs.Keeping.{others_keep}
use Rattle.cm_people.proofs.adopt.sealed_with.Goals as goal

pub seal-requires : goal.seal-requires
seal-requires c =
    let others = c.with_others-others.ensures ∙ ap (λ (p : Principals). record c.args.parts { users = p.users; groups = p.groups; log = c.args.log }) c.requires.are in
    record { well = subst IsWellFormed (sym others) (others_keep c.args.parts c.args.people.now.names c.args.people.now.groups c.args.log c.requires.well c.requires.groups) }
