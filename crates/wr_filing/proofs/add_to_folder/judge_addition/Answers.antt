use Rattle.std.proofs.Common.{sym, ap, ◌∙◌}
use Rattle.cm_base.specs.declared.cause.Cause.TheVariants as causes
use Rattle.cm_base.specs.Judged.{◌>>◌, refuse}
use Rattle.cmis_spec.specs.Repository.{entry_of}
use Rattle.wr_filing.specs.AddToFolder.{has_its_name}
use Rattle.wr_filing.proofs.add_to_folder.judge_addition.Goals as goal

pub returns-then-is_taken : goal.returns-then-is_taken
returns-then-is_taken c =
    let taken = has_its_name c.args.state.now c.args.folder.now.id (entry_of c.args.x.now) in
    ap (λ j. j >> refuse causes.NameTaken taken) (sym c.in_ok-judge_kinds.ensures)
    ∙ ap (refuse causes.NameTaken) (ap (has_its_name c.args.state.now c.args.folder.now.id) (sym c.entry_of.ensures) ∙ (sym c.in_ok-is_taken.ensures ∙ c.if-is_taken.true))

pub returns : goal.returns
returns c =
    let taken = has_its_name c.args.state.now c.args.folder.now.id (entry_of c.args.x.now) in
    ap (λ j. j >> refuse causes.NameTaken taken) (sym c.in_ok-judge_kinds.ensures)
    ∙ ap (refuse causes.NameTaken) (ap (has_its_name c.args.state.now c.args.folder.now.id) (sym c.entry_of.ensures) ∙ (sym c.in_ok-is_taken.ensures ∙ c.if-is_taken.false))
