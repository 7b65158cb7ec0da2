use Rattle.std.proofs.Common.{◌==◌, not, length, ap, ◌∙◌}
use Rattle.cmis_spec.specs.Repository.{is_of_type}
use Rattle.wr_types.proofs.Numbers.{some_number}
use Rattle.wr_types.proofs.used.is_used.Goals as goal

pub returns : goal.returns
returns c =
    ap not c.is_empty.ensures
    ∙ ap (λ ns. not (length ns == 0)) (c.as_slice.ensures ∙ c.in_ok-numbers.ensures)
    ∙ some_number (is_of_type c.args.id.now) c.args.state.now.objects
