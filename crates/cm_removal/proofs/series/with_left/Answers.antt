use Rattle.std.proofs.Common.{sym, ap, ◌∙◌}
use Rattle.std.specs.Option.{option_copied}
use Rattle.cmis_spec.specs.Repository.{series_at}
use Rattle.cmis_spec.specs.Removal.{among}
use Rattle.cm_removal.proofs.Lefts.{left_there}
use Rattle.cm_removal.proofs.series.with_left.Goals as goal

pub edited_series-requires : goal.edited_series-requires
edited_series-requires c =
    record {
      there = left_there (among c.args.gone.now) c.args.draft c.args.n c.in-Some.series.now c.in_ok-left-in-Some.left
          (sym (c.series.ensures ∙ ap (λ d. series_at d c.args.n) c.parts.ensures) ∙ ap option_copied c.in-Some.is) c.in_ok-left-in-Some.ensures;
    }
