use Rattle.std.proofs.Common.{ap, ◌∙◌, sym, map}
use Rattle.std.specs.List.{list_all}
use Rattle.form_parts.specs.Parts.{is_coding}
use Rattle.form_parts.proofs.Tests.{all_map}
use Rattle.form_parts.proofs.disposition.is_uncoded.Goals as goal

pub returns : goal.returns
returns c = c.are_codings.ensures ∙ sym (all_map (λ v. v.now) is_coding c.deref.result.now) ∙ ap (list_all is_coding) (ap (map (λ v. v.now)) c.deref.ensures.value ∙ c.in_ok-values.ensures)
