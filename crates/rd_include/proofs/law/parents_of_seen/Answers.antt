use Rattle.std.proofs.Common.{◌∙◌, sym, ap}
use Rattle.std.specs.Prelude.{false, not, option_map, unwrap_or}
use Rattle.cm_base.specs.declared.cause.Cause.TheVariants as causes
use Rattle.cm_base.specs.Judged.{◌>>◌, refuse}
use Rattle.cm_types.specs.Types.{type_in}
use Rattle.cm_see.specs.Addressed.{addressed}
use Rattle.cm_see.proofs.Answers.{addressed_alike, answer_alike}
use Rattle.cm_see.proofs.Worlds.{AreAlike}
use Rattle.rd_lists.specs.Folders.{folders_of, is_fileable, segment_of}
use Rattle.rd_lists.proofs.Seen.{folders_alike, segment_alike}
use Rattle.rd_include.specs.ShowParents.{answer_show_parents_of, included_parents}
use Rattle.rd_include.proofs.Pages.{parents_alike_shown}
use Rattle.rd_include.proofs.law.parents_of_seen.Goals as goal

pub returns : goal.returns
returns c r u q w other v e =
    let a : AreAlike r other u = record { well = w; other_well = v; alike = e } in
    answer_alike r other u causes.NotFound (addressed r u q.parents.place) (addressed other u q.parents.place)
    (answer_show_parents_of r u q) (answer_show_parents_of other u q)
    (addressed_alike r other u q.parents.place a)
    (λ x h.
    ap (λ ts. refuse causes.NotFileable (not (unwrap_or (option_map (λ t. t.fileable) (type_in ts x.kind)) false)) >> included_parents r u q (segment_of r q.parents.segments x) (folders_of r u x)) (sym (ap (λ s. s.types) e))
    ∙ ap (λ y. refuse causes.NotFileable (not (is_fileable other x)) >> y)
    (parents_alike_shown r other u a q (segment_of r q.parents.segments x) (folders_of r u x) (folders_of other u x) (folders_alike r other u a x h)
    ∙ ap (λ s. included_parents other u q s (folders_of other u x)) (segment_alike r other u a x h q.parents.segments)))
