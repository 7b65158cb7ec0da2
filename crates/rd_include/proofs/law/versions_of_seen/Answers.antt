use Rattle.std.proofs.Common.{◌∙◌, sym, ap}
use Rattle.std.specs.Prelude.{not}
use Rattle.cm_base.specs.declared.cause.Cause.TheVariants as causes
use Rattle.cm_base.specs.Judged.{◌>>◌, refuse}
use Rattle.cm_types.specs.declared.definition.BaseType.TheVariants as bases
use Rattle.cm_types.specs.Types.{is_of_base}
use Rattle.cmis_spec.specs.Repository.{is_a}
use Rattle.cm_see.specs.Addressed.{addressed}
use Rattle.cm_see.proofs.Answers.{addressed_alike, answer_alike}
use Rattle.cm_see.proofs.Worlds.{AreAlike}
use Rattle.rd_lists.specs.Versions.{versions_of}
use Rattle.rd_lists.proofs.Seen.{versions_alike}
use Rattle.rd_include.specs.Listed.{list_of}
use Rattle.rd_include.specs.ShowVersions.{answer_show_versions_of, included_version}
use Rattle.rd_include.proofs.Pages.{list_alike}
use Rattle.rd_include.proofs.law.versions_of_seen.Goals as goal

pub returns : goal.returns
returns c r u q w other v e =
    let a : AreAlike r other u = record { well = w; other_well = v; alike = e } in
    answer_alike r other u causes.NotFound (addressed r u q.versions.place) (addressed other u q.versions.place)
    (answer_show_versions_of r u q) (answer_show_versions_of other u q)
    (addressed_alike r other u q.versions.place a)
    (λ x h.
    ap (λ ts. refuse causes.WrongKind (not (is_of_base ts bases.Document x.kind)) >> list_of (included_version r u q) (versions_of r u x)) (sym (ap (λ s. s.types) e))
    ∙ ap (λ y. refuse causes.WrongKind (not (is_a other bases.Document x)) >> y)
    (list_alike r other u a q.versions.filter q.versions.succinct q.includes (versions_of r u x) (versions_of other u x) (versions_alike r other u a x h)))
