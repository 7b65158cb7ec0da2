-- cancelCheckOut (CMIS 1.1, section 2.2.7.2): when it is refused, and what it makes of the repository. Its reply is empty.
use Rattle.std.specs.Prelude.{ℕ, not, List, [], ◌∷◌, unwrap_or, option_map}
use Rattle.cm_base.specs.declared.number.Moment.{Moment}
use Rattle.cm_base.specs.declared.object.Object.{Object}
use Rattle.cm_base.specs.declared.access.Level.TheVariants as levels
use Rattle.cm_base.specs.declared.cause.Cause.TheVariants as causes
use Rattle.cm_base.specs.Judged.{Judged, ◌>>=◌, ◌>>◌, refuse, find_or}
use Rattle.cm_types.specs.declared.definition.BaseType.TheVariants as bases
use Rattle.call_parts.specs.declared.versions.CancelCheckOut.{CancelCheckOut}
use Rattle.call_parts.specs.Versions.{weight_of_cancel}
use Rattle.cm_see.specs.Addressed.{addressed}
use Rattle.cmis_spec.specs.Repository.{Repository, is_a}
use Rattle.cmis_spec.specs.Access.{lacks}
use Rattle.cmis_spec.specs.Changes.{stepped}
use Rattle.cmis_spec.specs.Documents.{is_working_copy}
use Rattle.cmis_spec.specs.Removal.{deleted}
use Rattle.wr_rules.specs.Rules.{judge_storage}

abbrev pub cost_cancel : CancelCheckOut → ℕ
cost_cancel call = weight_of_cancel call

abbrev pub refusal_cancel : Repository → List ℕ → ℕ → CancelCheckOut → Judged (Unit {0})
refusal_cancel r u cost call = do
  judge_storage r cost
  x ← find_or causes.NotFound (addressed r u call.place)
  refuse causes.Denied (lacks r u levels.Write x)
  refuse causes.WrongKind (not (is_a r bases.Document x))
  refuse causes.NotWorking (not (is_working_copy r x))

-- the working copy goes, and its series if it has no version
abbrev pub after_cancel_of : Repository → Moment → ℕ → Object → Repository
after_cancel_of r m cost x = stepped (deleted r m (x.id ∷ [])) cost

abbrev pub after_cancel : Repository → List ℕ → Moment → ℕ → CancelCheckOut → Repository
after_cancel r u m cost call = unwrap_or (option_map (after_cancel_of r m cost) (addressed r u call.place)) r
