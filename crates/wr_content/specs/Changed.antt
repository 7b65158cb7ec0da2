-- A document that is given content, or rid of it (CMIS 1.1, sections 2.2.4.18 to 2.2.4.20).
use Rattle.std.specs.Prelude.{ℕ, ◌+◌, List, []}
use Rattle.cm_base.specs.declared.number.Moment.{Moment}
use Rattle.cm_base.specs.declared.object.Object.{Object}
use Rattle.cm_base.specs.declared.content.Content.{Content}
use Rattle.cm_base.specs.declared.log.ChangeKind.TheVariants as changes
use Rattle.cmis_spec.specs.Repository.{Repository}
use Rattle.cmis_spec.specs.Changes.{stepped, noted, edited, without_content}
use Rattle.cmis_spec.specs.Documents.{with_content}

-- the document as the caller changed it in the next step, whose number is its change token
abbrev pub changed_by : Repository → List ℕ → Moment → Object → Object
changed_by r u m x = record x { modified_by = u; modified_at = m; token = r.step + 1 }

-- the changed document in its place
abbrev pub replaced : Repository → Object → Repository
replaced r x = edited r x.id (λ _. x)

-- it has this content, in place of an older one
abbrev pub filled : Repository → Object → Content → ℕ → Repository
filled r x content cost = noted (stepped (with_content (replaced r x) content) cost) changes.Updated x.id x.modified_at []

-- it has no content any more
abbrev pub cleared : Repository → Object → ℕ → Repository
cleared r x cost = noted (stepped (without_content (replaced r x) x.id) cost) changes.Updated x.id x.modified_at []
