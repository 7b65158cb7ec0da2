use Rattle.std.proofs.Common.{◌≡◌, ◌∙◌, refl, sym, ap}
use Rattle.std.specs.Prelude.{false, Ok}
use Rattle.cm_base.specs.declared.cause.Cause.TheVariants as causes
use Rattle.cm_types.specs.declared.definition.BaseType.TheVariants as bases
use Rattle.cm_types.specs.Types.{is_of_base}
use Rattle.call_parts.specs.declared.readings.PropertyFilter.TheVariants as filters
use Rattle.cmis_spec.specs.Repository.{is_a}
use Rattle.cmis_laws.proofs.Lists.{by_test}
use Rattle.cm_see.specs.Addressed.{addressed}
use Rattle.cm_see.proofs.Answers.{addressed_alike, answer_alike}
use Rattle.cm_see.proofs.SeenShown.{shown_alike}
use Rattle.cm_see.proofs.Worlds.{AreAlike}
use Rattle.rd_lists.specs.ReadParent.{answer_parent_of, parent_of, parent_reply}
use Rattle.rd_lists.proofs.Seen.{parent_alike}
use Rattle.rd_lists.proofs.law.parent_of_seen.Goals as goal

pub returns : goal.returns
returns c r u q w other v e =
    let a : AreAlike r other u = record { well = w; other_well = v; alike = e } in
    answer_alike r other u causes.NotFound (addressed r u q.place) (addressed other u q.place)
    (answer_parent_of r u q.succinct)
    (answer_parent_of other u q.succinct)
    (addressed_alike r other u q.place a)
    (λ x h.
    let same_kind : is_a r bases.Folder x ≡ is_a other bases.Folder x = ap (λ ts. is_of_base ts bases.Folder x.kind) (sym (ap (λ s. s.types) e)) in
    by_test (is_a r bases.Folder x)
    (λ k. rw (k, sym same_kind ∙ k)
    (answer_alike r other u causes.RootParent (parent_of r u x) (parent_of other u x) (λ f. Ok (parent_reply r u q.succinct f)) (λ f. Ok (parent_reply other u q.succinct f))
    (parent_alike r other u a x h k (sym same_kind ∙ k))
    (λ f j. ap (λ o. Ok (record { object = o; created = false })) (shown_alike r other u a f j filters.All q.succinct))))
    (λ k. rw (k, sym same_kind ∙ k) refl))
