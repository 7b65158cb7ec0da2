use Rattle.std.proofs.Common.{◌≡◌, All, refl, sym, subst, ◌∙◌}
use Rattle.std.specs.Arc.{arc_value}
use Rattle.cm_types.specs.declared.definition.BaseType.TheVariants as bases
use Rattle.cm_types.specs.Types.{is_of_base}
use Rattle.cmis_spec.specs.Repository.{Repository}
use Rattle.cm_draft.proofs.Changed.{retyped_parts}
use Rattle.cm_draft.proofs.made.put_types.Goals as goal

pub invariant_of-result : goal.invariant_of-result
invariant_of-result c = retyped_parts c.parts.inside (record c.parts.inside { types = c.args.types }) (arc_value c.args.types) refl refl refl
    (subst (λ (r : Repository). All (λ x. is_of_base (arc_value c.args.types) bases.Folder x.kind ≡ is_of_base r.types bases.Folder x.kind) r.objects) (sym (c.parts.view_is ∙ c.draft.view_is)) c.requires.folders) c.parts.invariant

pub returns : goal.returns
returns c = λ i. record ((c.parts.view_is ∙ c.draft.view_is) i) { types = arc_value c.args.types }
