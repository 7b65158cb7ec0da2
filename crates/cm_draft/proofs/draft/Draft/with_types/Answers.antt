use Rattle.std.proofs.Common.{◌≡◌, All, sym, ap, subst, ◌∙◌}
use Rattle.cm_types.specs.declared.definition.BaseType.TheVariants as bases
use Rattle.cm_types.specs.declared.definition.TypeDef.{TypeDef}
use Rattle.cm_types.specs.Types.{is_of_base}
use Rattle.std.specs.Prelude.{List}
use Rattle.cmis_spec.specs.Changes.{with_types}
use Rattle.cm_draft.proofs.draft.Draft.with_types.Goals as goal

pub put_types-requires : goal.put_types-requires
put_types-requires c = record {
  folders = subst (λ (ts : List TypeDef). All (λ x. is_of_base ts bases.Folder x.kind ≡ is_of_base c.args.self.types bases.Folder x.kind) c.args.self.objects) (sym c.in-Ok.ensures.ok) c.requires.folders;
}

pub returns-in-Ok : goal.returns-in-Ok
returns-in-Ok c = c.put_types.ensures ∙ ap (with_types c.args.self) c.in-Ok.ensures.ok
