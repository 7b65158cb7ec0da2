use Rattle.std.proofs.Common.{◌≡◌, ◌∙◌, map, sym, ap, false}
use Rattle.std.specs.Prelude.{bytes_eq}
use Rattle.std.specs.List.{list_any}
use denote.Ref.{Bor}
use Rattle.cm_map.specs.Parts.{pointee}
use Rattle.cm_types.specs.declared.definition.TypeDef.{TypeDef}
use Rattle.cm_type_list.proofs.Firsting.{pushed_first, kept_first}
use Rattle.cm_type_list.proofs.types.add_first.Goals as goal

pub returns-in_ok-push : goal.returns-in_ok-push
returns-in_ok-push c =
    let none : list_any (λ (s : Bor TypeDef). bytes_eq s.now.id c.args.def.now.id) c.args.types.now.items ≡ false =
    ap (list_any (λ (s : Bor TypeDef). bytes_eq s.now.id c.args.def.now.id)) (sym c.deref.ensures.value) ∙ sym c.has_type.ensures ∙ c.if-has_type.false in
    ap (map pointee) c.in_ok-push.ensures.items ∙ pushed_first c.args.types.now.items c.args.def none

pub returns-then-has_type : goal.returns-then-has_type
returns-then-has_type c =
    kept_first c.args.types.now.items c.args.def
    (ap (list_any (λ (s : Bor TypeDef). bytes_eq s.now.id c.args.def.now.id)) (sym c.deref.ensures.value) ∙ sym c.has_type.ensures ∙ c.if-has_type.true)
