use Rattle.std.proofs.Common.{◌∙◌, refl, sym, ap}
use Rattle.std.specs.Prelude.{Ok, not}
use Rattle.cm_base.specs.declared.cause.Cause.TheVariants as causes
use Rattle.cm_base.specs.Judged.{◌>>◌, refuse}
use Rattle.cm_types.specs.declared.definition.BaseType.TheVariants as bases
use Rattle.cm_types.specs.Types.{is_of_base}
use Rattle.cmis_spec.specs.Repository.{is_a}
use Rattle.cmis_spec.specs.Access.{children_of}
use Rattle.cm_see.specs.Addressed.{addressed}
use Rattle.cm_see.proofs.Answers.{addressed_alike, answer_alike}
use Rattle.cm_see.proofs.Worlds.{AreAlike, children_alike}
use Rattle.rd_order.proofs.Alike.{answered_alike}
use Rattle.rd_include.specs.ShowChildren.{answer_ordered_children, answer_show_children_in, included_children}
use Rattle.rd_include.proofs.Pages.{children_alike_shown}
use Rattle.rd_include.proofs.law.children_of_seen.Goals as goal

pub returns : goal.returns
returns c r u q w other v e =
    let a : AreAlike r other u = record { well = w; other_well = v; alike = e } in
    answer_alike r other u causes.NotFound (addressed r u q.children.place) (addressed other u q.children.place)
    (answer_show_children_in r u q) (answer_show_children_in other u q)
    (addressed_alike r other u q.children.place a)
    (λ x h.
    ap (λ ts. refuse causes.WrongKind (not (is_of_base ts bases.Folder x.kind)) >> answer_ordered_children r u q x.id) (sym (ap (λ s. s.types) e))
    ∙ ap (λ y. refuse causes.WrongKind (not (is_a other bases.Folder x)) >> y)
    (answered_alike r other u a q.order (λ xs. Ok (included_children r u q xs)) (λ xs. Ok (included_children other u q xs))
    (λ zs each. ap (λ y. Ok y) (children_alike_shown r other u a q zs zs (record { same = refl; each = each })))
    (children_of r u x.id) (children_of other u x.id) (children_alike r other u x a h)))
