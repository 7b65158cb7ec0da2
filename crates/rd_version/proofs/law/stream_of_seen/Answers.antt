use Rattle.std.proofs.Common.{◌≡◌, ◌∙◌, sym, ap}
use Rattle.std.specs.Prelude.{ℕ, List, Option, Some, None, not, find, option_map, option_and_then, codes}
use Rattle.cm_base.specs.declared.object.Object.{Object}
use Rattle.cm_base.specs.declared.cause.Cause.TheVariants as causes
use Rattle.cm_base.specs.Judged.{◌>>◌, find_or, refuse}
use Rattle.cm_types.specs.declared.definition.BaseType.TheVariants as bases
use Rattle.cm_types.specs.Types.{is_of_base}
use Rattle.cmis_spec.specs.Repository.{same, is_a}
use Rattle.cmis_spec.specs.Access.{oid_named}
use Rattle.cm_see.specs.Addressed.{addressed}
use Rattle.cm_see.proofs.Answers.{addressed_alike, answer_alike}
use Rattle.cm_see.proofs.SeenShown.{content_alike}
use Rattle.cm_see.proofs.Worlds.{AreAlike, IsAlike}
use Rattle.rd_version.specs.Content.{content_reply, rendition_reply, stream_of, content_in}
use Rattle.rd_version.proofs.law.stream_of_seen.Goals as goal

pub returns : goal.returns
returns c r u place stream w other v e =
    let a : AreAlike r other u = record { well = w; other_well = v; alike = e } in
    answer_alike r other u causes.NotFound (addressed r u place) (addressed other u place)
    (content_in r stream)
    (content_in other stream)
    (addressed_alike r other u place a)
    (λ x h. ap (λ ts. refuse causes.WrongKind (not (is_of_base ts bases.Document x.kind)) >> stream_of r x stream) (sym (ap (λ s. s.types) e))
    ∙ ap (λ y. refuse causes.WrongKind (not (is_a other bases.Document x)) >> y) (streams x h stream))
  where
    streams : (x : Object) → IsAlike r other u x → (o : Option (List ℕ)) → stream_of r x o ≡ stream_of other x o
    streams x h None = ap (λ o. find_or causes.NoContent (option_map content_reply o)) (content_alike r other u x h)
    streams x h (Some id) = ap (λ ds. find_or (causes.BadArgument (codes "streamId")) (option_map rendition_reply (option_and_then (λ n. find (λ d. same d.id n) ds) (oid_named id)))) (ap (λ o. o.renditions) h.alike)
