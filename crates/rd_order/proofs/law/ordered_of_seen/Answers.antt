use Rattle.std.proofs.Common.{refl, sym, ◌∙◌}
use Rattle.std.specs.Prelude.{◌≡◌, List, Ok, Err}
use Rattle.cm_base.specs.Judged.{Judged, ◌>>=◌}
use Rattle.cm_base.specs.declared.object.Object.{Object}
use Rattle.cmis_spec.specs.Access.{children_of}
use Rattle.cm_see.specs.Addressed.{addressed}
use Rattle.cm_see.proofs.Answers.{addressed_alike}
use Rattle.cm_see.proofs.Worlds.{AreAlike, IsFound, children_alike}
use Rattle.rd_order.specs.Ordered.{ordered}
use Rattle.rd_order.proofs.Alike.{answered_alike}
use Rattle.rd_order.proofs.law.ordered_of_seen.Goals as goal

itself : (j : Judged (List Object)) → (j >>= λ xs. Ok xs) ≡ j
itself (Ok xs) = refl
itself (Err c) = refl

pub returns : goal.returns
returns c r u place x order w at other v e =
    let a : AreAlike r other u = record { well = w; other_well = v; alike = e } in
    let there : IsFound r other u (addressed r u place) (addressed other u place) = addressed_alike r other u place a in
    let found = children_alike r other u x a (there.each x at) in
    sym (itself (ordered r u order (children_of r u x.id)))
    ∙ (answered_alike r other u a order (λ xs. Ok xs) (λ xs. Ok xs) (λ zs h. refl) (children_of r u x.id) (children_of other u x.id) found
    ∙ itself (ordered other u order (children_of other u x.id)))
