use Rattle.std.proofs.Common.{◌≡◌, ◌∙◌, ap, sym, subst}
use Rattle.core.specs.Ordering.{nat_cmp}
use Rattle.core.specs.Cmp.Lexicographic.{slice_cmp}
use Rattle.core.specs.FinMap.Entries.{put}
use Rattle.cm_types.specs.Changes.{placed_type}
use Rattle.type_requests.specs.Keys.{IsKeyed, values_of}
use Rattle.type_requests.proofs.Keyed.{keyed_put, put_placed}
use Rattle.cm_type_list.proofs.types.Types.with_def.Goals as goal

pub invariant_of-result : goal.invariant_of-result
invariant_of-result c =
    let e : c.in_ok-map.map ≡ put (slice_cmp nat_cmp) c.args.def.id c.args.def c.self.inside.map = cc (c.in_ok-map.ensures, c.in_ok-id.ensures) in
    subst (IsKeyed (λ t. t.id)) (sym e) (keyed_put (λ t. t.id) c.args.def c.self.inside.map c.self.invariant)

pub returns : goal.returns
returns c =
    let e : c.in_ok-map.map ≡ put (slice_cmp nat_cmp) c.args.def.id c.args.def c.self.inside.map = cc (c.in_ok-map.ensures, c.in_ok-id.ensures) in
    ap values_of e
    ∙ put_placed (λ t. t.id) c.args.def c.self.inside.map c.self.invariant c.len-sorted.ensures.sorted
    ∙ ap (placed_type c.args.def) c.self.view_is
