use Rattle.std.proofs.Common.{◌≡◌, ◌∙◌, ap, sym, subst}
use Rattle.core.specs.Ordering.{nat_cmp}
use Rattle.core.specs.Cmp.Lexicographic.{slice_cmp}
use Rattle.core.specs.FinMap.Entries.{put}
use Rattle.type_requests.specs.Keys.{IsKeyed, values_of}
use Rattle.type_requests.proofs.Keyed.{keyed_put, put_placed}
use Rattle.type_requests.proofs.placed.with_prop.Goals as goal

pub returns-clause-keyed : goal.returns-clause-keyed
returns-clause-keyed c =
    let e : c.in_ok-next.next ≡ put (slice_cmp nat_cmp) c.args.def.now.id c.args.def.now c.args.map.now = cc (c.in_ok-next.ensures, c.in_ok-id.ensures, c.in_ok-def.ensures) in
    subst (IsKeyed (λ d. d.id)) (sym e) (keyed_put (λ d. d.id) c.args.def.now c.args.map.now c.requires)

pub returns-clause-values : goal.returns-clause-values
returns-clause-values c =
    let e : c.in_ok-next.next ≡ put (slice_cmp nat_cmp) c.args.def.now.id c.args.def.now c.args.map.now = cc (c.in_ok-next.ensures, c.in_ok-id.ensures, c.in_ok-def.ensures) in
    ap values_of e ∙ put_placed (λ d. d.id) c.args.def.now c.args.map.now c.requires c.len-sorted.ensures.sorted
