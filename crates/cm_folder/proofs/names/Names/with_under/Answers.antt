use Rattle.std.proofs.Common.{rules, ◌≡◌, ◌&&◌, None, Some, length, if◌then◌else◌, refl, sym, ◌∙◌}
use Rattle.core.specs.Ordering.{nat_cmp, eq_by_cmp}
use Rattle.core.specs.Cmp.Lexicographic.{slice_cmp}
use Rattle.cm_map.specs.Buckets.{find_in}
use Rattle.cm_folder.proofs.Named.{under_now, no_length}
use Rattle.cm_folder.proofs.names.Names.with_under.Goals as goal

pub returns-then-is_empty : goal.returns-then-is_empty
returns-then-is_empty c =
    let none : length c.args.children ≡ 0 = search rules in
    under_now c.in_ok-maps.maps c.args.self.now c.args.folder c.args.name.now None c.args.children (sym (no_length c.args.children none))
    (λ n k. c.in_ok-maps.ensures.found n k ∙ (λ i. if eq_by_cmp nat_cmp n c.args.folder && eq_by_cmp (slice_cmp nat_cmp) k c.args.name.now then None else find_in nat_cmp (slice_cmp nat_cmp) (c.self.view_is i) n k))

pub returns : goal.returns
returns c = under_now c.in_ok-maps-2.maps c.args.self.now c.args.folder c.args.name.now (Some c.args.children) c.args.children refl
    (λ n k. c.in_ok-maps-2.ensures.found n k ∙ (λ i. if eq_by_cmp nat_cmp n c.args.folder && eq_by_cmp (slice_cmp nat_cmp) k (c.in_ok-key.ensures i) then Some c.args.children else find_in nat_cmp (slice_cmp nat_cmp) (c.self.view_is i) n k))
