use Rattle.std.proofs.Common.{◌≡◌, ◌||◌, [], map, fold, sym, ap, subst, ◌∙◌}
use Rattle.core.specs.Ordering.{eq_by_cmp}
use Rattle.cm_map.specs.Sets.{IsRising, has_key, with_key}
use Rattle.cm_acl.specs.Acl.{changed_aces}
use Rattle.cm_acl.specs.Keys.{ace_key, ace_of_key, key_order, kept_with}
use Rattle.cm_acl.proofs.Changing.{removed_has, changed_same, apart_from, back}
use Rattle.cm_acl.proofs.change.apply.Goals as goal

in_set : (c : goal.After-drop-removed-inside-2) → c.in_ok-all.all ≡ map ace_key (changed_aces c.args.list.now c.args.remove.now c.args.add.now)
in_set c =
    let list = c.args.list.now in
    let remove = c.args.remove.now in
    let add = c.args.add.now in
    let removed = c.in_ok-removed.removed in
    let has = removed_has removed remove (λ q. c.in_ok-removed.ensures.has q ∙ (λ i. fold (λ b k. eq_by_cmp key_order q k || b) (has_key key_order q (c.empty-none.ensures i)) (map ace_key (c.as_slice.ensures i)))) in
    c.in_ok-all.ensures.keys
    ∙ (λ i. fold (with_key key_order) ((c.in_ok-kept.ensures ∙ ap (fold (kept_with removed) []) c.as_slice-2.ensures) i) (map ace_key (c.as_slice-3.ensures i)))
    ∙ changed_same list remove add removed c.requires has

pub returns-clause-changed : goal.returns-clause-changed
returns-clause-changed c = c.in_ok-aces.ensures.list ∙ ap (map ace_of_key) (in_set c) ∙ back (changed_aces c.args.list.now c.args.remove.now c.args.add.now)

pub returns-clause-ordered : goal.returns-clause-ordered
returns-clause-ordered c = apart_from c.in_ok-aces.aces (subst (IsRising key_order) (in_set c ∙ ap (map ace_key) (sym (returns-clause-changed c))) c.in_ok-aces.ensures.rising)
