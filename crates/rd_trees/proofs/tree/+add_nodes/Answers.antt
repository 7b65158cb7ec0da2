use Rattle.std.proofs.Common.{arith, ◌≡◌, ◌∙◌, ◌+◌, ◌++◌, ◌∷◌, [], ◌-◌, map, take, sym, ap}
use Rattle.cm_map.specs.Parts.{pointee}
use Rattle.cmis_spec.specs.Repository.{levels_up}
use Rattle.rd_trees.specs.ReadTree.{placed, right_below}
use Rattle.rd_trees.specs.Walks.{nodes_shown}
use Rattle.rd_trees.proofs.Placing.{level_more, shown_more}
use Rattle.rd_trees.proofs.tree.+add_nodes.Goals as goal

pub overflow_add-level : goal.overflow_add-level
unfolding levels_up
overflow_add-level t c = omega arith

pub loop-x-preserved : goal.loop-x-preserved
loop-x-preserved t c =
    let levels = c.args.levels in
    let level = c.args.level in
    let r = c.args.scope.state.now in
    let u = c.args.scope.user.now in
    let only = c.args.scope.folders_only in
    let x = c.x-item.result in
    let shown : map pointee (take (c.loop-x.x-index + 1) c.args.tops.now) ≡ map pointee (take c.loop-x.x-index c.args.tops.now) ++ x.now ∷ [] =
    shown_more c.args.tops.now c.loop-x.x-index x c.loop-x-test.true c.x-item.is in
    let below : nodes_shown c.add_nodes.new.nodes.items ≡ nodes_shown c.push_node.new.nodes.items ++ placed (levels - 1) r u only (level + 1) (right_below r u only x.now.id) =
    c.in_ok-add_nodes.ensures ∙ ap (λ ts. nodes_shown c.push_node.new.nodes.items ++ placed (levels - 1) r u only (level + 1) ts) (ap (map pointee) c.deref.ensures.value ∙ c.in_ok-below.ensures) in
    level_more r u only levels level (nodes_shown c.args.nodes.now.items) (nodes_shown c.loop-x.nodes.items) (nodes_shown c.push_node.new.nodes.items) (nodes_shown c.add_nodes.new.nodes.items) (map pointee (take c.loop-x.x-index c.args.tops.now)) x.now
    c.if-levels-eq0.false c.loop-x.invariant c.in_ok-push_node.ensures below
    ∙ ap (λ ts. nodes_shown c.args.nodes.now.items ++ placed levels r u only level ts) (sym shown)
