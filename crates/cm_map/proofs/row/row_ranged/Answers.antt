use Rattle.std.proofs.Common.{Option, IsSome, subst, ◌++◌, map, sym, ap, ◌∙◌}
use Rattle.std.specs.Arc.{arc_value}
use Rattle.cm_map.specs.Parts.{pointee, first_of}
use Rattle.cm_map.proofs.Ranging.{all_between, sorted_between, between_same, kept_between}
use Rattle.cm_map.proofs.Rowing.{all_map}
use Rattle.cm_map.proofs.row.row_ranged.Goals as goal

pub push_ranged-requires-clause-whole : goal.push_ranged-requires-clause-whole
push_ranged-requires-clause-whole g c = all_between g.B.Block.whole g.B.Headed.first g.K.Ord.cmp c.args.least.now c.args.most.now (map arc_value c.args.xs.now) (map arc_value c.between-near.result.now) c.requires.whole c.between-near.ensures

pub push_ranged-requires-clause-sorted : goal.push_ranged-requires-clause-sorted
push_ranged-requires-clause-sorted g c = sorted_between g.K.Ord.cmp g.met.K.Ord.total c.args.least.now c.args.most.now g.B.Block.entries g.B.Headed.first (map arc_value c.args.xs.now) (map arc_value c.between-near.result.now) c.requires.sorted c.between-near.ensures

pub returns : goal.returns
returns g c =
    let bs = map arc_value c.args.xs.now in
    let mid = map arc_value c.between-near.result.now in
    let least = c.args.least.now in
    let most = c.args.most.now in
    let first : g.row.B.Denot → Option g.row.K.Denot = λ b. first_of (g.B.Block.entries b) in
    let same = all_map g.B.Block.whole _ (λ b w. (g.met.B.Block.heads b w).0) bs c.requires.whole in
    let some = all_map g.B.Block.whole _ (λ b w. subst IsSome (g.met.B.Block.heads b w).0 (g.met.B.Block.heads b w).1) bs c.requires.whole in
    let h = between_same g.K.Ord.cmp least most g.B.Headed.first first bs mid same c.between-near.ensures in
    c.in_ok-push_ranged.ensures ∙ ap (λ l. map pointee c.args.out.now.items ++ l) (sym (kept_between g.K.Ord.cmp g.met.K.Ord.total least most g.B.Block.entries bs mid c.requires.sorted some h))
