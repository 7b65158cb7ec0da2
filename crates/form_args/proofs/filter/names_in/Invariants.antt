use Rattle.std.proofs.Common.{◌≡◌, [], map, drop}
use Rattle.form_args.specs.Filter.{each_onto, name_in}
use Rattle.form_args.proofs.filter.names_in.Given as goal

abbrev pub invariant-loop-piece : goal.invariant-loop-piece
invariant-loop-piece l = each_onto name_in [] (map (λ x. x.now) l.pieces) ≡ each_onto name_in l.names.items (map (λ x. x.now) (drop l.piece-index l.pieces))
