use Rattle.std.proofs.Common.{◌≡◌, ◌++◌, take}
use Rattle.std.specs.List.{flat_map}
use Rattle.ql_lex.specs.declared.word.Word.TheVariants as words
use Rattle.ql_tree.specs.Printed as printed
use Rattle.ql_tree.proofs.print.more_items.Given as goal

abbrev pub invariant-loop-x : goal.invariant-loop-x
invariant-loop-x l = l.out ≡ l.fn.out ++ printed.spaced (flat_map (λ x. printed.word words.Comma ++ printed.item_tokens x) (take l.x-index l.xs))
