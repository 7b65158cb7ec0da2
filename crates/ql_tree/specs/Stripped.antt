-- Trees but for the offsets of their timestamps.
use Rattle.std.specs.Prelude.{map}
use Rattle.std.specs.Option.{option_map}
use Rattle.ql_tree.specs.declared.tree.Literal.{Literal}
use Rattle.ql_tree.specs.declared.tree.Literal.TheVariants as literals
use Rattle.ql_tree.specs.declared.tree.Cond.{Cond}
use Rattle.ql_tree.specs.declared.tree.Cond.TheVariants as conds
use Rattle.ql_tree.specs.declared.tree.Cond.TheOpen.{Cond-F}
use Rattle.ql_tree.specs.declared.tree.Cond.TheFolds.{fold-Cond}
use Rattle.ql_tree.specs.declared.tree.Query.{Query}

-- with the offset 0
abbrev pub without_place : Literal → Literal
without_place (literals.Words text) = literals.Words text
without_place (literals.Whole text) = literals.Whole text
without_place (literals.Flag flag) = literals.Flag flag
without_place (literals.Time time) = literals.Time (record { text = time.text; at = 0 })

abbrev pub stripped_step : Cond-F Cond → Cond
stripped_step (Cond-F.Or a b) = conds.Or a b
stripped_step (Cond-F.And a b) = conds.And a b
stripped_step (Cond-F.Not a) = conds.Not a
stripped_step (Cond-F.Compare c by x) = conds.Compare c by (without_place x)
stripped_step (Cond-F.EqualAny x c) = conds.EqualAny (without_place x) c
stripped_step (Cond-F.In c negated xs) = conds.In c negated (map without_place xs)
stripped_step (Cond-F.AnyIn c negated xs) = conds.AnyIn c negated (map without_place xs)
stripped_step (Cond-F.Like c negated text) = conds.Like c negated text
stripped_step (Cond-F.Null c negated) = conds.Null c negated
stripped_step (Cond-F.InFolder table text) = conds.InFolder table text
stripped_step (Cond-F.InTree table text) = conds.InTree table text

unfoldable pub stripped_cond : Cond → Cond
stripped_cond = fold-Cond Cond stripped_step

-- A query whose timestamps all have the offset 0.
abbrev pub stripped : Query → Query
stripped q = record { list = q.list; table = q.table; filter = option_map stripped_cond q.filter; keys = q.keys }
