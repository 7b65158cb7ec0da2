use Rattle.std.proofs.Common.{[], ◌∙◌, List, ℕ, sym, ap}
use Rattle.http_grammar.specs.Fields.{framing}
use Rattle.http_wire.proofs.fields.framing.Goals as goal

pub returns-in-Absent-find-2 : goal.returns-in-Absent-find-2
returns-in-Absent-find-2 c =
    let (a, b, rest, e) = c.in-Several.ensures in
    c.several_codings.ensures a b rest
    ∙ ap (λ (codings : List (List ℕ)). framing c.args.minor codings []) (sym e)
    ∙ ap (framing c.args.minor _) (sym c.in-Absent-find-2.ensures)
