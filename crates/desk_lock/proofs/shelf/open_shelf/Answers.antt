use Rattle.std.proofs.Common.{rules, ap, sym, ◌∙◌, ◌∷◌, Some}
use Rattle.atomic_table.specs.Table.{rest}
use Rattle.desk_lock.proofs.shelf.open_shelf.Goals as goal

pub exchange-requires : goal.exchange-requires
exchange-requires g c = let h = c.claim_shelf.ensures.had in (search rules, (Some h.0, h.1 ∙ ap (λ cs. (1, Some h.0) ∷ rest cs) (sym h.1)))
