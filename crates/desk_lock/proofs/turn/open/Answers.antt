use Rattle.std.proofs.Common.{rules, ap, sym, ◌∙◌, ◌∷◌, Some}
use Rattle.atomic_table.specs.Table.{rest}
use Rattle.desk_lock.proofs.turn.open.Goals as goal

pub exchange-requires : goal.exchange-requires
exchange-requires g c = let h = c.claim.ensures.had in (search rules, (Some h.0, h.2 ∙ ap (λ cs. (0, Some h.0) ∷ rest cs) (sym h.2)))
