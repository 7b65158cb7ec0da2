use Rattle.std.proofs.Common.{◌∙◌, sym, arith, Bor, List, [], ℕ}
use Rattle.std.proofs.lemmas.List.Folds.{list_all-map, list_all_at}
use Rattle.cm_base.specs.UserLists.{is_user}
use Rattle.cm_base.proofs.users.are_users.Goals as goal

pub returns-then-not-is_user : goal.returns-then-not-is_user
returns-then-not-is_user c =
    sym (list_all-map is_user (λ (t : Bor (List ℕ)). t.now) c.args.list.now
    ∙ list_all_at (λ (t : Bor (List ℕ)). is_user t.now) c.args.list.now c.loop-piece.piece-index (record { ref_ptr = (0, 0); now = [] }) (omega arith) (sym c.is_user.ensures ∙ c.if-not-is_user.true))
