use Rattle.desk_model.proofs.Passes.{one-sees}
use Rattle.desk_model.proofs.one.OneDeskDesk.look.Goals as goal

pub returns-clause-is_of : goal.returns-clause-is_of
returns-clause-is_of g c =
    let lawful = rw c.deref.ensures at c.lawful.ensures in
    one-sees g.M.Machine.next _ _ _ _ _ _ _ _ c.self.view_is c.requires lawful c.in_ok-whole.ensures c.see.ensures
