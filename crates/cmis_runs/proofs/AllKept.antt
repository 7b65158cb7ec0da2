-- No session that was served ended for a reply that could not be kept, where the keeper never fails.
use Rattle.std.proofs.Common.{◌≢◌, ℕ, List, All}
use Rattle.std.proofs.lemmas.List.Elements.{All-weaker}
use Rattle.desk_model.specs.Histories.{History}
use Rattle.desk_lock.specs.Words.{HasFailed}
use Rattle.talk.specs.declared.end.End.{End}
use Rattle.talk.specs.declared.end.End.TheVariants.{Unkept}
use Rattle.talk.specs.Talked.{IfUnkept}
use Rattle.desk_serve.specs.declared.ended.Ended.{Ended}
use Rattle.desk_serve.specs.Sessions.{Terms, Closed, IsServed}

pub all_kept : {S C Q L K : Type 0} (t : Terms S C Q L K) (opening : S) (last : History S C) (sure : ℕ) (ended : List (Ended L)) → Closed t opening last sure ended
    → ((x : End) → IfUnkept x (HasFailed t.faults) → x ≢ Unkept) → All (λ x. x.outcome ≢ Unkept) ended
all_kept t opening last sure ended closed none = All-weaker (IsServed t opening last.journal sure) (λ x. x.outcome ≢ Unkept) (λ x s. none x.outcome s.kept) ended closed.served
