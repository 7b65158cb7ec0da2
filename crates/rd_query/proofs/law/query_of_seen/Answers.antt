use Rattle.std.proofs.Common.{◌≡◌, ◌∙◌, sym, ap}
use Rattle.std.specs.Prelude.{Ok}
use Rattle.cm_base.specs.Judged.{◌>>=◌}
use Rattle.ql_bind.specs.declared.bound.Bound.{Bound}
use Rattle.cm_see.proofs.Worlds.{AreAlike}
use Rattle.rd_query.specs.ReadQuery.{answer_bound, query_reply}
use Rattle.rd_query.specs.Said.{bound_of}
use Rattle.rd_query.proofs.Beside.{reply_alike}
use Rattle.rd_query.proofs.Found.{found_alike}
use Rattle.rd_query.proofs.law.query_of_seen.Goals as goal

pub returns : goal.returns
returns c r u q w other v e =
    let a : AreAlike r other u = record { well = w; other_well = v; alike = e } in
    let types : r.types ≡ other.types = sym (ap (λ s. s.types) e) in
    let bound_alike : (bound : Bound) → answer_bound r u q bound ≡ answer_bound other u q bound = λ bound.
    reply_alike r other u a q bound.columns bound q.all_versions
    ∙ ap (query_reply other u q bound.columns) (found_alike r other u a bound q.all_versions) in
    λ i. bound_of (types i) q.statement >>= (λ bound. Ok (bound_alike bound i))
