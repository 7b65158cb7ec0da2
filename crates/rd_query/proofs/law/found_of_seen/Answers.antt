use Rattle.rd_query.proofs.Found.{found_alike}
use Rattle.rd_query.proofs.law.found_of_seen.Goals as goal

pub returns : goal.returns
returns c r u bound versions w other v e = found_alike r other u (record { well = w; other_well = v; alike = e }) bound versions
