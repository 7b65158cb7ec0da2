use Rattle.cm_include.proofs.Related.{relationships_alike}
use Rattle.rd_relationships.proofs.law.read_of_seen.Goals as goal

pub returns : goal.returns
returns c r u direction n w other v e = (relationships_alike r other u (record { well = w; other_well = v; alike = e }) direction n).same
