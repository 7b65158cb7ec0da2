use Rattle.std.proofs.Common.{ap}
use Rattle.cmis_runs.specs.Loads.{all_documents, query_of}
use Rattle.cmis_runs.proofs.summary.all_documents.Goals as goal

pub returns : goal.returns
unfolding all_documents
returns c = ap query_of c.in_ok-statement.ensures
