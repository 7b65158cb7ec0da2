use Rattle.http_grammar.proofs.NeverCut.{first_never_cut}
use Rattle.http_grammar.proofs.laws.first_is_never_cut.Goals as goal

pub returns : goal.returns
returns c = first_never_cut
