use Rattle.http_grammar.proofs.OneBody.{chunked_unique}
use Rattle.http_grammar.proofs.laws.chunked_body_is_one.Goals as goal

pub returns : goal.returns
returns c = chunked_unique
