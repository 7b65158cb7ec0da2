use Rattle.std.proofs.Common.{◌≡◌, ◌≤◌, List, ℕ, length, sym, subst}
use Rattle.http_reply.specs.Replies.{phrase}
use Rattle.http_reply.proofs.Phrases.{phrase_short, phrase_of_status, no_phrase}
use Rattle.http_reply.proofs.head.phrase_of.Goals as goal

pub returns-in-Ok-clause-value : goal.returns-in-Ok-clause-value
returns-in-Ok-clause-value c = phrase_of_status c.args.status c.in-Ok.code c.phrase_of_code.result.now c.in-Ok.ensures.1 c.in-Ok.ensures.0 c.phrase_of_code.ensures

pub returns-in-Ok-clause-short : goal.returns-in-Ok-clause-short
returns-in-Ok-clause-short c =
    let e : c.phrase_of_code.result.now ≡ phrase c.args.status = phrase_of_status c.args.status c.in-Ok.code c.phrase_of_code.result.now c.in-Ok.ensures.1 c.in-Ok.ensures.0 c.phrase_of_code.ensures in
    subst (λ (t : List ℕ). length t ≤ 31) (sym e) (phrase_short c.args.status)

pub returns-in-Err-clause-value : goal.returns-in-Err-clause-value
returns-in-Err-clause-value c = no_phrase c.args.status c.in-Err.ensures
