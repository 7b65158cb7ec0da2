use Rattle.std.proofs.Common.{ap, ◌∙◌}
use Rattle.load_requests.specs.Requests.{posted}
use Rattle.load_requests.proofs.Texts.{told}
use Rattle.load_requests.proofs.posts.creates.Goals as goal

pub returns : goal.returns
returns c = told c.posted.result _ _ c.posted.ensures (ap (posted c.args.path.now) (c.as_str.ensures.value ∙ c.in_ok-form.ensures))
