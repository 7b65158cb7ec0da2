use Rattle.std.specs.Prelude.{codes}
use Rattle.std.proofs.Common.{ap, ◌∙◌}
use Rattle.load_requests.specs.Requests.{creates}
use Rattle.load_requests.proofs.Texts.{told}
use Rattle.load_requests.proofs.posts.makes_folder.Goals as goal

pub returns : goal.returns
returns c = told c.creates.result _ _ c.creates.ensures (ap (creates (codes "/cmis/main/root") (codes "createFolder") (codes "cmis:folder")) (c.as_str.ensures.value ∙ c.in_ok-name.ensures))
