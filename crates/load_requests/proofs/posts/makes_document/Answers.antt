use Rattle.std.specs.Prelude.{codes}
use Rattle.std.proofs.Common.{ap, ◌∙◌}
use Rattle.load_requests.specs.Requests.{creates, folder_path}
use Rattle.load_requests.proofs.Texts.{told}
use Rattle.load_requests.proofs.posts.makes_document.Goals as goal

pub returns : goal.returns
returns c =
    told c.creates.result _ _ c.creates.ensures
    (ap (λ path. creates path (codes "createDocument") (codes "cmis:document") c.as_str-2.result.now) (c.as_str.ensures.value ∙ c.in_ok-path.ensures)
    ∙ ap (creates (folder_path c.args.i) (codes "createDocument") (codes "cmis:document")) (c.as_str-2.ensures.value ∙ c.in_ok-name.ensures))
