use Rattle.std.proofs.Common.{[], ◌∷◌, ◌++◌, ◌∙◌, ap, append_assoc, codes}
use Rattle.json.specs.Token.{Token}
use Rattle.show_json.proofs.children.write_more.Goals as goal

pub returns : goal.returns
returns c =
    c.in_ok-flag.ensures ∙ ap (λ ts. ts ++ Token.boolean c.args.more ∷ []) c.in_ok-key.ensures
    ∙ append_assoc c.args.out.now (Token.key (codes "hasMoreItems") ∷ []) (Token.boolean c.args.more ∷ [])
