use Rattle.std.proofs.Common.{◌≡◌, ◌++◌, ◌∙◌, ◌∷◌, [], ◌≤◌, List, ℕ, length, ap, refl, arith, subst}
use Rattle.std.specs.Prelude.{codes}
use Rattle.http_reply.specs.Replies.{media_line, line}
use Rattle.http_reply.proofs.head.push_media.Goals as goal

some_line : (kind : List ℕ) → 1 ≤ length kind → line (codes "Content-Type: ") kind ≡ media_line kind
some_line [] some = absurd (omega arith)
some_line (b ∷ kind) some = refl

pub returns-in-len1-up-clause-value : goal.returns-in-len1-up-clause-value
returns-in-len1-up-clause-value c =
    let same : c.as_bytes-text.result.now ≡ c.args.media.now = c.as_bytes-text.ensures.value ∙ c.as_str.ensures.text in
    let some : 1 ≤ length c.args.media.now = subst (λ (t : List ℕ). 1 ≤ length t) same c.in-len1-up.len_at_least in
    c.push_line.ensures.value ∙ ap (λ (t : List ℕ). c.args.head.now ++ line (codes "Content-Type: ") t) same ∙ ap (λ (t : List ℕ). c.args.head.now ++ t) (some_line c.args.media.now some)
