use Rattle.std.proofs.Common.{◌≡◌, ◌+◌, ◌-◌, ◌++◌, ◌<◌, ◌^◌, IfOk, length, take, drop, sym, ap, refl, subst, ◌∙◌, List, ℕ}
use Rattle.std.specs.Prelude.{IfSome}
use Rattle.std.proofs.lemmas.List.{length-append}
use Rattle.cm_base.specs.Whole.{whole}
use Rattle.wr_content.proofs.Wholes.{joined_is}
use Rattle.wr_content.proofs.pieces.joined.Goals as goal

pub before-requires-clause-fits : goal.before-requires-clause-fits
before-requires-clause-fits c =
    let pieces = c.list-pieces.result.now in
    let front = whole (take c.args.count pieces) in
    let behind = c.in-Some.behind in
    let more = c.args.more.now in
    let behind_is : behind ≡ whole (take (length pieces - c.args.count) (drop c.args.count pieces)) ++ whole c.list.result.now =
    subst (λ o. IfSome o (λ p. p ≡ whole (take (length pieces - c.args.count) (drop c.args.count pieces)) ++ whole c.list.result.now)) c.in-Some.is c.in_ok-one.ensures in
    let all : front ++ behind ≡ c.args.old.now ++ more =
    joined_is c.args.count pieces front behind (whole c.list.result.now) more refl behind_is c.list.ensures ∙ ap (λ (x : List ℕ). x ++ more) c.list-pieces.ensures in
    let n : length front + length behind ≡ length c.args.old.now + length more =
    sym (length-append front behind) ∙ (ap length all ∙ length-append c.args.old.now more) in
    subst (λ (k : ℕ). k < 2 ^ 64) (sym n) c.requires.fits

pub returns-in-Some : goal.returns-in-Some
returns-in-Some c =
    let pieces = c.list-pieces.result.now in
    let front = whole (take c.args.count pieces) in
    let behind = c.in-Some.behind in
    let more = c.args.more.now in
    let behind_is : behind ≡ whole (take (length pieces - c.args.count) (drop c.args.count pieces)) ++ whole c.list.result.now =
    subst (λ o. IfSome o (λ p. p ≡ whole (take (length pieces - c.args.count) (drop c.args.count pieces)) ++ whole c.list.result.now)) c.in-Some.is c.in_ok-one.ensures in
    let all : front ++ behind ≡ c.args.old.now ++ more =
    joined_is c.args.count pieces front behind (whole c.list.result.now) more refl behind_is c.list.ensures ∙ ap (λ (x : List ℕ). x ++ more) c.list-pieces.ensures in
    subst (λ (x : List ℕ). IfOk c.before-in-Some.result (λ p. p ≡ x)) all c.before-in-Some.ensures
