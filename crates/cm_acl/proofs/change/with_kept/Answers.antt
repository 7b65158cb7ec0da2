use Rattle.std.proofs.Common.{◌≡◌, cond, false, sym, ap, ◌∙◌}
use Rattle.cm_map.specs.Sets.{has_key, with_key}
use Rattle.cm_acl.specs.Keys.{ace_key, key_order}
use Rattle.cm_acl.proofs.change.with_kept.Goals as goal

pub returns : goal.returns
returns c =
    let k = ace_key c.args.ace.now in
    let set = c.args.set in
    let h : has_key key_order k c.args.removed.now ≡ false = ap (λ q. has_key key_order q c.args.removed.now) (sym c.in_ok-key.ensures) ∙ sym c.has.ensures ∙ c.if-has.false in
    c.in_ok-more.ensures.keys ∙ ap (with_key key_order set) c.in_ok-key.ensures ∙ sym (ap (λ b. cond b set (with_key key_order set k)) h)
