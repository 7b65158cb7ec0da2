use Rattle.std.proofs.Common.{◌≡◌, true, false, rules}
use Rattle.std.specs.Str.{is_utf8}
use Rattle.std.proofs.lemmas.Str.{is_utf8-from_IsUtf8}
use Rattle.form_parts.proofs.KindTexts.{not_utf8}
use Rattle.form_parts.proofs.wanted.text_in.Goals as goal

pub returns-in_ok-text-in-Ok : goal.returns-in_ok-text-in-Ok
returns-in_ok-text-in-Ok c =
    let is : is_utf8 c.args.bytes.now ≡ true = is_utf8-from_IsUtf8 _ c.in-Ok.ensures.cases.1 in
    search rules

pub returns-in-Err : goal.returns-in-Err
returns-in-Err c =
    let is : is_utf8 c.args.bytes.now ≡ false = not_utf8 _ c.in-Err.ensures.cases.0 in
    search rules
