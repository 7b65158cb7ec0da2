use Rattle.std.proofs.Common.{◌≡◌, rules, true, false}
use Rattle.std.specs.List.{list_all}
use Rattle.std.specs.Str.{is_utf8}
use Rattle.request_target.specs.Path.{names_of}
use Rattle.request_target.proofs.Texts.{all_pass, not_all_pass}
use Rattle.request_target.proofs.target.target_at.Goals as goal

pub returns-in-Ok : goal.returns-in-Ok
returns-in-Ok c =
    let all : list_all is_utf8 (names_of c.args.bytes.now) ≡ true = all_pass _ c.in-Ok.ensures.ok.1 in
    search rules

pub returns-in-Err-Bad : goal.returns-in-Err-Bad
returns-in-Err-Bad c =
    let all : list_all is_utf8 (names_of c.args.bytes.now) ≡ false = not_all_pass _ (search rules) in
    search rules
