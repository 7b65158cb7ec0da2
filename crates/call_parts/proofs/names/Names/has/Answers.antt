use Rattle.std.proofs.Common.{◌≡◌, ◌∙◌, ap, bytes_eq, rules}
use Rattle.std.specs.Option.{is_some}
use Rattle.std.specs.List.{list_any}
use Rattle.std.specs.BTreeMap.{get_by_text}
use Rattle.call_parts.proofs.names.Names.has.Goals as goal

pub returns : goal.returns
returns c =
    let found : c.is_some.result ≡ is_some (get_by_text c.self.inside.index c.args.name.now) = search rules in
    found ∙ c.self.invariant c.args.name.now ∙ ap (list_any (bytes_eq c.args.name.now)) c.self.view_is
