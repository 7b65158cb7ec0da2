use Rattle.std.proofs.Common.{◌≡◌, string_bytes, rules}
use Rattle.std.specs.BTreeMap.{get_by_text}
use Rattle.std.proofs.lemmas.Map.Text.{btree_map_updates_text}
use Rattle.call_parts.proofs.Found.{FindsNames-push}
use Rattle.call_parts.proofs.names.note.Goals as goal

pub returns : goal.returns
returns c =
    let key : string_bytes c.in_ok-key.key ≡ c.args.name.now = search rules in
    let sets = btree_map_updates_text (string_bytes c.in_ok-key.key) c.args.index.now c.insert.new.self _ c.in_ok-insert.ensures.updates in
    FindsNames-push (get_by_text c.args.index.now) (get_by_text c.insert.new.self) c.args.done.now c.args.name.now tt c.requires (rw key at sets)
