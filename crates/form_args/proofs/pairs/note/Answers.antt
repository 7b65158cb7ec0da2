use Rattle.std.proofs.Common.{◌≡◌, string_bytes, is_some, true, false, rules}
use Rattle.std.specs.BTreeMap.{get_by_text}
use Rattle.std.proofs.lemmas.Map.Text.{btree_map_updates_text}
use Rattle.form_args.proofs.Finds.{FindsFirst-known, FindsFirst-new}
use Rattle.form_args.proofs.pairs.note.Goals as goal

pub returns-then-is_some : goal.returns-then-is_some
returns-then-is_some c =
    let known : is_some (get_by_text c.args.places.now c.args.pair.now.name) ≡ true = search rules in
    FindsFirst-known (get_by_text c.args.places.now) c.args.done.now c.args.pair.now c.requires known

pub returns : goal.returns
returns c =
    let unknown : is_some (get_by_text c.args.places.now c.args.pair.now.name) ≡ false = search rules in
    let key : string_bytes c.in_ok-name.name ≡ c.args.pair.now.name = search rules in
    let sets = btree_map_updates_text (string_bytes c.in_ok-name.name) c.args.places.now c.insert.new.self _ c.in_ok-insert.ensures.updates in
    FindsFirst-new (get_by_text c.args.places.now) (get_by_text c.insert.new.self) c.args.done.now c.args.pair.now c.requires unknown (rw key at sets)
