use Rattle.std.proofs.Common.{◌≡◌, ◌++◌, ◌∷◌, [], ◌∙◌, string_bytes, rules}
use Rattle.std.specs.Prelude.{bytes_eq, cond, Some}
use Rattle.std.specs.BTreeMap.{get_by_text}
use Rattle.std.proofs.lemmas.Map.Text.{btree_map_updates_text}
use Rattle.cm_state.specs.Members.{names_at}
use Rattle.cm_state.proofs.Noted.{names_set, names_noted}
use Rattle.cm_state.proofs.people.note.Goals as goal

pub returns : goal.returns
returns c =
    let key : string_bytes c.in_ok-key.key ≡ c.args.member.now = search rules in
    let pushed : c.push.new.self ≡ c.taken-names.result ++ c.args.group.now ∷ [] = search rules in
    let sets = btree_map_updates_text (string_bytes c.in_ok-key.key) c.taken-names.new.by_member c.insert.new.self _ c.in_ok-insert.ensures.updates in
    names_noted (get_by_text c.args.by_member.now) (get_by_text c.insert.new.self) (names_at c.taken-names.new.by_member) c.args.member.now c.args.group.now c.taken-names.result
    c.taken-names.ensures.names c.taken-names.ensures.others
    (λ u. names_set (bytes_eq c.args.member.now u) (get_by_text c.taken-names.new.by_member u) (get_by_text c.insert.new.self u) (Some (c.taken-names.result ++ c.args.group.now ∷ []))
    (sets u ∙ (λ i. cond (bytes_eq (key i) u) (Some (pushed i)) (get_by_text c.taken-names.new.by_member u))))
