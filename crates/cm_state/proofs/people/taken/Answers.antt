use Rattle.std.proofs.Common.{◌≡◌, [], ap, sym, ◌∙◌, rules}
use Rattle.std.specs.Prelude.{bytes_eq, unwrap_or, Some, None}
use Rattle.std.specs.BTreeMap.{get_by_text}
use Rattle.std.proofs.lemmas.Map.Text.{btree_map_updates_text}
use Rattle.cm_state.proofs.Noted.{names_set}
use Rattle.cm_state.proofs.people.taken.Goals as goal

pub returns-in-Some : goal.returns-in-Some
returns-in-Some c =
    let had : get_by_text c.args.by_member.now c.args.member.now ≡ Some c.in-Some.names = search rules in
    let sets = btree_map_updates_text c.args.member.now c.args.by_member.now c.remove.new.self _ (search rules) in
    record {
      names = sym (ap (λ o. unwrap_or o []) had);
      others = λ u. names_set (bytes_eq c.args.member.now u) (get_by_text c.args.by_member.now u) (get_by_text c.remove.new.self u) None (sets u);
    }

pub returns-in-None : goal.returns-in-None
returns-in-None c =
    let had : get_by_text c.args.by_member.now c.args.member.now ≡ None = search rules in
    let sets = btree_map_updates_text c.args.member.now c.args.by_member.now c.remove.new.self None (search rules) in
    record {
      names = c.new.ensures ∙ sym (ap (λ o. unwrap_or o []) had);
      others = λ u. names_set (bytes_eq c.args.member.now u) (get_by_text c.args.by_member.now u) (get_by_text c.remove.new.self u) None (sets u);
    }
