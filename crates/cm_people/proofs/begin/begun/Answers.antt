use Rattle.std.proofs.Common.{rules, ◌≡◌, List, map, subst, sym}
use Rattle.cm_base.specs.declared.user.User.{User}
use Rattle.cm_base.specs.declared.user.Group.{Group}
use Rattle.cmis_spec.specs.Well.{HasGroups}
use Rattle.cm_people.specs.Begun.{user_named}
use Rattle.cm_people.proofs.Named.{have_groups}
use Rattle.cm_people.proofs.begin.begun.Goals as goal

pub open-requires-clause-groups : goal.open-requires-clause-groups
open-requires-clause-groups c =
    let names = c.args.people.now.names in
    let groups = c.args.people.now.groups in
    let are : c.in_ok-users.users ≡ map user_named names = search rules in
    let same : c.in_ok-groups.groups ≡ groups = search rules in
    subst (λ (all : List Group). HasGroups (map (λ (u : User). u.name) c.in_ok-users.users) all) (sym same)
    (subst (λ (users : List User). HasGroups (map (λ (u : User). u.name) users) groups) (sym are) (have_groups names groups c.names.ensures.well))
