use Rattle.std.proofs.Common.{◌∙◌, sym}
use Rattle.journal_people.specs.Tests.{has_groups}
use Rattle.journal_people.proofs.Tested.{groups_decided}
use Rattle.journal_people.proofs.people.People.checked.Goals as goal

pub new-requires : goal.new-requires
new-requires c = record {
  well = (groups_decided c.args.names c.args.groups).0
      ((λ i. has_groups (sym c.as_slice.ensures i) (sym c.as_slice-2.ensures i)) ∙ (sym c.has_groups.ensures ∙ c.if-has_groups.true));
}
