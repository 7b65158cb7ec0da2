-- The repository of a journal's root.
use Rattle.cmis_spec.specs.Repository.{Repository}
use Rattle.journal_people.specs.Told.{PeopleTold}
use Rattle.journal_replay.specs.declared.record.Root.{Root}
use Rattle.cm_people.specs.Begun.{begun}

abbrev pub begun_at : Root PeopleTold → Repository
begun_at root = begun root.moment root.people
