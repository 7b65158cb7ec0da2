-- The payloads behind the first: entries, and people that hold from there on.
use Rattle.std.proofs.Common.{◌≡◌, refl, inl, inr, ◌⊎◌, List, ℕ}
use Rattle.cm_call.specs.declared.write.Write.{Write}
use Rattle.desk_model.specs.declared.entry.Entry.{Entry}
use Rattle.journal_people.specs.Told.{PeopleTold}
use Rattle.journal_replay.specs.declared.record.Record.{Record}
use Rattle.journal_replay.specs.declared.record.Record.TheVariants.{Written, Changed}
use Rattle.byte_codec.specs.Codecs.{Codec}
use Rattle.byte_codec.specs.Parts.{via}
use Rattle.byte_codec.specs.Marks.{IsApart, told_apart}
use Rattle.journal_codec.specs.Roots.{new_people_codec}
use Rattle.journal_codec.specs.Entries.{entry_codec}
use Rattle.journal_codec.specs.Fronts.{entries_are_no_people}

abbrev pub record_parts : Record Write PeopleTold → PeopleTold ⊎ Entry Write
record_parts (Changed p) = inl p
record_parts (Written e) = inr e

abbrev pub record_of : PeopleTold ⊎ Entry Write → Record Write PeopleTold
record_of (inl p) = Changed p
record_of (inr e) = Written e

pub record_forth : (r : Record Write PeopleTold) → record_of (record_parts r) ≡ r
record_forth (Changed p) = refl
record_forth (Written e) = refl

pub record_back : (s : PeopleTold ⊎ Entry Write) → record_parts (record_of s) ≡ s
record_back (inl p) = refl
record_back (inr e) = refl

-- A record that begins with a P tells people, every other one an entry.
abbrev pub record_codec : Codec (Record Write PeopleTold)
record_codec = via record_parts record_of record_forth record_back (told_apart 80 new_people_codec entry_codec entries_are_no_people)
