-- An entry has the encoding of the record that tells it.
use Rattle.std.specs.Prelude.{ℕ, List, ◌↔◌}
use Rattle.cm_call.specs.declared.write.Write.{Write}
use Rattle.desk_model.specs.declared.entry.Entry.{Entry}
use Rattle.byte_codec.specs.Payloads.{Encodes}
use Rattle.journal_replay.specs.declared.record.Record.TheVariants.{Written}
use Rattle.journal_codec.specs.Entries.{entry_codec}
use Rattle.journal_codec.specs.Recorded.{record_codec}

pub told : (e : Entry Write) (bytes : List ℕ) → (Encodes entry_codec e bytes ↔ Encodes record_codec (Written e) bytes)
told e bytes = (λ h. record { text = h.text; fits = h.fits }, λ h. record { text = h.text; fits = h.fits })
