-- The encoding of an entry: who made it, his how-manyeth it is, for which user, at which moment, and the call.
use Rattle.std.proofs.Common.{◌≡◌, refl, List, ℕ}
use Rattle.cm_call.specs.declared.write.Write.{Write}
use Rattle.desk_model.specs.declared.entry.Entry.{Entry}
use Rattle.byte_codec.specs.Codecs.{Codec}
use Rattle.byte_codec.specs.Parts.{both, via}
use Rattle.byte_codec.specs.Numbers.{number, small, text}
use Rattle.byte_codec.specs.Base.{moment}
use Rattle.write_codec.specs.Writes.{call}

abbrev pub entry_codec : Codec (Entry Write)
entry_codec = via (λ e. (e.session, (e.serial, (e.user, (e.moment, e.call))))) (λ t. record { session = t.0; serial = t.1.0; user = t.1.1.0; moment = t.1.1.1.0; call = t.1.1.1.1 }) (λ e. refl) (λ t. refl)
    (both small (both number (both text (both moment call))))
