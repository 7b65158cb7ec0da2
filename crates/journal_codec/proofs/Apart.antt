-- No bytes are an entry and other people.
use Rattle.std.proofs.Common.{◌≡◌, ℕ, Bool, true, false, List, [], ◌++◌, sym, ap, ◌∙◌}
use Rattle.cm_call.specs.declared.write.Write.{Write}
use Rattle.desk_model.specs.declared.entry.Entry.{Entry}
use Rattle.byte_codec.specs.Marks.{begins}
use Rattle.byte_codec.specs.Payloads.{Encodes}
use Rattle.journal_people.specs.Told.{PeopleTold}
use Rattle.journal_codec.specs.Roots.{new_people_codec}
use Rattle.journal_codec.specs.Entries.{entry_codec}
use Rattle.journal_codec.specs.Fronts.{entries_are_no_people}

both_ways : (b : Bool) → b ≡ true → b ≡ false → ⊥
both_ways true e f = absurd cc
both_ways false e f = absurd cc

pub apart : (e : Entry Write) (p : PeopleTold) (bytes : List ℕ) → Encodes entry_codec e bytes → Encodes new_people_codec p bytes → ⊥
apart e p bytes h k =
    let no : begins 80 (entry_codec.code e ++ []) ≡ false = entries_are_no_people.not e [] h.fits in
    let yes : begins 80 (new_people_codec.code p ++ []) ≡ true = entries_are_no_people.is p [] k.fits in
    let same : entry_codec.code e ≡ new_people_codec.code p = sym h.text ∙ k.text in
    both_ways (begins 80 (entry_codec.code e ++ [])) (ap (λ (x : List ℕ). begins 80 (x ++ [])) same ∙ yes) no
