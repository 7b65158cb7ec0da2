-- Entries of an access control list that are grouped by their principals, one entry after another.
use Rattle.std.specs.Prelude.{if◌then◌else◌, List, [], ◌∷◌, ◌++◌, bytes_eq}
use Rattle.cm_base.specs.declared.access.Ace.{Ace}
use Rattle.call_parts.specs.declared.replies.ShownAce.{ShownAce}
use Rattle.rd_access.specs.ReadAcl.{permission_word}

-- an entry of a principal who had none
abbrev pub alone : Ace → ShownAce
alone a = record { principal = a.principal; permissions = permission_word a.level ∷ [] }

-- one permission more
abbrev pub longer : ShownAce → Ace → ShownAce
longer s a = record { principal = s.principal; permissions = s.permissions ++ permission_word a.level ∷ [] }

-- the last group, and an entry behind it: one more of its principal, or a group of its own
abbrev pub behind : ShownAce → Ace → List ShownAce
behind s a = if bytes_eq s.principal a.principal then longer s a ∷ [] else s ∷ alone a ∷ []

-- the groups with one entry more
abbrev pub grouped_with : List ShownAce → Ace → List ShownAce
grouped_with [] a = alone a ∷ []
grouped_with (s ∷ []) a = behind s a
grouped_with (s ∷ t ∷ ss) a = s ∷ grouped_with (t ∷ ss) a
