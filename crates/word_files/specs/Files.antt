-- Files whose texts words name.
use Rattle.std.specs.Prelude.{◌≡◌, ℕ, true, false, List, bytes_eq, Option, Some, None, option_map, Result, Ok, Err, if◌then◌else◌}
use Rattle.std.specs.List.{find}
use Rattle.word_files.specs.declared.files.MemFile.{MemFile}
use Rattle.word_files.specs.declared.files.FileFault.{FileFault}
use Rattle.word_files.specs.declared.files.FileTexts.{FileTexts}
use Rattle.word_files.specs.declared.files.FileFault.TheVariants as faults
use Rattle.word_files.specs.declared.listed.FileStop.{FileStop}
use Rattle.word_files.specs.declared.listed.FileStop.TheVariants as stops
use Rattle.word_files.specs.declared.listed.Listed.{Listed}
use Rattle.word_files.specs.declared.listed.Listed.TheVariants.{Users, Groups}
use Rattle.word_files.specs.Expanding.{users_file, groups_file}

abbrev pub text_of : Option MemFile → Result (List ℕ) FileFault
text_of None = Err faults.NotRead
text_of (Some file) = if file.shared then Err faults.Shared else Ok file.text

-- the text of the first file of this name, or why it is not read
abbrev pub text_in : List MemFile → List ℕ → Result (List ℕ) FileFault
text_in files name = text_of (find (λ file. bytes_eq file.name name) files)

-- what is there, exactly; want of memory is free
abbrev pub Gives : Result (List ℕ) FileFault → Result (List ℕ) FileFault → Type 0
Gives (Ok text) due = due ≡ Ok text
Gives (Err faults.Memory) due = Unit {0}
Gives (Err faults.NotRead) due = due ≡ Err faults.NotRead
Gives (Err faults.Shared) due = due ≡ Err faults.Shared

-- the text of a file that may be named
abbrev pub text_at : List MemFile → Option (List ℕ) → Option (Result (List ℕ) FileFault)
text_at files name = option_map (text_in files) name

-- the text that is read is that of the file that is named, and where none is there is none
abbrev pub Holds : List MemFile → Option (List ℕ) → Option (List ℕ) → Type 0
Holds files name text = text_at files name ≡ option_map Ok text

-- the file that is named is not read for this reason; want of memory is free
abbrev pub Faults : FileFault → Option (Result (List ℕ) FileFault) → Type 0
Faults faults.Memory due = Unit {0}
Faults faults.NotRead due = due ≡ Some (Err faults.NotRead)
Faults faults.Shared due = due ≡ Some (Err faults.Shared)

abbrev pub file_by : Listed → List (List ℕ) → Option (List ℕ)
file_by Users words = users_file words
file_by Groups words = groups_file words

-- a file that the words name is not read for this reason; want of memory is free
abbrev pub IsUnread : List MemFile → List (List ℕ) → FileStop → Type 0
IsUnread files words stops.Memory = Unit {0}
IsUnread files words (stops.NotRead kind) = Faults faults.NotRead (text_at files (file_by kind words))
IsUnread files words (stops.Shared kind) = Faults faults.Shared (text_at files (file_by kind words))
IsUnread files words (stops.Line kind n) = true ≡ false

abbrev pub stop_of : Listed → FileFault → FileStop
stop_of kind faults.NotRead = stops.NotRead kind
stop_of kind faults.Shared = stops.Shared kind
stop_of kind faults.Memory = stops.Memory

-- the texts of the files that the words name
pub record AreTexts (files : List MemFile) (words : List (List ℕ)) (texts : FileTexts) : Type 0 where
  pub users : Holds files (users_file words) texts.users
  pub groups : Holds files (groups_file words) texts.groups
