-- How a run over a journal ends that is damaged, another's, or not kept: its status, and the line that says what is wrong and what to do.
use Rattle.std.specs.Prelude.{◌≡◌, ◌⊎◌, ℕ, List, [], ◌∷◌, ◌++◌, codes, decimal, Option, Some, None}
use Rattle.outside.specs.Outside.{SinkTold, Took, Rose}
use Rattle.http_reply.specs.Sent.{TookFront}
use Rattle.file_disk.specs.declared.reason.Reason.{Reason}
use Rattle.file_disk.specs.declared.reason.Reason.TheVariants as reasons
use Rattle.keep_status.specs.declared.why.WhyUnkept.{WhyUnkept}
use Rattle.keep_status.specs.declared.why.WhyUnkept.TheVariants.{InUse, NotOpened, NotRead, NotWritten, NotSynced, Memory, Other}

-- the status is the one that is due; the line was written, or the output failed in this call, and a front of it was written
abbrev pub Told : ℕ → List ℕ → SinkTold → SinkTold → ℕ → Type 0
Told due line empty full status = (status ≡ due) × (Took empty full line ⊎ Rose empty.faults full.faults × TookFront empty full line)

-- a journal that is damaged behind so many entries
abbrev pub damaged : ℕ → List ℕ
damaged entries = codes "journal is damaged at " ++ (decimal entries ++ 10 ∷ [])

-- a journal of a user whom the words don't have
abbrev pub lacking : List ℕ → List ℕ
lacking name = codes "journal has a user that the words lack: " ++ (name ++ 10 ∷ [])

-- a journal whose administrator is another one than the words'
abbrev pub administrator : List ℕ → List ℕ
administrator name = codes "journal has another administrator: " ++ (name ++ 10 ∷ [])

-- a journal that can't be kept
abbrev pub unkept : WhyUnkept → List ℕ
unkept InUse = codes "journal is in use" ++ 10 ∷ []
unkept NotOpened = codes "journal can't be opened: see its name, its folder and their rights" ++ 10 ∷ []
unkept NotRead = codes "journal can't be read: see the device" ++ 10 ∷ []
unkept NotWritten = codes "journal can't be written: see the room on the device and the limits on the size of a file" ++ 10 ∷ []
unkept NotSynced = codes "journal can't be brought to the device: see the device, and start again" ++ 10 ∷ []
unkept Memory = codes "journal can't be kept for want of memory: start again" ++ 10 ∷ []
unkept Other = codes "journal can't be kept: start again" ++ 10 ∷ []

-- the reason that the file told, if it told one
abbrev pub why_of : Option Reason → WhyUnkept
why_of None = Other
why_of (Some reasons.InUse) = InUse
why_of (Some reasons.NotOpened) = NotOpened
why_of (Some reasons.NotRead) = NotRead
why_of (Some reasons.NotWritten) = NotWritten
why_of (Some reasons.NotSynced) = NotSynced
why_of (Some reasons.Memory) = Memory
