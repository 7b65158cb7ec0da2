-- The bytes that were read and not used, and what one more read adds to them.
use Rattle.std.specs.Prelude.{◌≡◌, ℕ, ◌<◌, Bool, true, false, List, ◌++◌, length, slice_range, Result, Ok, Err, []}
use Rattle.outside.specs.Outside.{SourceTold, Gave, Rose}
use Rattle.http_wire.specs.declared.window.Window.{Window}
use Rattle.http_wire.specs.declared.fault.WireStop.{WireStop}
use Rattle.http_wire.specs.declared.fault.WireStop.TheVariants.{Bad, ReadFault, Memory}

-- the bytes of a window
abbrev pub held : Window → List ℕ
held w = slice_range w.bytes.items w.start w.end

-- of one more read: the bytes that came, or the end
abbrev pub More : List ℕ → List ℕ → SourceTold → SourceTold → Result Bool WireStop → Type 0
More before after old new (Ok true) = (got : List ℕ) × (after ≡ before ++ got) × (0 < length got) × Gave old new got
More before after old new (Ok false) = (after ≡ before) × (new.ended ≡ true) × Gave old new []
More before after old new (Err ReadFault) = (after ≡ before) × Rose old.faults new.faults × Gave old new []
More before after old new (Err Memory) = (after ≡ before) × Gave old new []
More before after old new (Err (Bad fault)) = ⊥
