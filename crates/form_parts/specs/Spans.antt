-- Places in a body.
use Rattle.std.specs.Prelude.{ℕ, ◌-◌, ◌≤◌, List, length, take, drop}
use Rattle.form_parts.specs.declared.span.Span.{Span}

-- the bytes at a place
abbrev pub bytes_of : List ℕ → Span → List ℕ
bytes_of body span = take (span.to - span.from) (drop span.from body)

pub record IsWithin (body : List ℕ) (span : Span) : Type 0 where
  pub ordered : span.from ≤ span.to
  pub within : span.to ≤ length body
