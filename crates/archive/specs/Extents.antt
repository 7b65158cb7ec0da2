-- Where the bytes of an extent stand.
use Rattle.std.specs.Prelude.{◌≡◌, ◌+◌, ◌<◌, ◌≤◌, ◌^◌, ℕ, List, length, take, drop, IfSome}
use Rattle.std.specs.declared.option.Option.{Option}

-- so many bytes from this place on are places of a file; and where the archive tells its bytes, places of these
pub record IsWithin (told : Option (List ℕ)) (place len : ℕ) : Type 0 where
  pub fits : place + len < 2 ^ 63
  pub within : IfSome told (λ all. place + len ≤ length all)

-- they are so many; and where the archive tells its bytes, they are those from the place on
pub record Stands (told : Option (List ℕ)) (place len : ℕ) (bytes : List ℕ) : Type 0 where
  pub counted : len ≡ length bytes
  pub inside : IsWithin told place len
  pub there : IfSome told (λ all. take len (drop place all) ≡ bytes)
