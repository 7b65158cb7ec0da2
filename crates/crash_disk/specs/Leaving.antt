-- What of a file outlives a crash.
use Rattle.std.specs.Prelude.{◌≡◌, ℕ, ◌<◌, false, List, slice_index}
use Rattle.disk.specs.Crashes.{is_within}

-- each byte before this place that was synced and lies in none of the ranges
pub record Stays (synced : List ℕ) (written : List (ℕ × ℕ)) (end : ℕ) (left : List ℕ) : Type 0 where
  pub stays : (place : ℕ) → place < end → is_within written place ≡ false → slice_index left place ≡ slice_index synced place
