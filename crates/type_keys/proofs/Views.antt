-- Arrays and objects seen as lists.
use Rattle.std.proofs.Common.{◌≡◌, Bool, ◌&&◌, List, [], ◌∷◌, refl, ap}
use Rattle.std.specs.Prelude.{ℕ, string_bytes, String}
use Rattle.std.specs.List.{list_all}
use Rattle.std.specs.declared.alloc.Global.{Global}
use Rattle.serde_json.specs.Data.{Data}
use Rattle.serde_json.specs.View.{view, items_view, members_view}
use Rattle.serde_json.specs.declared.value.Value.{Value}
use Rattle.type_keys.specs.Keys.{list_of, pairs_of}

pub all_view : (p : Data → Bool) (vs : List Value) → list_all p (list_of (items_view vs)) ≡ list_all (λ v. p (view v)) vs
all_view p [] = refl
all_view p (v ∷ vs) = ap (λ b. p (view v) && b) (all_view p vs)

pub all_members : (p : List ℕ × Data → Bool) (ms : List (String Global × Value)) → list_all p (pairs_of (members_view ms)) ≡ list_all (λ m. p (string_bytes m.0, view m.1)) ms
all_members p [] = refl
all_members p (m ∷ ms) = ap (λ b. p (string_bytes m.0, view m.1) && b) (all_members p ms)
