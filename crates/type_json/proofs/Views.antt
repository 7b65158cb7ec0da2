-- Arrays and objects seen as lists.
use Rattle.std.proofs.Common.{◌≡◌, ◌∙◌, sym, ◌+◌, ◌<◌, Bool, ◌||◌, List, [], ◌∷◌, ◌++◌, map, take, length, get_or, refl, ap}
use Rattle.std.specs.Prelude.{ℕ, Option, filter_map, string_bytes, String}
use Rattle.std.proofs.lemmas.List.{take_more, map-append}
use Rattle.std.proofs.lemmas.List.Elements.{filter_map-append}
use Rattle.std.specs.List.{list_any}
use Rattle.std.specs.declared.alloc.Global.{Global}
use Rattle.serde_json.specs.Data.{Data}
use Rattle.serde_json.specs.View.{view, items_view, members_view}
use Rattle.serde_json.specs.declared.value.Value.{Value}
use Rattle.type_keys.specs.Keys.{list_of, pairs_of}

pub list_view : (vs : List Value) → list_of (items_view vs) ≡ map view vs
list_view [] = refl
list_view (v ∷ vs) = ap (λ ds. view v ∷ ds) (list_view vs)

pub map_members : {A : Type 0} (f : List ℕ × Data → A) (ms : List (String Global × Value)) → map f (pairs_of (members_view ms)) ≡ map (λ m. f (string_bytes m.0, view m.1)) ms
map_members f [] = refl
map_members f (m ∷ ms) = ap (λ l. f (string_bytes m.0, view m.1) ∷ l) (map_members f ms)

pub any_members : (p : List ℕ × Data → Bool) (ms : List (String Global × Value)) → list_any p (pairs_of (members_view ms)) ≡ list_any (λ m. p (string_bytes m.0, view m.1)) ms
any_members p [] = refl
any_members p (m ∷ ms) = ap (λ b. p (string_bytes m.0, view m.1) || b) (any_members p ms)

-- one more value, where its function gives something
pub kept_more : {A : Type 0} (f : Data → Option A) (vs : List Value) (i : ℕ) (d : Value) → i < length vs
    → filter_map f (map view (take (i + 1) vs)) ≡ filter_map f (map view (take i vs)) ++ filter_map f (view (get_or vs i d) ∷ [])
kept_more f vs i d lt =
    ap (λ l. filter_map f (map view l)) (take_more vs i d lt)
    ∙ ap (filter_map f) (map-append view (take i vs) (get_or vs i d ∷ []))
    ∙ filter_map-append f (map view (take i vs)) (view (get_or vs i d) ∷ [])

-- a list that has what the first values give has, with what the next one gives, what one value more gives
pub kept_step : {A : Type 0} (f : Data → Option A) (vs : List Value) (i : ℕ) (d : Value) (old new : List A)
    → i < length vs → d ≡ get_or vs i d → old ≡ filter_map f (map view (take i vs)) → new ≡ old ++ filter_map f (view d ∷ [])
    → new ≡ filter_map f (map view (take (i + 1) vs))
kept_step f vs i d old new lt is before added =
    added
    ∙ ap (λ l. l ++ filter_map f (view d ∷ [])) before
    ∙ ap (λ x. filter_map f (map view (take i vs)) ++ filter_map f (view x ∷ [])) is
    ∙ sym (kept_more f vs i d lt)
