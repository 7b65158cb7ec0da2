-- One more of the objects that are shown.
use Rattle.std.proofs.Common.{◌≡◌, ◌∙◌, ℕ, ◌+◌, ◌<◌, List, [], ◌∷◌, ◌++◌, map, take, length, get_or, sym, ap}
use Rattle.std.proofs.lemmas.List.{map-append, take_more}
use denote.Ref.{Bor}
use Rattle.cm_map.specs.Parts.{pointee}
use Rattle.cm_base.specs.declared.object.Object.{Object}

seen_more : (xs : List (Bor Object)) (i : ℕ) (x : Bor Object) → i < length xs → x ≡ get_or xs i x → map pointee (take (i + 1) xs) ≡ map pointee (take i xs) ++ x.now ∷ []
seen_more xs i x lt is = ap (map pointee) (take_more xs i x lt ∙ ap (λ y. take i xs ++ y ∷ []) (sym is)) ∙ map-append pointee (take i xs) (x ∷ [])

pub shown_more : {B : Type 0} (f : Object → B) (xs : List (Bor Object)) (i : ℕ) (x : Bor Object) (before after : List B) (y : B) → i < length xs → x ≡ get_or xs i x
    → before ≡ map f (map pointee (take i xs)) → after ≡ before ++ y ∷ [] → y ≡ f x.now → after ≡ map f (map pointee (take (i + 1) xs))
shown_more f xs i x before after y lt is b a e =
    a ∙ ((λ k. b k ++ e k ∷ []) ∙ sym (ap (map f) (seen_more xs i x lt is) ∙ map-append f (map pointee (take i xs)) (x.now ∷ [])))
