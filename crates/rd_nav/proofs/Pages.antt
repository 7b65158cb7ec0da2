-- A page of what a list shows, and the page that is shown alike.
use Rattle.std.specs.Prelude.{◌≡◌, ℕ, List, map, take, drop, All}
use Rattle.std.proofs.Common.{sym, ap, ◌∙◌}
use Rattle.std.proofs.lemmas.List.{take-map, drop-map}
use Rattle.cm_see.proofs.SeenLists.{map_same}
use Rattle.rd_nav.specs.ReadChildren.{page, page_size}

pub page_mapped : {A B : Type 0} (f : A → B) (skip asked : ℕ) (xs : List A) → map f (page skip asked xs) ≡ page skip asked (map f xs)
page_mapped f skip asked xs = sym (take-map f (page_size asked) (drop skip xs)) ∙ ap (take (page_size asked)) (sym (drop-map f skip xs))

-- what shows each item alike shows each page alike
pub page_alike : {A B : Type 0} (f g : A → B) (skip asked : ℕ) (xs : List A) → All (λ x. f x ≡ g x) xs → map f (page skip asked xs) ≡ map g (page skip asked xs)
page_alike f g skip asked xs h = page_mapped f skip asked xs ∙ (ap (page skip asked) (map_same f g xs h) ∙ sym (page_mapped g skip asked xs))
