-- A page of what references show is the page of what they stand for.
use Rattle.std.specs.Prelude.{◌≡◌, ℕ, List, map, take, drop}
use Rattle.std.proofs.Common.{sym, ap, ◌∙◌}
use Rattle.std.proofs.lemmas.List.{take-map, drop-map}
use Rattle.rd_nav.specs.ReadChildren.{page, page_size}

pub page_mapped : {A B : Type 0} (f : A → B) (skip asked : ℕ) (xs : List A) → map f (page skip asked xs) ≡ page skip asked (map f xs)
page_mapped f skip asked xs = sym (take-map f (page_size asked) (drop skip xs)) ∙ ap (take (page_size asked)) (sym (drop-map f skip xs))
