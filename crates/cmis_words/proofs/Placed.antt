-- A group put in its place among others.
use Rattle.std.specs.Prelude.{◌≡◌, ℕ, ◌+◌, true, false, List, ◌∷◌}
use Rattle.std.specs.List.{insert}
use Rattle.core.specs.Ordering.{nat_cmp, is_lt}
use Rattle.core.specs.Cmp.Lexicographic.{slice_cmp}
use Rattle.std.proofs.Common.{refl, ap, add-one}
use Rattle.cm_base.specs.declared.user.Group.{Group}
use Rattle.cmis_words.specs.GroupLists.{put_group}

pub placed_here : (h : Group) (hs : List Group) (g : Group) → is_lt (slice_cmp nat_cmp g.name h.name) ≡ true → put_group (h ∷ hs) g ≡ insert (h ∷ hs) 0 g
placed_here h hs g e = rw e refl

pub placed_later : (h : Group) (hs : List Group) (g : Group) (i : ℕ) → is_lt (slice_cmp nat_cmp g.name h.name) ≡ false → put_group hs g ≡ insert hs i g → put_group (h ∷ hs) g ≡ insert (h ∷ hs) (i + 1) g
placed_later h hs g i e p = rw (e, add-one) (ap (λ l. h ∷ l) p)
