-- Lists of objects that are seen alike.
use Rattle.std.specs.Prelude.{◌≡◌, ℕ, ◌&&◌, Bool, List, [], ◌∷◌, true, length, map, filter, All, Option, Some, None, Ok}
use Rattle.std.specs.List.{filter_map}
use Rattle.core.specs.List.{cons_option}
use Rattle.std.proofs.Common.{refl, sym, ap, subst, ◌∙◌}
use Rattle.std.proofs.lemmas.Bool.{and_parts}
use Rattle.std.proofs.lemmas.List.Elements.{All-nil, All-cons, All-head, All-tail, All-weaker, All-filter, filter_passes}
use Rattle.cm_base.specs.declared.number.Oid.{Oid}
use Rattle.cm_base.specs.declared.object.Object.{Object}
use Rattle.cm_base.specs.declared.cause.Cause.TheVariants as causes
use Rattle.cm_base.specs.Judged.{◌>>◌, refuse}
use Rattle.call_parts.specs.declared.readings.PropertyFilter.{PropertyFilter}
use Rattle.cmis_spec.specs.Repository.{Repository, object_at}
use Rattle.cmis_spec.specs.Access.{reads, read_at}
use Rattle.cmis_spec.specs.Well.{HasNumbers}
use Rattle.cmis_laws.proofs.Lists.{all_zip}
use Rattle.cmis_laws.proofs.Entries.{all_there}
use Rattle.cm_see.specs.Shown.{shown_object}
use Rattle.cm_see.proofs.SeenLists.{map_same}
use Rattle.cm_see.proofs.Objects.{IsHere, here_read}
use Rattle.cm_see.proofs.SeenShown.{shown_alike}
use Rattle.cm_see.proofs.Worlds.{AreAlike, AreFound, IsAlike, IsFound, read_at_alike}
use Rattle.rd_lists.specs.Listed.{is_too_long, objects_reply}

-- what is read is found by its number
again : (r : Repository) (u : List ℕ) (xs : List Object) → All (IsHere r u) xs → filter_map (read_at r u) (map (λ x. x.id) xs) ≡ xs
again r u [] h = refl
again r u (x ∷ xs) h = rw (here_read r u x (All-head (IsHere r u) x xs h)) (ap (λ ys. x ∷ ys) (again r u xs (All-tail (IsHere r u) x xs h)))

-- what passes a test, and is read
pub passing_here : (r : Repository) (u : List ℕ) (q : Object → Bool) → HasNumbers r → All (IsHere r u) (filter (λ x. q x && reads r u x) r.objects)
passing_here r u q w = all_zip (λ y. object_at r y.id ≡ Some y) (λ y. q y && reads r u y ≡ true) (IsHere r u) (filter (λ x. q x && reads r u x) r.objects)
    (λ y there p. (there, (and_parts (q y) (reads r u y) p).1))
    (All-filter (λ x. q x && reads r u x) (λ y. object_at r y.id ≡ Some y) r.objects (all_there r.objects w.0))
    (filter_passes (λ x. q x && reads r u x) r.objects)

module _ (r other : Repository) (u : List ℕ) (a : AreAlike r other u) where
  -- numbers name the same objects in both
  pub among_alike : (ns : List Oid) → AreFound r other u (filter_map (read_at r u) ns) (filter_map (read_at other u) ns)
  among_alike [] = record { same = refl; each = All-nil (IsAlike r other u) }
  among_alike (n ∷ ns) = by (read_at r u n) (read_at other u n) (read_at_alike r other u n a) (among_alike ns)
    where
      by : (o p : Option Object) → IsFound r other u o p → AreFound r other u (filter_map (read_at r u) ns) (filter_map (read_at other u) ns)
          → AreFound r other u (cons_option o (filter_map (read_at r u) ns)) (cons_option p (filter_map (read_at other u) ns))
      by None p f rest = record { same = ap (λ q. cons_option q (filter_map (read_at r u) ns)) f.same ∙ ap (cons_option p) rest.same; each = rest.each }
      by (Some x) p f rest = record {
        same = ap (λ q. cons_option q (filter_map (read_at r u) ns)) f.same ∙ ap (cons_option p) rest.same;
        each = All-cons (IsAlike r other u) x (filter_map (read_at r u) ns) (f.each x refl) rest.each;
      }

  -- what is read in both, and has the same numbers, is the same
  pub numbered_alike : (xs ys : List Object) → All (IsHere r u) xs → All (IsHere other u) ys → map (λ x. x.id) xs ≡ map (λ y. y.id) ys → AreFound r other u xs ys
  numbered_alike xs ys here there e =
      let found = among_alike (map (λ x. x.id) xs) in
      let at : filter_map (read_at r u) (map (λ x. x.id) xs) ≡ xs = again r u xs here in
      let beside : filter_map (read_at other u) (map (λ x. x.id) xs) ≡ ys = ap (filter_map (read_at other u)) e ∙ again other u ys there in
      record { same = sym at ∙ (found.same ∙ beside); each = subst (All (IsAlike r other u)) at found.each }

  -- objects that are seen alike are shown alike
  pub all_shown_alike : (f : PropertyFilter) (succinct : Bool) (xs : List Object) → All (IsAlike r other u) xs → map (shown_object r u f succinct) xs ≡ map (shown_object other u f succinct) xs
  all_shown_alike f succinct xs each = map_same (shown_object r u f succinct) (shown_object other u f succinct) xs
      (All-weaker (IsAlike r other u) (λ x. shown_object r u f succinct x ≡ shown_object other u f succinct x) (λ x h. shown_alike r other u a x h f succinct) xs each)

  pub objects_alike : (f : PropertyFilter) (succinct : Bool) (xs ys : List Object) → AreFound r other u xs ys → objects_reply r u f succinct xs ≡ objects_reply other u f succinct ys
  objects_alike f succinct xs ys found =
      ap (λ shown. refuse (causes.TooMany (length xs)) (is_too_long (length xs)) >> Ok (record { objects = shown })) (all_shown_alike f succinct xs found.each)
      ∙ ap (objects_reply other u f succinct) found.same
