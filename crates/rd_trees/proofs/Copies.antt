-- The working copies that are seen alike in two repositories are the same.
use Rattle.std.specs.Prelude.{◌≡◌, ℕ, Bool, true, false, ◌&&◌, not, if◌then◌else◌, List, [], ◌∷◌, map, filter, All, Option, Some, None, is_some, unwrap_or, option_map, option_and_then, Ok}
use Rattle.std.specs.List.{list_any}
use Rattle.std.proofs.Common.{refl, sym, ap, ◌∙◌}
use Rattle.std.proofs.lemmas.List.Elements.{All-weaker}
use Rattle.cm_base.specs.declared.number.Oid.{Oid}
use Rattle.cm_base.specs.declared.object.Object.{Object}
use Rattle.cm_base.specs.declared.series.Series.{Series}
use Rattle.cm_base.specs.declared.series.WorkingCopy.{WorkingCopy}
use Rattle.cm_base.specs.declared.cause.Cause.TheVariants as causes
use Rattle.cm_base.specs.Judged.{◌>>◌, refuse}
use Rattle.cm_types.specs.declared.definition.BaseType.TheVariants as bases
use Rattle.cm_types.specs.Types.{is_of_base}
use Rattle.call_parts.specs.declared.place.Place.{Place}
use Rattle.include_parts.specs.declared.readings.ShowCheckedOut.{ShowCheckedOut}
use Rattle.cmis_spec.specs.Repository.{Repository, same, is_a, is_filed, object_at, series_of, owner_of, entry_of}
use Rattle.cmis_spec.specs.Access.{reads, read_at}
use Rattle.cmis_spec.specs.Seen.{SeenObject, seen, seen_object, seen_series, is_read}
use Rattle.cmis_spec.specs.Well.{HasNumbers}
use Rattle.cmis_laws.proofs.Entries.{all_there}
use Rattle.cmis_laws.proofs.Lists.{by_test, same_eq}
use Rattle.cm_see.specs.Addressed.{addressed}
use Rattle.cm_see.proofs.Answers.{addressed_alike, answer_alike}
use Rattle.cm_see.proofs.SeenLists.{any_numbered, filter_seen}
use Rattle.cm_see.proofs.Objects.{IsHere, here_read}
use Rattle.cm_see.proofs.Worlds.{AreAlike, AreFound, IsAlike}
use Rattle.rd_lists.proofs.Among.{numbered_alike, passing_here}
use Rattle.rd_trees.specs.ReadCheckedOut.{answer_checked_out_at, answer_checked_out_in, answer_ordered_copies, copies, is_copy, is_filed_at, page_reply}
use Rattle.rd_include.proofs.Pages.{included_page_alike}
use Rattle.rd_order.proofs.Alike.{answered_alike}

and_true : (b : Bool) → (b && true) ≡ b
and_true true = refl
and_true false = refl

and_false : (b : Bool) → (b && false) ≡ false
and_false true = refl
and_false false = refl

-- ---- a working copy, by what is seen of it

abbrev shows_copy : SeenObject → Bool
shows_copy o = unwrap_or (option_map (λ s. unwrap_or (option_map (λ n. same n o.object.id) s.copy) false) o.series) false

abbrev shows_filed : Option Oid → SeenObject → Bool
shows_filed None o = true
shows_filed (Some f) o = list_any (λ g. same g f) o.folders

abbrev shows : Option Oid → SeenObject → Bool
shows folder o = shows_copy o && shows_filed folder o

-- x is the working copy of its series exactly where it is the one that is seen of it
copy_of_series : (r : Repository) (u : List ℕ) (x : Object) → IsHere r u x → (s : Series) → is_some (option_and_then (λ w. if same w.copy x.id then Some w.owner else None) s.working)
    ≡ unwrap_or (option_map (λ n. same n x.id) (seen_series r u s).copy) false
copy_of_series r u x h s = by s.working
  where
    unread : (b : Bool) (n : Oid) → same n x.id ≡ false → false ≡ unwrap_or (option_map (λ n. same n x.id) (if b then Some n else None)) false
    unread true n e = sym e
    unread false n e = refl

    by : (o : Option WorkingCopy) → is_some (option_and_then (λ w. if same w.copy x.id then Some w.owner else None) o)
        ≡ unwrap_or (option_map (λ n. same n x.id) (option_and_then (λ w. if is_read r u w.copy then Some w.copy else None) o)) false
    by None = refl
    by (Some w) = by_test (same w.copy x.id)
        (λ e.
        let own : read_at r u w.copy ≡ Some x = ap (read_at r u) (same_eq w.copy x.id e) ∙ here_read r u x h in
        rw (own, e) refl)
        (λ e. rw e (unread (is_read r u w.copy) w.copy e))

sees_copy : (r : Repository) (u : List ℕ) (x : Object) → IsHere r u x → is_some (owner_of r x) ≡ shows_copy (seen_object r u x)
sees_copy r u x h = by (series_of r x)
  where
    by : (o : Option Series) → is_some (option_and_then (λ s. option_and_then (λ w. if same w.copy x.id then Some w.owner else None) s.working) o)
        ≡ unwrap_or (option_map (λ s. unwrap_or (option_map (λ n. same n x.id) s.copy) false) (option_map (seen_series r u) o)) false
    by None = refl
    by (Some s) = copy_of_series r u x h s

-- an entry is filed in a folder that is read exactly where the folder is among those that are seen of it
sees_filed : (r : Repository) (u : List ℕ) (f x : Object) → HasNumbers r → IsHere r u f → is_filed_at r (Some f.id) x ≡ shows_filed (Some f.id) (seen_object r u x)
sees_filed r u f x w h = sym (any_numbered (λ y. is_filed r y.id (entry_of x) && reads r u y) f.id r.objects w.0 ∙ rw h.0 (rw h.1 (and_true (is_filed r f.id (entry_of x)))))

-- ---- all working copies, by what is seen

sees_copies : (r : Repository) (u : List ℕ) (folder : Option Oid) → HasNumbers r → ((x : Object) → is_filed_at r folder x ≡ shows_filed folder (seen_object r u x))
    → map (seen_object r u) (copies r u folder) ≡ filter (shows folder) (seen r u).objects
sees_copies r u folder w filed = filter_seen (seen_object r u) (reads r u) (λ x. is_copy r folder x && reads r u x) (shows folder) r.objects
    (λ x e. rw e (and_false (is_copy r folder x)))
    (All-weaker (λ x. object_at r x.id ≡ Some x) (λ x. reads r u x ≡ true → (is_copy r folder x && reads r u x) ≡ shows folder (seen_object r u x))
    (λ x there e. rw e (and_true (is_copy r folder x) ∙ (λ i. sees_copy r u x (there, e) i && filed x i)))
    r.objects (all_there r.objects w.0))

numbers_of : (r : Repository) (u : List ℕ) (xs : List Object) → map (λ s. s.object.id) (map (seen_object r u) xs) ≡ map (λ x. x.id) xs
numbers_of r u [] = refl
numbers_of r u (x ∷ xs) = ap (λ ns. x.id ∷ ns) (numbers_of r u xs)

copies_alike : (r other : Repository) (u : List ℕ) → AreAlike r other u → (folder : Option Oid)
    → ((x : Object) → is_filed_at r folder x ≡ shows_filed folder (seen_object r u x)) → ((x : Object) → is_filed_at other folder x ≡ shows_filed folder (seen_object other u x))
    → AreFound r other u (copies r u folder) (copies other u folder)
copies_alike r other u a folder filed other_filed =
    let e : map (seen_object r u) (copies r u folder) ≡ map (seen_object other u) (copies other u folder) =
    sees_copies r u folder a.well.numbers filed ∙ (ap (λ s. filter (shows folder) s.objects) (sym a.alike) ∙ sym (sees_copies other u folder a.other_well.numbers other_filed)) in
    numbered_alike r other u a (copies r u folder) (copies other u folder)
    (passing_here r u (is_copy r folder) a.well.numbers) (passing_here other u (is_copy other folder) a.other_well.numbers)
    (sym (numbers_of r u (copies r u folder)) ∙ (ap (map (λ s. s.object.id)) e ∙ numbers_of other u (copies other u folder)))

-- ---- the answers

page_alike : (r other : Repository) (u : List ℕ) → AreAlike r other u → (q : ShowCheckedOut) (xs : List Object) → All (IsAlike r other u) xs → page_reply r u q xs ≡ page_reply other u q xs
page_alike r other u a q xs each =
    included_page_alike r other u a q.checked_out.filter q.checked_out.succinct q.includes q.checked_out.skip_count q.checked_out.max_items xs xs (record { same = refl; each = each })

ordered_alike : (r other : Repository) (u : List ℕ) → AreAlike r other u → (q : ShowCheckedOut) (folder : Option Oid) → AreFound r other u (copies r u folder) (copies other u folder)
    → answer_ordered_copies r u q folder ≡ answer_ordered_copies other u q folder
ordered_alike r other u a q folder found =
    answered_alike r other u a q.order (λ xs. Ok (page_reply r u q xs)) (λ xs. Ok (page_reply other u q xs))
    (λ zs each. ap (λ y. Ok y) (page_alike r other u a q zs each))
    (copies r u folder) (copies other u folder) found

in_folder_alike : (r other : Repository) (u : List ℕ) → AreAlike r other u → (q : ShowCheckedOut) (x : Object) → IsAlike r other u x → answer_checked_out_in r u q x ≡ answer_checked_out_in other u q x
in_folder_alike r other u a q x h =
    ap (λ ts. refuse causes.WrongKind (not (is_of_base ts bases.Folder x.kind)) >> answer_ordered_copies r u q (Some x.id)) (sym (ap (λ s. s.types) a.alike))
    ∙ ap (λ y. refuse causes.WrongKind (not (is_a other bases.Folder x)) >> y)
    (ordered_alike r other u a q (Some x.id)
    (copies_alike r other u a (Some x.id) (λ y. sees_filed r u x y a.well.numbers h.here) (λ y. sees_filed other u x y a.other_well.numbers h.there)))

pub checked_out_alike : (r other : Repository) (u : List ℕ) → AreAlike r other u → (q : ShowCheckedOut) (place : Option Place) → answer_checked_out_at r u q place ≡ answer_checked_out_at other u q place
checked_out_alike r other u a q None = ordered_alike r other u a q None (copies_alike r other u a None (λ x. refl) (λ x. refl))
checked_out_alike r other u a q (Some place) = answer_alike r other u causes.NotFound (addressed r u place) (addressed other u place)
    (answer_checked_out_in r u q) (answer_checked_out_in other u q)
    (addressed_alike r other u place a) (in_folder_alike r other u a q)
