-- Who sees an event of an object that is gone, before and after other people came.
use Rattle.std.specs.Prelude.{◌≡◌, ℕ, suc, ◌+◌, Bool, true, false, ◌&&◌, List, [], ◌∷◌, ◌++◌, length, map, find, slice_index_or, Option, None, option_map, unwrap_or, bytes_eq}
use Rattle.std.proofs.Common.{refl, sym, ap, ◌∙◌, arith}
use Rattle.std.proofs.lemmas.Bool.{both_ways}
use Rattle.std.proofs.lemmas.Slice.Eq.{bytes_eq-Decides}
use Rattle.cm_base.specs.declared.log.Change.{Change}
use Rattle.cm_base.specs.declared.number.Oid.{Oid}
use Rattle.cmis_spec.specs.Repository.{Repository, object_at, same}
use Rattle.cmis_spec.specs.Access.{reads}
use Rattle.cmis_spec.specs.Seen.{is_deletion, is_deletion_of, is_visible, kept_readers, marked, place_among}
use Rattle.cmis_spec.specs.Well.{is_user}
use Rattle.cmis_laws.proofs.Lists.{by_test, bytes_turned, find_yes, find_no}
use Rattle.journal_people.specs.Told.{PeopleTold}
use Rattle.cm_people.specs.Adopted.{adopted, event_for, marks_for}

-- ---- one list of marks

-- nobody else stands behind the users
no_user : (users : List (List ℕ)) (u : List ℕ) → is_user users u ≡ false → place_among users u ≡ length users
no_user [] u h = refl
no_user (v ∷ vs) u h = by_test (bytes_eq u v)
    (λ e. absurd (both_ways true (rw e at h) refl))
    (λ e. rw (bytes_turned u v e) (omega (arith, no_user vs u (rw e at h))))

-- behind one more
later : {A : Type 0} (x : A) (xs : List A) (n : ℕ) (d : A) → slice_index_or (x ∷ xs) (n + 1) d ≡ slice_index_or xs n d
later x xs n d =
    let more : n + 1 ≡ suc n = omega arith in
    ap (λ (k : ℕ). slice_index_or (x ∷ xs) k d) more

-- where a list has for each name what a function gives, and one more for anybody else
each_has : {A : Type 0} (f : List ℕ → A) (other d : A) (names : List (List ℕ)) (u : List ℕ) → (is_user names u ≡ false → other ≡ f u)
    → slice_index_or (map f names ++ other ∷ []) (place_among names u) d ≡ f u
each_has f other d [] u h = h refl
each_has f other d (n ∷ ns) u h = by_test (bytes_eq n u)
    (λ e. rw e (ap f ((bytes_eq-Decides n u).0 e)))
    (λ e. rw e (later (f n) (map f ns ++ other ∷ []) (place_among ns u) d ∙ each_has f other d ns u (λ none. h (rw (bytes_turned n u e) none))))

-- a user's mark stays, and so does that of anybody else
mark_stays : (users names : List (List ℕ)) (marks : List Bool) (u : List ℕ) → ((v : List ℕ) → is_user users v ≡ true → is_user names v ≡ true)
    → marked (marks_for users names marks) (place_among names u) ≡ marked marks (place_among users u)
mark_stays users names marks u stay =
    each_has (λ name. marked marks (place_among users name)) (marked marks (length users)) false names u
    (λ none. ap (marked marks) (sym (no_user users u (by_test (is_user users u) (λ e. absurd (both_ways (is_user names u) none (stay u e))) (λ e. e)))))

-- ---- the log

abbrev readers_in : List Change → Oid → List Bool
readers_in log n = unwrap_or (option_map (λ c. c.readers) (find (is_deletion_of n) log)) []

same_event : (users names : List (List ℕ)) (c : Change) (n : Oid) (b : Bool) → is_deletion c.kind ≡ b → is_deletion_of n (event_for users names c) ≡ is_deletion_of n c
same_event users names c n true e = rw e (rw e refl)
same_event users names c n false e = rw e (rw e refl)

readers_of_deletion : (users names : List (List ℕ)) (c : Change) → is_deletion c.kind ≡ true → (event_for users names c).readers ≡ marks_for users names c.readers
readers_of_deletion users names c e = rw e refl

first_both : (a b : Bool) → a && b ≡ true → a ≡ true
first_both true b h = refl
first_both false b h = h

log_stays : (users names : List (List ℕ)) (u : List ℕ) → ((v : List ℕ) → is_user users v ≡ true → is_user names v ≡ true) → (log : List Change) (n : Oid)
    → marked (readers_in (map (event_for users names) log) n) (place_among names u) ≡ marked (readers_in log n) (place_among users u)
log_stays users names u stay [] n = refl
log_stays users names u stay (c ∷ cs) n =
    let alike = same_event users names c n (is_deletion c.kind) refl in
    by_test (is_deletion_of n c)
    (λ e. ap (λ (o : Option Change). marked (unwrap_or (option_map (λ x. x.readers) o) []) (place_among names u)) (find_yes (is_deletion_of n) (event_for users names c) (map (event_for users names) cs) (alike ∙ e))
    ∙ (ap (λ (marks : List Bool). marked marks (place_among names u)) (readers_of_deletion users names c (first_both (is_deletion c.kind) (same c.object n) e))
    ∙ (mark_stays users names c.readers u stay
    ∙ sym (ap (λ (o : Option Change). marked (unwrap_or (option_map (λ x. x.readers) o) []) (place_among users u)) (find_yes (is_deletion_of n) c cs e)))))
    (λ e. ap (λ (o : Option Change). marked (unwrap_or (option_map (λ x. x.readers) o) []) (place_among names u)) (find_no (is_deletion_of n) (event_for users names c) (map (event_for users names) cs) (alike ∙ e))
    ∙ (log_stays users names u stay cs n
    ∙ sym (ap (λ (o : Option Change). marked (unwrap_or (option_map (λ x. x.readers) o) []) (place_among users u)) (find_no (is_deletion_of n) c cs e))))

pub events_are_seen : (r : Repository) (people : PeopleTold) (u : List ℕ) (c : Change) → ((v : List ℕ) → is_user r.users v ≡ true → is_user people.names v ≡ true)
    → object_at r c.object ≡ None → is_visible (adopted r people) u c ≡ is_visible r u c
events_are_seen r people u c stay gone =
    ap (λ o. unwrap_or (option_map (reads (adopted r people) u) o) (marked (kept_readers (adopted r people) c.object) (place_among people.names u))) gone
    ∙ (log_stays r.users people.names u stay r.log c.object
    ∙ sym (ap (λ o. unwrap_or (option_map (reads r u) o) (marked (kept_readers r c.object) (place_among r.users u))) gone))
