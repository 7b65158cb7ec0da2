-- What stays where people grow.
use Rattle.std.specs.Prelude.{◌≡◌, ℕ, Bool, true, false, ◌&&◌, not, if◌then◌else◌, List, [], ◌∷◌, find, is_none, bytes_eq}
use Rattle.std.proofs.Common.{refl, sym, subst}
use Rattle.std.proofs.lemmas.Bool.{both_ways}
use Rattle.std.proofs.lemmas.Slice.Eq.{bytes_eq-Decides}
use Rattle.cmis_spec.specs.Repository.{administrator_of}
use Rattle.cmis_spec.specs.Well.{is_user}
use Rattle.journal_start.specs.declared.meeting.Meeting.TheVariants.{Same, Changed, Refused}
use Rattle.journal_people.specs.Told.{PeopleTold}
use Rattle.journal_people.specs.Meetings.{same_people, same_administrator, lacking, growing}

by_test : {G : Type 0} (b : Bool) → (b ≡ true → G) → (b ≡ false → G) → G
by_test {G} b f g = elim b as (λ c. b ≡ c → G) [ true ↦ f | false ↦ g ] refl

-- who changes has passed both tests
changes : (same grows lost : Bool) → (if same then Same else if grows && lost then Changed else Refused) ≡ Changed → (grows ≡ true) × (lost ≡ true)
changes true grows lost h = absurd cc
changes false true true h = (refl, refl)
changes false true false h = absurd cc
changes false false lost h = absurd cc

pub administrator_stays : (kept asked : PeopleTold) → growing kept asked ≡ Changed → administrator_of kept.names ≡ administrator_of asked.names
administrator_stays kept asked h =
    (bytes_eq-Decides (administrator_of kept.names) (administrator_of asked.names)).0
    (changes (same_people kept asked) (same_administrator kept asked) (is_none (lacking kept asked)) h).0

-- each name passes a test that the first name to fail would have failed
passes : (others names : List (List ℕ)) (name : List ℕ) → is_none (find (λ n. not (is_user others n)) names) ≡ true → is_user names name ≡ true → is_user others name ≡ true
passes others [] name none h = absurd (both_ways false refl h)
passes others (n ∷ ns) name none h = by_test (is_user others n)
    (λ has. by_test (bytes_eq name n)
    (λ e. subst (λ m. is_user others m ≡ true) (sym ((bytes_eq-Decides name n).0 e)) has)
    (λ e. passes others ns name (rw has at none) (rw e at h)))
    (λ lacks. absurd (both_ways false refl (rw lacks at none)))

pub users_stay : (kept asked : PeopleTold) (name : List ℕ) → growing kept asked ≡ Changed → is_user kept.names name ≡ true → is_user asked.names name ≡ true
users_stay kept asked name h =
    passes asked.names kept.names name (changes (same_people kept asked) (same_administrator kept asked) (is_none (lacking kept asked)) h).1
