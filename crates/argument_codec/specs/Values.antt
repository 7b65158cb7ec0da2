-- The encodings of what calls hold.
use Rattle.std.proofs.Common.{◌≡◌, refl, List, ℕ, Option, Some, None, Bool}
use Rattle.std.specs.Prelude.{codes, bytes_eq, if◌then◌else◌}
use Rattle.cm_base.specs.States.{state_word, state_of_word}
use Rattle.cm_base.specs.declared.series.VersioningState.{VersioningState}
use Rattle.cm_base.specs.declared.series.VersioningState.TheVariants as states
use Rattle.cm_types.specs.declared.given.Given.{Given}
use Rattle.call_parts.specs.declared.writes.AceRequest.{AceRequest}
use Rattle.call_parts.specs.declared.stream.GivenStream.{GivenStream}
use Rattle.create_parts.specs.declared.writes.ObjectRequest.{ObjectRequest}
use Rattle.bulk_parts.specs.declared.writes.ObjectIdAndChangeToken.{ObjectIdAndChangeToken}
use Rattle.access_parts.specs.declared.writes.Propagation.{Propagation}
use Rattle.access_parts.specs.declared.writes.Propagation.TheVariants as propagations
use Rattle.delete_tree_parts.specs.declared.writes.UnfileObjects.{UnfileObjects}
use Rattle.delete_tree_parts.specs.declared.writes.UnfileObjects.TheVariants as unfiles
use Rattle.byte_codec.specs.Codecs.{Codec}
use Rattle.byte_codec.specs.Parts.{both, via, Narrows, narrow, flag, optional}
use Rattle.byte_codec.specs.Numbers.{text, bytes, word_step, Any}
use Rattle.byte_codec.specs.Runs.{list}
use Rattle.byte_codec.specs.Base.{media}

abbrev pub given : Codec Given
given = via (λ g. (g.id, (g.texts, g.several))) (λ t. record { id = t.0; texts = t.1.0; several = t.1.1 }) (λ g. refl) (λ t. refl)
    (both text (both (list text) flag))

abbrev pub ace : Codec AceRequest
ace = via (λ a. (a.principal, a.permissions)) (λ t. record { principal = t.0; permissions = t.1 }) (λ a. refl) (λ t. refl) (both text (list text))

abbrev pub stream : Codec GivenStream
stream = via (λ s. (s.kind, (s.file, s.pieces))) (λ t. record { kind = t.0; file = t.1.0; pieces = t.1.1 }) (λ s. refl) (λ t. refl)
    (both media (both (optional text) bytes))

abbrev pub identified : Codec ObjectIdAndChangeToken
identified = via (λ o. (o.id, o.token)) (λ t. record { id = t.0; token = t.1 }) (λ o. refl) (λ t. refl) (both text (optional text))

-- What every call that makes an object gives of it: properties, policies, entries to add and entries to take off.
abbrev pub made : Codec (List Given × (List (List ℕ) × (List AceRequest × List AceRequest)))
made = both (list given) (both (list text) (both (list ace) (list ace)))

abbrev pub object_of : List Given → List (List ℕ) → List AceRequest → List AceRequest → ObjectRequest
object_of properties policies add remove = record { properties = properties; policies = policies; add = add; remove = remove }

abbrev pub object : Codec ObjectRequest
object = via (λ o. (o.properties, (o.policies, (o.add, o.remove)))) (λ t. record { properties = t.0; policies = t.1.0; add = t.1.1.0; remove = t.1.1.1 }) (λ o. refl) (λ t. refl) made

-- ---- words

pub state_words : Narrows text state_word state_of_word Any
state_words = record {
  forth = elim [ states.None ↦ λ h. refl | states.CheckedOut ↦ λ h. refl | states.Minor ↦ λ h. refl | states.Major ↦ λ h. refl ];
  back = λ y x fits e. (word_step state_word y states.None x _ (word_step state_word y states.CheckedOut x _ (word_step state_word y states.Minor x _ (word_step state_word y states.Major x _ (λ n. absurd cc)))) e, tt);
}

abbrev pub state : Codec VersioningState
state = narrow state_word state_of_word Any text state_words

abbrev pub propagation_word : Propagation → List ℕ
propagation_word propagations.RepositoryDetermined = codes "repositorydetermined"
propagation_word propagations.ObjectOnly = codes "objectonly"
propagation_word propagations.Propagate = codes "propagate"

abbrev pub propagation_of : List ℕ → Option Propagation
propagation_of word =
    if bytes_eq word (propagation_word propagations.RepositoryDetermined) then Some propagations.RepositoryDetermined
    else if bytes_eq word (propagation_word propagations.ObjectOnly) then Some propagations.ObjectOnly
    else if bytes_eq word (propagation_word propagations.Propagate) then Some propagations.Propagate
    else None

pub propagation_words : Narrows text propagation_word propagation_of Any
propagation_words = record {
  forth = elim [ propagations.RepositoryDetermined ↦ λ h. refl | propagations.ObjectOnly ↦ λ h. refl | propagations.Propagate ↦ λ h. refl ];
  back = λ y x fits e. (word_step propagation_word y propagations.RepositoryDetermined x _ (word_step propagation_word y propagations.ObjectOnly x _ (word_step propagation_word y propagations.Propagate x _ (λ n. absurd cc))) e, tt);
}

abbrev pub propagation : Codec Propagation
propagation = narrow propagation_word propagation_of Any text propagation_words

abbrev pub unfile_word : UnfileObjects → List ℕ
unfile_word unfiles.Unfile = codes "unfile"
unfile_word unfiles.DeleteSingleFiled = codes "deletesinglefiled"
unfile_word unfiles.Delete = codes "delete"

abbrev pub unfile_of : List ℕ → Option UnfileObjects
unfile_of word =
    if bytes_eq word (unfile_word unfiles.Unfile) then Some unfiles.Unfile
    else if bytes_eq word (unfile_word unfiles.DeleteSingleFiled) then Some unfiles.DeleteSingleFiled
    else if bytes_eq word (unfile_word unfiles.Delete) then Some unfiles.Delete
    else None

pub unfile_words : Narrows text unfile_word unfile_of Any
unfile_words = record {
  forth = elim [ unfiles.Unfile ↦ λ h. refl | unfiles.DeleteSingleFiled ↦ λ h. refl | unfiles.Delete ↦ λ h. refl ];
  back = λ y x fits e. (word_step unfile_word y unfiles.Unfile x _ (word_step unfile_word y unfiles.DeleteSingleFiled x _ (word_step unfile_word y unfiles.Delete x _ (λ n. absurd cc))) e, tt);
}

abbrev pub unfile : Codec UnfileObjects
unfile = narrow unfile_word unfile_of Any text unfile_words
