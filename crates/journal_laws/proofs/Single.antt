-- Payloads have one replay.
use Rattle.std.proofs.Common.{◌≡◌, ℕ, List, [], ◌∷◌, refl, sym, ap, subst, ◌∙◌}
use Rattle.byte_codec.specs.Codecs.{Codec}
use Rattle.byte_codec.specs.Payloads.{Encodes}
use Rattle.byte_codec.proofs.PayloadLaws.{one_value}
use Rattle.journal_file.specs.Records.{StandsFor}
use Rattle.journal_replay.specs.declared.record.Record.{Record}
use Rattle.journal_replay.specs.declared.record.Root.{Root}
use Rattle.journal_replay.specs.Recorded.{Replay, replayed}
use Rattle.journal_replay.specs.Replayed.{Reading, Replays, AreRecords, at_root}
use Rattle.journal_replay.specs.Starts.{StandsForReplay}

abbrev first_of : {A : Type 0} → A → List A → A
first_of a [] = a
first_of a (x ∷ xs) = x

abbrev others_of : {A : Type 0} → List A → List A
others_of [] = []
others_of (x ∷ xs) = xs

-- the same payloads are the encodings of the same records
one_records : {C P : Type 0} (codec : Codec (Record C P)) (payloads : List (List ℕ)) (rs ss : List (Record C P)) → AreRecords codec payloads rs → AreRecords codec payloads ss → rs ≡ ss
one_records codec [] [] [] a b = refl
one_records codec [] [] (s ∷ ss) a b = absurd b
one_records codec [] (r ∷ rs) ss a b = absurd a
one_records codec (p ∷ ps) [] ss a b = absurd a
one_records codec (p ∷ ps) (r ∷ rs) [] a b = absurd b
one_records {C = C} {P = P} codec (p ∷ ps) (r ∷ rs) (s ∷ ss) a b =
    ap (λ (x : Record C P). x ∷ rs) (one_value codec s r p b.0 a.0) ∙ ap (λ (l : List (Record C P)). s ∷ l) (one_records codec ps rs ss a.1 b.1)

module _ {S C P A X : Type 0} (reading : Reading S C P A X) where
  pub one_replay : (payloads : List (List ℕ)) (r s : Replay S P) → Replays reading payloads r → Replays reading payloads s → r ≡ s
  one_replay payloads r s a b =
      let payloads_are : a.first ∷ a.others ≡ b.first ∷ b.others = sym a.payloads_are ∙ b.payloads_are in
      let first : a.first ≡ b.first = ap (first_of a.first) payloads_are in
      let others : a.others ≡ b.others = ap others_of payloads_are in
      let root : a.root ≡ b.root = one_value reading.root_codec b.root a.root b.first b.is_root (subst (Encodes reading.root_codec a.root) first a.is_root) in
      let records : a.records ≡ b.records = one_records reading.record_codec b.others a.records b.records
      (subst (λ (l : List (List ℕ)). AreRecords reading.record_codec l a.records) others a.are_records) b.are_records in
      a.replay_is ∙ (ap (λ (x : Root P). replayed reading.steps (at_root reading.opening x) a.records) root
      ∙ (ap (λ (l : List (Record C P)). replayed reading.steps (at_root reading.opening b.root) l) records ∙ sym b.replay_is))

  pub one_replay_of : ((ps qs : List (List ℕ)) (file : List ℕ) → StandsFor ps file → StandsFor qs file → ps ≡ qs)
      → (file : List ℕ) (r s : Replay S P) → StandsForReplay reading r file → StandsForReplay reading s file → r ≡ s
  one_replay_of one_reading file r s a b =
      one_replay b.payloads r s (subst (λ (l : List (List ℕ)). Replays reading l r) (one_reading a.payloads b.payloads file a.stands b.stands) a.replays) b.replays
