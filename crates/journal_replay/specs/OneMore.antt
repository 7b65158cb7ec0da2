-- A journal that is replayed, one payload more.
use Rattle.std.proofs.Common.{◌≡◌, ℕ, List, [], ◌∷◌, ◌++◌, refl, sym, ap, subst, ◌∙◌}
use Rattle.byte_codec.specs.Codecs.{Codec}
use Rattle.byte_codec.specs.Payloads.{Encodes}
use Rattle.journal_replay.specs.declared.record.Record.{Record}
use Rattle.journal_replay.specs.declared.record.Root.{Root}
use Rattle.journal_replay.specs.Recorded.{Replay, Steps, with_record, replayed, IsSoundAt, AreSound}
use Rattle.journal_replay.specs.Replayed.{Reading, at_root, AreRecords, Replays}

records_more : {C P : Type 0} (codec : Codec (Record C P)) (payloads : List (List ℕ)) (rs : List (Record C P)) (bytes : List ℕ) (r : Record C P)
    → AreRecords codec payloads rs → Encodes codec r bytes → AreRecords codec (payloads ++ bytes ∷ []) (rs ++ r ∷ [])
records_more codec [] [] bytes r are e = (e, tt)
records_more codec (p ∷ ps) (x ∷ xs) bytes r are e = (are.0, records_more codec ps xs bytes r are.1 e)
records_more codec [] (x ∷ xs) bytes r are e = absurd are
records_more codec (p ∷ ps) [] bytes r are e = absurd are

module _ {S C P A X : Type 0} where
  replayed_more : (steps : Steps S C P A X) (replay : Replay S P) (rs : List (Record C P)) (r : Record C P) → replayed steps replay (rs ++ r ∷ []) ≡ with_record steps (replayed steps replay rs) r
  replayed_more steps replay [] r = refl
  replayed_more steps replay (x ∷ xs) r = replayed_more steps (with_record steps replay x) xs r

  sound_more : (steps : Steps S C P A X) (replay : Replay S P) (rs : List (Record C P)) (r : Record C P) → AreSound steps replay rs → IsSoundAt steps (replayed steps replay rs).state r → AreSound steps replay (rs ++ r ∷ [])
  sound_more steps replay [] r are is = (is, tt)
  sound_more steps replay (x ∷ xs) r are is = (are.0, sound_more steps (with_record steps replay x) xs r are.1 is)

  -- the root alone
  pub root_replays : (reading : Reading S C P A X) (bytes : List ℕ) (root : Root P) → Encodes reading.root_codec root bytes → Replays reading (bytes ∷ []) (at_root reading.opening root)
  root_replays reading bytes root is = record {
    first = bytes;
    others = [];
    payloads_are = refl;
    root = root;
    is_root = is;
    records = [];
    are_records = tt;
    sound = tt;
    replay_is = refl;
  }

  -- one record more
  pub one_more : (reading : Reading S C P A X) (before : List (List ℕ)) (replay late : Replay S P) (bytes : List ℕ) (r : Record C P)
      → Encodes reading.record_codec r bytes → IsSoundAt reading.steps replay.state r → late ≡ with_record reading.steps replay r → Replays reading before replay → Replays reading (before ++ bytes ∷ []) late
  one_more reading before replay late bytes r is sound_there late_is so = record {
    first = so.first;
    others = so.others ++ bytes ∷ [];
    payloads_are = ap (λ (l : List (List ℕ)). l ++ bytes ∷ []) so.payloads_are;
    root = so.root;
    is_root = so.is_root;
    records = so.records ++ r ∷ [];
    are_records = records_more reading.record_codec so.others so.records bytes r so.are_records is;
    sound = sound_more reading.steps (at_root reading.opening so.root) so.records r so.sound (subst (λ (x : Replay S P). IsSoundAt reading.steps x.state r) so.replay_is sound_there);
    replay_is = late_is ∙ (ap (λ (x : Replay S P). with_record reading.steps x r) so.replay_is ∙ sym (replayed_more reading.steps (at_root reading.opening so.root) so.records r));
  }
