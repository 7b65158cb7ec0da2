-- The payloads of entries behind a journal that is replayed.
use Rattle.std.proofs.Common.{◌≡◌, ◌+◌, ℕ, List, [], ◌∷◌, ◌++◌, length, refl, sym, ap, subst, ◌∙◌, arith}
use Rattle.byte_codec.specs.Codecs.{Codec}
use Rattle.desk_model.specs.declared.entry.Entry.{Entry}
use Rattle.desk_model.specs.Histories as histories
use Rattle.journal_keeper.specs.Recorded.{shifted, payloads, HaveCodes}
use Rattle.journal_replay.specs.declared.record.Record.{Record}
use Rattle.journal_replay.specs.declared.record.Record.TheVariants.{Written}
use Rattle.journal_replay.specs.Recorded.{Replay, Steps, with_record, replayed, AreSound}
use Rattle.journal_replay.specs.Replayed.{Reading, Replays, AreRecords, at_root}
use Rattle.journal_replay.specs.Shifting.{all_shifted}
use Rattle.journal_laws.specs.Runs.{EntriesAreRecords, sessions_with}

-- the records that tell these entries
abbrev pub written : {C P : Type 0} → List (Entry C) → List (Record C P)
written [] = []
written (e ∷ es) = Written e ∷ written es

pub are_written : {C P : Type 0} (entries : Codec (Entry C)) (records : Codec (Record C P)) → EntriesAreRecords entries records → (offset : ℕ) (h : List (Entry C)) → HaveCodes entries offset h
    → AreRecords records (payloads entries offset h) (written (all_shifted offset h))
are_written entries records read offset [] have = tt
are_written entries records read offset (e ∷ es) have =
    (read (shifted offset e) (entries.code (shifted offset e)) (record { text = refl; fits = have.0 }), are_written entries records read offset es have.1)

-- ---- one list behind another

records_join : {C P : Type 0} (codec : Codec (Record C P)) (ps qs : List (List ℕ)) (rs ss : List (Record C P)) → AreRecords codec ps rs → AreRecords codec qs ss → AreRecords codec (ps ++ qs) (rs ++ ss)
records_join codec [] qs [] ss a b = b
records_join codec [] qs (r ∷ rs) ss a b = absurd a
records_join codec (p ∷ ps) qs [] ss a b = absurd a
records_join codec (p ∷ ps) qs (r ∷ rs) ss a b = (a.0, records_join codec ps qs rs ss a.1 b)

module _ {S C P A X : Type 0} (steps : Steps S C P A X) where
  replayed_join : (start : Replay S P) (rs ss : List (Record C P)) → replayed steps start (rs ++ ss) ≡ replayed steps (replayed steps start rs) ss
  replayed_join start [] ss = refl
  replayed_join start (r ∷ rs) ss = replayed_join (with_record steps start r) rs ss

  sound_join : (start : Replay S P) (rs ss : List (Record C P)) → AreSound steps start rs → AreSound steps (replayed steps start rs) ss → AreSound steps start (rs ++ ss)
  sound_join start [] ss a b = b
  sound_join start (r ∷ rs) ss a b = (a.0, sound_join (with_record steps start r) rs ss a.1 b)

  -- ---- what entries make of a replay

  pub sound_written : (start : Replay S P) (h : List (Entry C)) → histories.IsLegal steps.next start.state h → AreSound steps start (written h)
  sound_written start [] legal = tt
  sound_written start (e ∷ es) legal = (legal.0, sound_written (with_record steps start (Written e)) es legal.1)

  pub state_written : (start : Replay S P) (h : List (Entry C)) → (replayed steps start (written h)).state ≡ histories.replay steps.next start.state h
  state_written start [] = refl
  state_written start (e ∷ es) = state_written (with_record steps start (Written e)) es

  pub entries_written : (start : Replay S P) (h : List (Entry C)) → (replayed steps start (written h)).entries ≡ start.entries + length h
  entries_written start [] = omega arith
  entries_written start (e ∷ es) = let more = entries_written (with_record steps start (Written e)) es in omega (arith, more)

  pub sessions_written : (start : Replay S P) (h : List (Entry C)) → (replayed steps start (written h)).sessions ≡ sessions_with start.sessions h
  sessions_written start [] = refl
  sessions_written start (e ∷ es) = sessions_written (with_record steps start (Written e)) es

  pub people_written : (start : Replay S P) (h : List (Entry C)) → (replayed steps start (written h)).people ≡ start.people
  people_written start [] = refl
  people_written start (e ∷ es) = people_written (with_record steps start (Written e)) es

-- as many entries are shifted as there are
pub length_shifted : {C : Type 0} (offset : ℕ) (h : List (Entry C)) → length (all_shifted offset h) ≡ length h
length_shifted offset [] = refl
length_shifted offset (e ∷ es) = let more = length_shifted offset es in omega (arith, more)

-- the payloads of sound records behind those that are replayed
pub replays_on : {S C P A X : Type 0} (reading : Reading S C P A X) (before more : List (List ℕ)) (start : Replay S P) (rs : List (Record C P)) → Replays reading before start
    → AreRecords reading.record_codec more rs → AreSound reading.steps start rs → Replays reading (before ++ more) (replayed reading.steps start rs)
replays_on {S = S} {P = P} reading before more start rs so are sound = record {
  first = so.first;
  others = so.others ++ more;
  payloads_are = ap (λ (l : List (List ℕ)). l ++ more) so.payloads_are;
  root = so.root;
  is_root = so.is_root;
  records = so.records ++ rs;
  are_records = records_join reading.record_codec so.others more so.records rs so.are_records are;
  sound = sound_join reading.steps (at_root reading.opening so.root) so.records rs so.sound (subst (λ (r : Replay S P). AreSound reading.steps r rs) so.replay_is sound);
  replay_is = ap (λ (r : Replay S P). replayed reading.steps r rs) so.replay_is ∙ sym (replayed_join reading.steps (at_root reading.opening so.root) so.records rs);
}
