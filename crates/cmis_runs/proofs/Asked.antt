-- What a run does, by its words: those of a load, or others.
use Rattle.std.specs.Prelude.{◌≡◌, ℕ, List, Option, Some, None}
use Rattle.std.proofs.Common.{refl, sym}
use Rattle.cmis_spec.specs.Repository.{Repository}
use Rattle.talk.specs.Served.{Kind}
use Rattle.outside.specs.Clocks.{Words}
use Rattle.outside.specs.Outside.{SourceTold, SinkTold}
use Rattle.cmis_words.specs.Programs.{words_of}
use Rattle.cmis_words.specs.Loading.{load_of}
use Rattle.cmis_runs.specs.Loads.{Loaded}
use Rattle.cmis_runs.specs.Runs.{Ran}
use Rattle.cmis_runs.specs.Once.{LoadsOrServes}

pub runs_load : {C Q : Type 0} (kind : Kind Repository C Q) (words : List (List ℕ)) (n : ℕ) (clock : Option Words) (before : SourceTold) (empty full : SinkTold) (status : ℕ) → Some n ≡ load_of words → Loaded kind n empty full status → LoadsOrServes kind words clock before empty before full status
runs_load kind words n clock before empty full status e h = rw (sym e) (refl, h)

pub runs_others : {C Q : Type 0} (kind : Kind Repository C Q) (words : List (List ℕ)) (clock : Option Words) (before : SourceTold) (empty : SinkTold) (after : SourceTold) (full : SinkTold) (status : ℕ) → None ≡ load_of words → Ran kind (words_of words) clock before empty after full status → LoadsOrServes kind words clock before empty after full status
runs_others kind words clock before empty after full status e h = rw (sym e) h
