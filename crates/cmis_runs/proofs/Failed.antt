-- A run ends with 3 or 4 only where the failure of that side was counted.
use Rattle.std.specs.Prelude.{◌==◌, ℕ, List, Option, Some, None}
use Rattle.std.proofs.Common.{refl, sym, ◌∙◌, inl, inr}
use Rattle.std.proofs.lemmas.Bool.{le-leb}
use Rattle.outside.specs.Clocks.{Words}
use Rattle.outside.specs.Outside.{SourceTold, SinkTold}
use Rattle.cmis_runs.specs.Loads.{Loaded}
use Rattle.cmis_spec.specs.Repository.{Repository}
use Rattle.cmis_words.specs.declared.words.Words.{Words as Asked}
use Rattle.cmis_words.specs.declared.words.Words.TheVariants.{Pipe}
use Rattle.talk.specs.Served.{Kind}
use Rattle.run_status.specs.Status.{OnlyWhereFailed}
use Rattle.run_status.proofs.Failed.{apart, input_of, output_of}
use Rattle.cmis_runs.specs.Runs.{Ran}

pub failed : {C Q : Type 0} (kind : Kind Repository C Q) (asked : Option Asked) (clock : Option Words) (before : SourceTold) (empty : SinkTold) (after : SourceTold) (full : SinkTold) (status : ℕ) → Ran kind asked clock before empty after full status → OnlyWhereFailed before empty after full status
failed kind None clock before empty after full status (inl h) = record {
  input = λ e. apart (λ n. n == 7) 7 3 refl refl (sym h.0 ∙ e);
  output = λ e. apart (λ n. n == 7) 7 4 refl refl (sym h.0 ∙ e);
}
failed kind None clock before empty after full status (inr (same, h)) = record {
  input = λ e. apart (λ n. n == 2) 2 3 refl refl (sym h.0 ∙ e);
  output = λ e. apart (λ n. n == 2) 2 4 refl refl (sym h.0 ∙ e);
}
failed kind (Some (Pipe asked)) clock before empty after full status (inl h) = record {
  input = λ e. apart (λ n. n == 7) 7 3 refl refl (sym h.0 ∙ e);
  output = λ e. apart (λ n. n == 7) 7 4 refl refl (sym h.0 ∙ e);
}
failed kind (Some (Pipe asked)) clock before empty after full status (inr p) =
    let s = p.served.ran.session in
    record {
      input = λ e. input_of _ s.turns _ _ _ _ _ p.served.end s.ends (sym p.served.status_is ∙ e);
      output = λ e. output_of _ s.turns _ _ _ _ _ p.served.end s.ends (sym p.served.status_is ∙ e);
    }

-- a load reads nothing
pub load_failed : {C Q : Type 0} (kind : Kind Repository C Q) (n : ℕ) (before : SourceTold) (empty : SinkTold) (after : SourceTold) (full : SinkTold) (status : ℕ) → Loaded kind n empty full status → OnlyWhereFailed before empty after full status
load_failed kind n before empty after full status (inl h) = record {
  input = λ e. apart (λ n. n == 7) 7 3 refl refl (sym h.0 ∙ e);
  output = λ e. apart (λ n. n == 7) 7 4 refl refl (sym h.0 ∙ e);
}
load_failed kind n before empty after full status (inr (r, made, inl h)) = record {
  input = λ e. apart (λ n. n == 0) 0 3 refl refl (sym h.0 ∙ e);
  output = λ e. apart (λ n. n == 0) 0 4 refl refl (sym h.0 ∙ e);
}
load_failed kind n before empty after full status (inr (r, made, inr h)) = record {
  input = λ e. apart (λ n. n == 4) 4 3 refl refl (sym h.0 ∙ e);
  output = λ e. le-leb _ _ h.1;
}
