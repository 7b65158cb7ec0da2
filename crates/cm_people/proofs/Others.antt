-- Parts in whose lists no object and no series is another.
use Rattle.std.specs.Prelude.{◌≡◌, map}
use Rattle.std.proofs.Common.{sym, ◌∙◌}
use Rattle.std.specs.Arc.{arc_value}
use Rattle.cm_folder.specs.Filings.{pairs_of}
use Rattle.cm_state.specs.declared.parts.Parts.TheInside.{Inside}
use Rattle.cm_state.specs.declared.lists.Lists.{Lists}
use Rattle.cm_state.specs.Kept.{IsParts}
use Rattle.cm_state.specs.Told.{entry_by}

pub beside_log : (s : Inside) (new : Lists) → new.objects ≡ s.lists.objects → new.series ≡ s.lists.series → IsParts s → IsParts (record s { lists = new })
beside_log s new objects series is = record {
  told = is.told ∙ (λ i. map (entry_by (arc_value s.types) (sym series i) (sym objects i)) (pairs_of s.filing));
}
