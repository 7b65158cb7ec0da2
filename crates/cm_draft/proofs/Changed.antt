-- What a change of the filing or of one list makes of the parts of a repository.
use Rattle.std.specs.Prelude.{◌≡◌, List, map, All}
use Rattle.std.proofs.Common.{sym, ◌∙◌}
use Rattle.std.specs.Arc.{arc_value}
use Rattle.cm_base.specs.declared.filing.Filed.{Filed}
use Rattle.cm_base.specs.declared.object.Object.{Object}
use Rattle.cm_base.specs.declared.series.Series.{Series}
use Rattle.cm_types.specs.declared.definition.TypeDef.{TypeDef}
use Rattle.cm_types.specs.declared.definition.BaseType.TheVariants as bases
use Rattle.cm_types.specs.Types.{is_of_base}
use Rattle.cm_folder.specs.declared.entry.FilingEntry.{FilingEntry}
use Rattle.cm_folder.specs.Filings.{pairs_of}
use Rattle.cmis_spec.specs.Repository.{Repository}
use Rattle.cm_state.specs.declared.parts.Parts.TheInside.{Inside}
use Rattle.cm_state.specs.declared.lists.Lists.{Lists}
use Rattle.cm_state.specs.Kept.{repository_of, IsParts}
use Rattle.cm_state.specs.Told.{entry_by, entries_of}
use Rattle.cm_draft.proofs.Entries.{made, own_pair, filed_typed}

-- ---- other pairs

module _ (r : Repository) (filing : List FilingEntry) (ps : List Filed) (e : filing ≡ map (entry_by r.types r.series r.objects) ps) where
  both : (pairs_of filing ≡ ps) × (filing ≡ map (entry_by r.types r.series r.objects) (pairs_of filing))
  both = made (entry_by r.types r.series r.objects) (own_pair r.types r.series r.objects) filing ps e

  pub pairs_told : filing ≡ entries_of (record r { filed = pairs_of filing })
  pairs_told = both.1

  pub pairs_filed : record r { filed = pairs_of filing } ≡ record r { filed = ps }
  pairs_filed = λ i. record r { filed = both.0 i }

module _ (s : Inside) (r : Repository) (is : repository_of s ≡ r) (filing : List FilingEntry) where
  pub refiled_is : repository_of (record s { filing = filing }) ≡ record r { filed = pairs_of filing }
  refiled_is = λ i. record (is i) { filed = pairs_of filing }

  pub refiled_parts : filing ≡ entries_of (record r { filed = pairs_of filing }) → IsParts (record s { filing = filing })
  refiled_parts told = record { told = told ∙ (λ i. entries_of (record (sym is i) { filed = pairs_of filing })) }

-- ---- other objects or series, of which the filing tells

module _ (s : Inside) (r : Repository) (is : repository_of s ≡ r) (filing : List FilingEntry) (lists now : Lists) (at : lists ≡ now)
    (told : filing ≡ map (entry_by r.types now.series now.objects) r.filed) where
  settled : (pairs_of filing ≡ r.filed) × (filing ≡ map (entry_by r.types now.series now.objects) (pairs_of filing))
  settled = made (entry_by r.types now.series now.objects) (own_pair r.types now.series now.objects) filing r.filed told

  settled_is : repository_of (record s { filing = filing; lists = lists }) ≡ record (repository_of (record s { lists = now })) { filed = r.filed }
  settled_is = λ i. record (repository_of (record s { lists = at i })) { filed = settled.0 i }

  settled_parts : IsParts (record s { filing = filing; lists = lists })
  settled_parts = record {
    told = settled.1 ∙ ((λ i. map (entry_by (sym is i).types now.series now.objects) (pairs_of filing))
        ∙ (λ i. map (entry_by (arc_value s.types) (sym at i).series (sym at i).objects) (pairs_of filing)));
  }

module _ (s : Inside) (r : Repository) (is : repository_of s ≡ r) (filing : List FilingEntry) (lists : Lists) (objects : List Object)
    (at : lists ≡ record s.lists { objects = objects }) (told : filing ≡ entries_of (record r { objects = objects })) where
  told_objects : filing ≡ map (entry_by r.types s.lists.series objects) r.filed
  told_objects = told ∙ (λ i. map (entry_by r.types (sym is i).series objects) r.filed)

  pub objects_put : repository_of (record s { filing = filing; lists = lists }) ≡ record r { objects = objects }
  objects_put = settled_is s r is filing lists (record s.lists { objects = objects }) at told_objects ∙ (λ i. record (is i) { objects = objects; filed = r.filed })

  pub objects_parts : IsParts (record s { filing = filing; lists = lists })
  objects_parts = settled_parts s r is filing lists (record s.lists { objects = objects }) at told_objects

module _ (s : Inside) (r : Repository) (is : repository_of s ≡ r) (filing : List FilingEntry) (lists : Lists) (series : List Series)
    (at : lists ≡ record s.lists { series = series }) (told : filing ≡ entries_of (record r { series = series })) where
  told_series : filing ≡ map (entry_by r.types series s.lists.objects) r.filed
  told_series = told ∙ (λ i. map (entry_by r.types series (sym is i).objects) r.filed)

  pub series_put : repository_of (record s { filing = filing; lists = lists }) ≡ record r { series = series }
  series_put = settled_is s r is filing lists (record s.lists { series = series }) at told_series ∙ (λ i. record (is i) { series = series; filed = r.filed })

  pub series_parts : IsParts (record s { filing = filing; lists = lists })
  series_parts = settled_parts s r is filing lists (record s.lists { series = series }) at told_series

-- ---- lists in which no object and no series is another

module _ (s : Inside) (new : Lists) (objects : new.objects ≡ s.lists.objects) (series : new.series ≡ s.lists.series) where
  pub beside_parts : IsParts s → IsParts (record s { lists = new })
  beside_parts is = record {
    told = is.told ∙ (λ i. map (entry_by (arc_value s.types) (sym series i) (sym objects i)) (pairs_of s.filing));
  }

-- ---- other types

pub retyped_parts : (s s' : Inside) (types : List TypeDef) → arc_value s'.types ≡ types → s'.filing ≡ s.filing → s'.lists ≡ s.lists
    → All (λ x. is_of_base types bases.Folder x.kind ≡ is_of_base (arc_value s.types) bases.Folder x.kind) s.lists.objects → IsParts s → IsParts s'
retyped_parts s s' types at filing lists same_folders is = record {
  told = filing ∙ (is.told ∙ (filed_typed (arc_value s.types) s.lists.series s.lists.objects types same_folders (pairs_of s.filing)
      ∙ (λ i. map (entry_by (sym at i) (sym lists i).series (sym lists i).objects) (pairs_of (sym filing i)))));
}
