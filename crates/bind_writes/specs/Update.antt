-- The arguments of update, judged in their order (CMIS 1.1, section 5.4).
use Rattle.std.specs.Prelude.{false, Ok, codes}
use Rattle.cm_base.specs.Judged.{Judged, ◌>>=◌}
use Rattle.call_parts.specs.declared.changes.UpdateProperties.{UpdateProperties}
use Rattle.form_args.specs.Pairs.{first_of, texts_of}
use Rattle.form_args.specs.Single.{flag_of}
use Rattle.form_args.specs.Properties.{properties_of}
use Rattle.bind_parts.specs.declared.asking.Asking.{Asking}
use Rattle.bind_parts.specs.Parts.{place_of}

-- the properties need not name a type; the secondary types to take off and to add are lists
abbrev pub update_of : Asking → Judged UpdateProperties
update_of asking = do
  succinct ← flag_of asking.form.pairs (codes "succinct") false
  properties ← properties_of asking.form.pairs
  Ok (record {
    place = place_of asking;
    properties = properties;
    remove_secondary = texts_of asking.form.pairs (codes "removeSecondaryTypeId");
    add_secondary = texts_of asking.form.pairs (codes "addSecondaryTypeId");
    token = first_of asking.form.pairs (codes "changeToken");
    succinct = succinct;
  })
