-- Worked rows: what small forms are read as.
use Rattle.std.proofs.Common.{◌≡◌, List, [], ◌∷◌, true, false, refl}
use Rattle.std.specs.Prelude.{codes, Ok, Err, Some}
use Rattle.std.specs.Fmt.{digits}
use Rattle.cm_base.specs.declared.cause.Cause.TheVariants as causes
use Rattle.call_parts.specs.declared.readings.PropertyFilter.TheVariants as filters
use Rattle.form_args.specs.declared.pairs.Pair.{Pair}
use Rattle.form_args.specs.Pairs.{texts_of}
use Rattle.form_args.specs.Properties.{properties_of, typed, most_properties, most_values}
use Rattle.form_args.specs.Entries.{aces_of}
use Rattle.form_args.specs.Single.{flag_of, number_of}
use Rattle.form_args.specs.Filter.{filter_by}

abbrev folder_form : List Pair
folder_form =
    record { name = codes "propertyId[0]"; value = codes "cmis:objectTypeId" } ∷ record { name = codes "propertyValue[0]"; value = codes "cmis:folder" }
    ∷ record { name = codes "propertyId[1]"; value = codes "k:tags" } ∷ record { name = codes "propertyValue[1][0]"; value = codes "a" } ∷ record { name = codes "propertyValue[1][1]"; value = codes "b" }
    ∷ record { name = codes "propertyId[2]"; value = codes "k:none" }
    ∷ record { name = codes "policy[0]"; value = codes "7" } ∷ record { name = codes "policy[2]"; value = codes "8" }
    ∷ record { name = codes "addACEPrincipal[0]"; value = codes "bob" } ∷ record { name = codes "addACEPermission[0][0]"; value = codes "cmis:read" } ∷ []

row_properties : properties_of folder_form ≡ Ok (
    record { id = codes "cmis:objectTypeId"; texts = codes "cmis:folder" ∷ []; several = false }
    ∷ record { id = codes "k:tags"; texts = codes "a" ∷ codes "b" ∷ []; several = true }
    ∷ record { id = codes "k:none"; texts = []; several = false } ∷ [])
unfolding most_properties most_values digits
row_properties = refl

row_list_ends : texts_of folder_form (codes "policy") ≡ codes "7" ∷ []
unfolding digits
row_list_ends = refl

row_entries : aces_of folder_form (codes "addACEPrincipal") (codes "addACEPermission") ≡ Ok (record { principal = codes "bob"; permissions = codes "cmis:read" ∷ [] } ∷ [])
unfolding digits
row_entries = refl

row_empty_principal : aces_of (record { name = codes "removeACEPrincipal[0]"; value = [] } ∷ []) (codes "removeACEPrincipal") (codes "removeACEPermission") ≡ Err (causes.BadArgument (codes "removeACEPrincipal"))
unfolding digits
row_empty_principal = refl

row_given_twice : properties_of (record { name = codes "propertyId[0]"; value = codes "a" } ∷ record { name = codes "propertyId[1]"; value = codes "a" } ∷ []) ≡ Err (causes.BadArgument (codes "propertyId"))
unfolding most_properties most_values digits
row_given_twice = refl

-- a type that is given as unset is missing
row_unset_type : typed (record { id = codes "cmis:objectTypeId"; texts = []; several = false } ∷ []) ≡ Err (causes.MissingArgument (codes "cmis:objectTypeId"))
row_unset_type = refl

row_flag : flag_of (record { name = codes "succinct"; value = codes "TRUE" } ∷ []) (codes "succinct") false ≡ Err (causes.BadArgument (codes "succinct"))
row_flag = refl

row_number : number_of (record { name = codes "maxItems"; value = codes "120" } ∷ record { name = codes "maxItems"; value = codes "x" } ∷ []) (codes "maxItems") 100 ≡ Ok 120
row_number = refl

row_blanks : filter_by (Some (codes " a , b\tc")) ≡ Err causes.BadFilter
row_blanks = refl

row_names : filter_by (Some (codes " a ,\tb")) ≡ Ok (filters.QueryNames (codes "a" ∷ codes "b" ∷ []))
row_names = refl

row_star : filter_by (Some (codes " * ")) ≡ Ok filters.All
row_star = refl

row_empty_name : filter_by (Some (codes "a,,b")) ≡ Err causes.BadFilter
row_empty_name = refl

row_empty : filter_by (Some []) ≡ Err causes.BadFilter
row_empty = refl
