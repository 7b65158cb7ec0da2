-- Worked rows: what small requests ask.
use Rattle.std.proofs.Common.{◌≡◌, ℕ, List, [], ◌∷◌, ◌++◌, true, false, refl}
use Rattle.std.specs.Prelude.{codes, Some, None, Ok, Err}
use Rattle.std.specs.Fmt.{digits}
use Rattle.std.specs.Str.{is_utf8, chars}
use Rattle.std.specs.Str.Lossy.{utf8_lossy, utf8_valid_len}
use Rattle.form_urlencoded.specs.Form.{split, raw_pairs}
use Rattle.percent_encoding.specs.Percent.{percent_decode}
use lib.Utf8.{encode}
use Rattle.cm_base.specs.declared.cause.Cause.TheVariants as causes
use Rattle.cm_base.specs.declared.series.VersioningState.TheVariants as states
use Rattle.call_parts.specs.declared.place.Place.TheVariants as places
use Rattle.cm_call.specs.declared.write.Write.TheVariants as writes
use Rattle.cm_call.specs.declared.question.Question.TheVariants as questions
use Rattle.call_parts.specs.declared.readings.PropertyFilter.TheVariants as filters
use Rattle.rendition_parts.specs.declared.filter.RenditionFilter.TheVariants as renditions
use Rattle.include_parts.specs.declared.readings.IncludeRelationships.TheVariants as relationships
use Rattle.include_parts.specs.declared.readings.Includes.{Includes}
use Rattle.include_parts.specs.declared.readings.ReturnVersion.TheVariants as versions
use Rattle.http_grammar.specs.Request.{Request, FieldParts}
use Rattle.http_grammar.specs.Fields.{values_named}
use Rattle.form_args.specs.Properties.{most_properties, most_values}
use Rattle.ql_lex.specs.Words.{keyword_of}
use Rattle.cm_base.specs.declared.asked.Asked.TheVariants as asks
use Rattle.http_header.specs.Token.{is_token_byte}
use Rattle.form_parts.specs.Reading.{lines_of, inside, outside}
use Rattle.bind_read.specs.Calls.{call_of_request}

abbrev urlencoded : List FieldParts
urlencoded = (codes "Host", codes "x") ∷ (codes "content-TYPE", codes "application/x-www-form-urlencoded ; charset=utf-8") ∷ []

-- nothing is to be shown beside properties
abbrev nothing_more : Includes
nothing_more = record { actions = false; relationships = relationships.Nothing; renditions = renditions.None; policy_ids = false; acl = false }

-- a form that is posted to this target
abbrev posted : List ℕ → List ℕ → Request
posted target body = record { head = record { method = codes "POST"; target = target; minor = 1; fields = urlencoded }; body = body }

-- a target that is asked for, with these fields
abbrev got : List ℕ → List FieldParts → Request
got target fields = record { head = record { method = codes "GET"; target = target; minor = 1; fields = fields }; body = codes "dropped" }

row_create_folder : call_of_request (posted (codes "/cmis/main/root") (codes "cmisaction=createFolder&propertyId[0]=cmis:name&propertyValue[0]=a&propertyId[1]=cmis:objectTypeId&propertyValue[1]=cmis:folder&succinct=true"))
    ≡ Ok (asks.Write (writes.CreateFolder (record {
      place = places.Path [];
      properties = record { id = codes "cmis:name"; texts = codes "a" ∷ []; several = false } ∷ record { id = codes "cmis:objectTypeId"; texts = codes "cmis:folder" ∷ []; several = false } ∷ [];
      policies = [];
      remove = [];
      add = [];
      succinct = true;
    })))
unfolding split is_utf8 chars percent_decode encode raw_pairs utf8_lossy utf8_valid_len values_named most_properties most_values digits
row_create_folder = refl

row_object : call_of_request (got (codes "/cmis/main/root/a%20b?cmisselector=object&filter=cmis:name&filter=*&objectId=2") [])
    ≡ Ok (asks.Question (questions.Object (record {
      object = record { place = places.Id (codes "2"); filter = filters.QueryNames (codes "cmis:name" ∷ []); succinct = false };
      version = versions.This;
      includes = nothing_more;
    })))
unfolding split is_utf8 chars percent_decode encode raw_pairs utf8_lossy utf8_valid_len values_named
row_object = refl

-- a document in no folder; the object that is named is ignored there
row_create_document : call_of_request (posted (codes "/cmis/main?objectId=2") (codes "cmisaction=createDocument&propertyId[0]=cmis:objectTypeId&propertyValue[0]=cmis:document&versioningState=minor"))
    ≡ Ok (asks.Write (writes.CreateDocument (record {
      place = None;
      properties = record { id = codes "cmis:objectTypeId"; texts = codes "cmis:document" ∷ []; several = false } ∷ [];
      policies = [];
      remove = [];
      add = [];
      state = Some states.Minor;
      stream = None;
      succinct = false;
    })))
unfolding split is_utf8 chars percent_decode encode raw_pairs utf8_lossy utf8_valid_len values_named most_properties most_values digits
row_create_document = refl

-- major where nothing is said
row_check_in : call_of_request (posted (codes "/cmis/main/root?objectId=3") (codes "cmisaction=checkIn&checkinComment=c"))
    ≡ Ok (asks.Write (writes.CheckIn (record { place = places.Id (codes "3"); major = true; comment = Some (codes "c"); properties = []; stream = None; succinct = false })))
unfolding split is_utf8 chars percent_decode encode raw_pairs utf8_lossy utf8_valid_len values_named most_properties most_values digits
row_check_in = refl

-- the absolute form; empty segments are skipped, and each segment is decoded
row_children : call_of_request (got (codes "HTTP://host/%63mis//main/root/a%20b/?cmisselector=children&succinct=true&maxItems=2") ((codes "cmis-step", codes "7") ∷ []))
    ≡ Ok (asks.Question (questions.Children (record {
      children = record { place = places.Path (codes "a b" ∷ []); filter = filters.All; max_items = 2; skip_count = 0; succinct = true };
      order = [];
      segments = false;
      includes = nothing_more;
    })))
unfolding split is_utf8 chars percent_decode encode raw_pairs utf8_lossy utf8_valid_len values_named
row_children = refl

-- ---- the order of the causes: each request has the cause of its row, and all those of the rows below it

row_method : call_of_request (record { head = record { method = codes "HEAD"; target = codes "/x/%ff"; minor = 1; fields = [] }; body = [] }) ≡ Err causes.BadMethod
unfolding split is_utf8 chars percent_decode encode raw_pairs utf8_lossy utf8_valid_len values_named
row_method = refl

row_path : call_of_request (record { head = record { method = codes "POST"; target = codes "/x/%ff"; minor = 1; fields = [] }; body = codes "x" }) ≡ Err (causes.BadArgument (codes "path"))
unfolding split is_utf8 chars percent_decode encode raw_pairs utf8_lossy utf8_valid_len values_named
row_path = refl

row_address : call_of_request (record { head = record { method = codes "POST"; target = codes "cmis/main"; minor = 1; fields = [] }; body = codes "x" }) ≡ Err causes.NoUrl
unfolding split is_utf8 chars percent_decode encode raw_pairs utf8_lossy utf8_valid_len values_named
row_address = refl

row_body : call_of_request (record { head = record { method = codes "POST"; target = codes "/cmis/main/root"; minor = 1; fields = (codes "Content-Type", codes "text/plain") ∷ [] }; body = codes "x" }) ≡ Err causes.BadBody
unfolding split is_utf8 chars percent_decode encode raw_pairs utf8_lossy utf8_valid_len values_named
row_body = refl

-- ---- forms in parts

-- the fields of a request with a form in parts
abbrev in_parts : List ℕ → List FieldParts
in_parts boundary = (codes "Host", codes "x") ∷ (codes "Content-Type", codes "multipart/form-data; boundary=" ++ boundary) ∷ []

abbrev posted_parts : List ℕ → List ℕ → Request
posted_parts boundary body = record { head = record { method = codes "POST"; target = codes "/cmis/main/root"; minor = 1; fields = in_parts boundary }; body = body }

-- createFolder asks the same in parts as it does urlencoded
row_create_folder_in_parts : call_of_request (posted_parts (codes "B") (codes "--B\r\nContent-Disposition: form-data; name=\"cmisaction\"\r\n\r\ncreateFolder\r\n--B\r\ncontent-disposition: form-data; name=\"propertyId[0]\"\r\n\r\ncmis:objectTypeId\r\n--B\r\nContent-Disposition: form-data; name=\"propertyValue[0]\"\r\n\r\ncmis:folder\r\n--B--\r\n"))
    ≡ call_of_request (posted (codes "/cmis/main/root") (codes "cmisaction=createFolder&propertyId[0]=cmis:objectTypeId&propertyValue[0]=cmis:folder"))
unfolding split is_utf8 chars percent_decode encode raw_pairs utf8_lossy utf8_valid_len values_named most_properties most_values digits lines_of inside outside is_token_byte
row_create_folder_in_parts = refl

-- the last delimiter is missing
row_unended : call_of_request (posted_parts (codes "B") (codes "--B\r\nContent-Disposition: form-data; name=a\r\n\r\nb\r\n--B\r\n")) ≡ Err causes.BadBody
unfolding split is_utf8 chars percent_decode encode raw_pairs utf8_lossy utf8_valid_len values_named lines_of inside outside is_token_byte
row_unended = refl

-- a boundary of 71 bytes
row_long_boundary : call_of_request (posted_parts (codes "12345678901234567890123456789012345678901234567890123456789012345678901") (codes "x")) ≡ Err causes.BadBody
unfolding split is_utf8 chars percent_decode encode raw_pairs utf8_lossy utf8_valid_len values_named lines_of inside outside is_token_byte
row_long_boundary = refl

row_action_missing : call_of_request (record { head = record { method = codes "POST"; target = codes "/cmis/main/root?succinct=maybe"; minor = 1; fields = (codes "CMIS-Step", codes "+1") ∷ [] }; body = [] }) ≡ Err (causes.MissingArgument (codes "cmisaction"))
unfolding split is_utf8 chars percent_decode encode raw_pairs utf8_lossy utf8_valid_len values_named
row_action_missing = refl

row_action_elsewhere : call_of_request (posted (codes "/cmis/main") (codes "cmisaction=createFolder")) ≡ Err (causes.NotServed (codes "createFolder"))
unfolding split is_utf8 chars percent_decode encode raw_pairs utf8_lossy utf8_valid_len values_named
row_action_elsewhere = refl

row_selector : call_of_request (got (codes "/cmis/main/root?cmisselector=") ((codes "CMIS-Step", codes "007") ∷ [])) ≡ Err (causes.NotServed [])
unfolding split is_utf8 chars percent_decode encode raw_pairs utf8_lossy utf8_valid_len values_named
row_selector = refl

row_no_selector : call_of_request (got (codes "/cmis/main/root/a?streamId=3&maxItems=2") [])
    ≡ Ok (asks.Question (questions.Default (record {
      children = record {
        children = record { place = places.Path (codes "a" ∷ []); filter = filters.All; max_items = 2; skip_count = 0; succinct = false };
        order = [];
        segments = false;
        includes = nothing_more;
      };
      stream = Some (codes "3");
    })))
unfolding split is_utf8 chars percent_decode encode raw_pairs utf8_lossy utf8_valid_len values_named
row_no_selector = refl

row_no_selector_elsewhere : call_of_request (got (codes "/cmis/main") []) ≡ Ok (asks.Question (questions.Info (record { host = codes "localhost"; all = false })))
unfolding split is_utf8 chars percent_decode encode raw_pairs utf8_lossy utf8_valid_len values_named
row_no_selector_elsewhere = refl

row_step : call_of_request (got (codes "/cmis/main/root?cmisselector=object&succinct=maybe") ((codes "CMIS-Step", codes "007") ∷ [])) ≡ Err (causes.BadArgument (codes "CMIS-Step"))
unfolding split is_utf8 chars percent_decode encode raw_pairs utf8_lossy utf8_valid_len values_named
row_step = refl

row_two_steps : call_of_request (got (codes "/cmis/main/root?cmisselector=object") ((codes "CMIS-Step", codes "1") ∷ (codes "cmis-step", codes "1") ∷ [])) ≡ Err (causes.BadArgument (codes "CMIS-Step"))
unfolding split is_utf8 chars percent_decode encode raw_pairs utf8_lossy utf8_valid_len values_named
row_two_steps = refl

row_succinct : call_of_request (got (codes "/cmis/main/root?cmisselector=children&filter=a,,b&maxItems=x&succinct=maybe") []) ≡ Err (causes.BadArgument (codes "succinct"))
unfolding split is_utf8 chars percent_decode encode raw_pairs utf8_lossy utf8_valid_len values_named
row_succinct = refl

row_filter : call_of_request (got (codes "/cmis/main/root?cmisselector=children&skipCount=-1&maxItems=x&filter=a,,b") []) ≡ Err causes.BadFilter
unfolding split is_utf8 chars percent_decode encode raw_pairs utf8_lossy utf8_valid_len values_named
row_filter = refl

row_most : call_of_request (got (codes "/cmis/main/root?cmisselector=children&skipCount=-1&maxItems=18446744073709551616") []) ≡ Err (causes.BadArgument (codes "maxItems"))
unfolding split is_utf8 chars percent_decode encode raw_pairs utf8_lossy utf8_valid_len values_named
row_most = refl

row_type_missing : call_of_request (posted (codes "/cmis/main/root?objectId=1") (codes "cmisaction=createFolder&addACEPrincipal[0]=&propertyId[0]=cmis:name&propertyValue[0]=a")) ≡ Err (causes.MissingArgument (codes "cmis:objectTypeId"))
unfolding split is_utf8 chars percent_decode encode raw_pairs utf8_lossy utf8_valid_len values_named most_properties most_values digits
row_type_missing = refl

row_principal : call_of_request (posted (codes "/cmis/main/root") (codes "cmisaction=createFolder&removeACEPrincipal[0]=&addACEPrincipal[0]=&propertyId[0]=cmis:objectTypeId&propertyValue[0]=cmis:folder")) ≡ Err (causes.BadArgument (codes "addACEPrincipal"))
unfolding split is_utf8 chars percent_decode encode raw_pairs utf8_lossy utf8_valid_len values_named most_properties most_values digits
row_principal = refl

-- an item without a name, and the order of the arguments
row_order : call_of_request (got (codes "/cmis/main/root?cmisselector=children&includePathSegment=x&orderBy=cmis:name,") []) ≡ Err (causes.BadArgument (codes "orderBy"))
unfolding split is_utf8 chars percent_decode encode raw_pairs utf8_lossy utf8_valid_len values_named keyword_of
row_order = refl

row_ordered : call_of_request (got (codes "/cmis/main/root?cmisselector=children&orderBy=cmis:creationDate%20%20Desc,cmis:name") [])
    ≡ Ok (asks.Question (questions.Children (record {
      children = record { place = places.Path []; filter = filters.All; max_items = 100; skip_count = 0; succinct = false };
      order = record { query_name = codes "cmis:creationDate"; descending = true } ∷ record { query_name = codes "cmis:name"; descending = false } ∷ [];
      segments = false;
      includes = nothing_more;
    })))
unfolding split is_utf8 chars percent_decode encode raw_pairs utf8_lossy utf8_valid_len values_named keyword_of
row_ordered = refl

-- properties has no such argument, and what a call does not know is ignored
row_unknown : call_of_request (got (codes "/cmis/main/root?cmisselector=properties&includeACL=false&depth=x") [])
    ≡ Ok (asks.Question (questions.Properties (record { properties = record { place = places.Path []; filter = filters.All; succinct = false }; version = versions.This })))
unfolding split is_utf8 chars percent_decode encode raw_pairs utf8_lossy utf8_valid_len values_named
row_unknown = refl
