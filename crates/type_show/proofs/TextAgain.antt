-- The text of a shown type is read as the request that names it.
use Rattle.std.proofs.Common.{◌≡◌, ◌∙◌, ◌≤◌, ℕ, List, sym, ap, arith}
use Rattle.std.specs.Prelude.{Some, Ok, Err, true}
use Rattle.serde_json.specs.Data.{Data, depth}
use Rattle.serde_json.specs.Read.{read, max_depth}
use Rattle.cm_base.specs.declared.cause.Cause.TheVariants as causes
use Rattle.cm_base.specs.Judged.{Judged, ◌>>=◌, find_or}
use Rattle.cm_types.specs.declared.definition.TypeDef.{TypeDef}
use Rattle.cm_types.specs.declared.request.TypeRequest.{TypeRequest}
use Rattle.cm_types.specs.Changes.{made_type}
use Rattle.type_json.specs.Reading.{judge_type, judge_type_text}
use Rattle.type_show.specs.Showing.{type_data}
use Rattle.type_show.specs.ReadBack.{asked_type, IsSoundType, IsMadeBelow}
use Rattle.type_show.proofs.AskedType.{judged_again}
use Rattle.type_show.proofs.Depths.{depth_type}
use Rattle.type_show.proofs.MadeBelow.{type_again}

pub text_again : (t : TypeDef) (d : Data) (text : List ℕ) → d ≡ type_data true t → (depth d ≤ max_depth → read text ≡ Some d) → IsSoundType t
    → judge_type_text text ≡ Ok (asked_type t)
text_again t d text shown reads sound =
    let deep = depth_type t in
    let fits : depth d ≤ max_depth = rw shown (omega arith) in
    ap (λ o. find_or causes.BadTypeText o >>= judge_type) (reads fits ∙ ap Some shown) ∙ judged_again t sound

-- what was judged
abbrev judged_or : TypeRequest → Judged TypeRequest → TypeRequest
judged_or q (Ok r) = r
judged_or q (Err c) = q

pub definition_again : (t : TypeDef) (d : Data) (text : List ℕ) → d ≡ type_data true t → (depth d ≤ max_depth → read text ≡ Some d)
    → (parent : TypeDef) (q : TypeRequest) → IsSoundType t → IsMadeBelow parent t → judge_type_text text ≡ Ok q → made_type parent q ≡ t
definition_again t d text shown reads parent q sound below read_as =
    ap (made_type parent) (ap (judged_or q) (sym read_as ∙ text_again t d text shown reads sound))
    ∙ type_again parent t sound below
