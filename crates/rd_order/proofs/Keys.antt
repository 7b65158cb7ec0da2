-- The orderable property of a name, of the first type or else of those behind it.
use Rattle.std.proofs.Common.{◌≡◌, ◌∙◌, ℕ, ◌-◌, ◌≤◌, List, [], ◌∷◌, map, take, drop, get_or, length, sym, ap, arith}
use Rattle.std.specs.Prelude.{◌&&◌, find, Option, bytes_eq}
use Rattle.std.specs.Option.{option_or}
use Rattle.std.proofs.lemmas.List.{take_all}
use Rattle.std.proofs.lemmas.List.Folds.{find-append}
use denote.Ref.{Bor}
use Rattle.cm_map.specs.Parts.{pointee}
use Rattle.cm_types.specs.declared.definition.TypeDef.{TypeDef}
use Rattle.cm_types.specs.declared.property.PropDef.{PropDef}
use Rattle.ql_bind.specs.Tables.{properties_in}
use Rattle.rd_order.specs.Ordered.{orderable_named}

-- the one of a type's own properties
abbrev pub own : List ℕ → TypeDef → Option PropDef
own name t = find (λ d. d.orderable && bytes_eq d.query_name name) t.properties

-- the types behind the first one
abbrev pub behind : List (Bor TypeDef) → List (Bor TypeDef)
behind types = take (length types - 1) (drop 1 types)

pub first_type : (types : List (Bor TypeDef)) (name : List ℕ) (t : Bor TypeDef) → 1 ≤ length types → t ≡ get_or types 0 t
    → orderable_named (map pointee types) name ≡ option_or (own name t.now) (orderable_named (map pointee (behind types)) name)
first_type [] name t le is = absurd (omega arith)
first_type (s ∷ ts) name t le is =
    find-append (λ d. d.orderable && bytes_eq d.query_name name) s.now.properties (properties_in (map pointee ts))
    ∙ ((λ i. option_or (own name (sym is i).now) (orderable_named (map pointee ts) name))
    ∙ ap (λ xs. option_or (own name t.now) (orderable_named (map pointee xs) name)) (sym (take_all (length (s ∷ ts) - 1) ts (omega arith))))
