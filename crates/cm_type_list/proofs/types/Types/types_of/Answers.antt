use Rattle.std.proofs.Common.{ℕ, List, ◌∙◌, ◌≤◌, ◌++◌, ◌∷◌, [], ap, sym, fold, length, reverse, arith}
use Rattle.std.specs.List.{flat_map}
use Rattle.std.proofs.lemmas.List.{take_all}
use Rattle.cm_types.specs.declared.definition.TypeDef.{TypeDef}
use Rattle.cm_types.specs.Types.{chain}
use Rattle.cm_type_list.specs.Firsts.{with_first}
use Rattle.cm_type_list.proofs.Firsting.{first_fold}
use Rattle.cm_type_list.proofs.types.Types.types_of.Goals as goal

pub returns : goal.returns
returns c =
    let all = c.args.secondaries.now in
    let line : List ℕ → List TypeDef = λ s. reverse (chain c.args.self.now s) in
    let end : length all ≤ c.loop-other.other-index = omega arith in
    c.loop-other.invariant
    ∙ ap (λ l. fold with_first [] (line c.args.id.now ++ flat_map line l)) (take_all c.loop-other.other-index all end)
    ∙ sym (first_fold (flat_map line (c.args.id.now ∷ all)))
