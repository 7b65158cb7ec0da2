use Rattle.std.proofs.Common.{◌≡◌, ◌∙◌, ◌∷◌, ℕ, List, get_or, take, drop, ap, sym, arith}
use Rattle.std.specs.Int.{w64, from_be_bytes}
use Rattle.std.proofs.lemmas.List.{get_or-take}
use Rattle.journal_file.specs.Records.{length_bytes}
use Rattle.journal_file.proofs.Heads.{head_spelled}
use Rattle.journal_file.proofs.reading.split_head.Goals as goal

pub returns : goal.returns
returns c =
    let head = c.args.head.now in
    let n = c.number_of.result in
    let number : n ≡ from_be_bytes w64 (take 8 (drop 1 head)) = c.number_of.ensures ∙ ap (λ (l : List ℕ). from_be_bytes w64 (take 8 l)) c.split_at.ensures.back in
    let gate : get_or c.split_at.result.0.now 0 0 ≡ get_or head 0 0 = ap (λ (l : List ℕ). get_or l 0 0) c.split_at.ensures.front ∙ get_or-take 1 head 0 0 (omega arith) in
    head_spelled head n (λ i. omega (arith, c.type_inv.head i)) c.requires number ∙ ap (λ (k : ℕ). k ∷ length_bytes n) (sym gate)
