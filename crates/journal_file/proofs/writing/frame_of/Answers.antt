use Rattle.std.proofs.Common.{◌≡◌, ◌+◌, ◌∙◌, ◌++◌, ◌∷◌, [], ℕ, List, take, length, sym, ap, subst, arith}
use Rattle.std.specs.List.{AllByRecursion}
use Rattle.std.proofs.lemmas.List.{take_more, take_all}
use Rattle.journal_file.specs.Records.{records, length_bytes, IsShort}
use Rattle.journal_file.proofs.Fields.{adds_one}
use Rattle.journal_file.proofs.Places.{all-append}
use Rattle.journal_file.proofs.writing.frame_of.Goals as goal

pub loop-payload-preserved : goal.loop-payload-preserved
loop-payload-preserved c =
    let all = c.args.payloads.now in
    let i = c.loop-payload.payload-index in
    let p = c.payload-item.result in
    let more : take (i + 1) all ≡ take i all ++ p ∷ [] = take_more all i p c.loop-payload-test.true ∙ ap (λ (q : List ℕ). take i all ++ q ∷ []) (sym c.payload-item.is) in
    let added : c.add_record.new.frame.items ≡ c.loop-payload.frame.items ++ (1 ∷ length_bytes (length p) ++ p) = subst (λ (q : List ℕ). c.add_record.new.frame.items ≡ c.loop-payload.frame.items ++ (1 ∷ length_bytes (length q) ++ q)) c.as_slice.ensures c.in_ok-add_record.ensures.added in
    let short : IsShort p = subst IsShort c.as_slice.ensures c.in_ok-add_record.ensures.short in
    record {
      so_far = adds_one (take i all) p c.add_record.new.frame.items c.loop-payload.frame.items c.loop-payload.invariant.so_far added ∙ ap records (sym more);
      short = subst (AllByRecursion IsShort) (sym more) (all-append IsShort (take i all) (p ∷ []) c.loop-payload.invariant.short (short, tt));
    }

pub returns : goal.returns
returns c =
    let all : take c.loop-payload.payload-index c.args.payloads.now ≡ c.args.payloads.now = take_all c.loop-payload.payload-index c.args.payloads.now (omega (arith, c.loop-payload-test.false)) in
    record {
      bytes_are = c.in_ok-push.ensures.items ∙ ap (λ (l : List ℕ). l ++ 0 ∷ []) (c.loop-payload.invariant.so_far ∙ ap records all);
      short = subst (AllByRecursion IsShort) all c.loop-payload.invariant.short;
    }
