use Rattle.std.proofs.Common.{◌++◌, ℕ, List, drop, ap, arith}
use Rattle.std.proofs.lemmas.Option.{slice_get_within}
use Rattle.journal_keeper.specs.Recorded.{payloads}
use Rattle.journal_keeper.proofs.Codes.{are_more, codes_more, all_are, all_codes}
use Rattle.journal_keeper.proofs.encoding.payloads_from.Goals as goal

pub places-init : goal.places-init
places-init g c = record {
  within = c.requires;
  are = ap (λ (l : List (List ℕ)). l ++ payloads g.F.EntryCode.codec c.args.offset (drop c.args.from c.args.version.now.journal)) c.new-all.ensures;
  have_codes = λ p. p;
}

pub overflow_add-place : goal.overflow_add-place
overflow_add-place g c =
    let lt = slice_get_within c.args.version.now.journal c.places.place c.in-Some.entry.now c.in-Some.ensures in grind arith

pub places-smaller : goal.places-smaller
places-smaller g c =
    let lt = slice_get_within c.args.version.now.journal c.places.place c.in-Some.entry.now c.in-Some.ensures in omega (arith, lt)

pub places-preserved : goal.places-preserved
places-preserved g c =
    let codec = g.F.EntryCode.codec in
    let h = c.args.version.now.journal in
    let i = c.places.place in
    let e = c.in-Some.entry.now in
    let at = c.in-Some.ensures in
    let is = c.in_ok-payload.ensures.bytes in
    record {
      within = omega (arith, slice_get_within h i e at);
      are = are_more codec c.args.offset _ _ h i e c.in_ok-payload.payload _ at is c.in_ok-push.ensures.ok c.places.invariant.are;
      have_codes = codes_more codec c.args.offset h i e c.in_ok-payload.payload _ at is c.places.invariant.have_codes;
    }

pub returns-clause-payloads : goal.returns-clause-payloads
returns-clause-payloads g c = all_are g.F.EntryCode.codec c.args.offset c.places.all c.args.version.now.journal c.places.place _ c.in_default.ensures c.places.invariant.are

pub returns-clause-have_codes : goal.returns-clause-have_codes
returns-clause-have_codes g c = all_codes g.F.EntryCode.codec c.args.offset c.args.version.now.journal c.places.place _ c.in_default.ensures c.places.invariant.have_codes
