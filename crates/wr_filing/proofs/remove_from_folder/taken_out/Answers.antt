use Rattle.std.proofs.Common.{◌≡◌, map, refl, ap, ◌∙◌}
use Rattle.std.specs.Prelude.{fold}
use Rattle.std.proofs.lemmas.Iterator.Consumers.{YieldsList-from_first, YieldsList-end}
use Rattle.cm_map.specs.Rests.{rest}
use Rattle.cm_map.specs.Parts.{pointee}
use Rattle.wr_filing.specs.Filing.{out_of}
use Rattle.wr_filing.proofs.remove_from_folder.taken_out.Goals as goal

pub returns : goal.returns
returns c =
    let it = c.into_iter-entry-iterator.result in
    let same_it : it ≡ c.iter-entry-items.result = search in
    let all : map pointee c.loop-entry.yielded ≡ rest it = (YieldsList-end (YieldsList-from_first (λ x. x.now) rest (rest it) refl) c.loop-entry.yielded c.loop-entry.entry-iterator c.loop-entry.yielded_by c.next.result c.next.new.self c.in-None.is c.next.ensures.steps).0 in
    let at : map pointee c.loop-entry.yielded ≡ c.args.folders.now = all ∙ (ap rest same_it ∙ c.iter-entry-items.ensures.all) in
    c.loop-entry.invariant ∙ ap (fold (λ d e. out_of c.args.n d e.1) c.args.draft) at
