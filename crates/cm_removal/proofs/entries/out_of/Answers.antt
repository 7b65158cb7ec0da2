use Rattle.std.proofs.Common.{◌≡◌, ℕ, Bool, List, [], ◌∷◌, ◌++◌, ◌&&◌, not, map, filter, refl, sym, ap, ◌∙◌}
use Rattle.std.specs.List.{list_any}
use Rattle.std.proofs.lemmas.Iterator.Consumers.{YieldsList-from_first, YieldsList-end}
use mathlib.Core.List.{map-append}
use Rattle.cm_map.specs.Rests.{rest}
use Rattle.cm_map.specs.Parts.{pointee}
use Rattle.cm_base.specs.declared.number.Oid.{Oid}
use Rattle.cm_base.specs.declared.filing.Filed.{Filed}
use Rattle.cmis_spec.specs.Repository.{Repository, same}
use Rattle.cmis_spec.specs.Changes.{without_pair}
use Rattle.cm_removal.proofs.Filters.{all_pass, gone_last}
use Rattle.cm_removal.proofs.entries.out_of.Goals as goal

pub loop-entry-init : goal.loop-entry-init
loop-entry-init c = λ k. record c.args.draft { filed = sym (all_pass c.args.draft.filed) k }

pub loop-entry-preserved : goal.loop-entry-preserved
loop-entry-preserved c =
    let f : ℕ × Oid → Oid = λ e. e.1 in
    let fs : List Oid = map f (map pointee c.loop-entry.yielded) in
    let g : Oid = c.in-Some.entry.now.1 in
    let t : Filed → Oid → Bool = λ p h. same p.folder h && same p.child c.args.n in
    let ps = c.args.draft.filed in
    let more : map f (map pointee (c.loop-entry.yielded ++ c.in-Some.entry ∷ [])) ≡ fs ++ g ∷ [] =
    ap (map f) (map-append pointee c.loop-entry.yielded (c.in-Some.entry ∷ [])) ∙ map-append f (map pointee c.loop-entry.yielded) (c.in-Some.entry.now ∷ []) in
    c.in_ok-left.ensures ∙ (ap (λ (q : Repository). without_pair q g c.args.n) c.loop-entry.invariant
    ∙ (λ k. record c.args.draft { filed = (gone_last t fs g ps ∙ ap (λ l. filter (λ p. not (list_any (t p) l)) ps) (sym more)) k }))

pub returns : goal.returns
returns c =
    let f : ℕ × Oid → Oid = λ e. e.1 in
    let it = c.into_iter-entry-iterator.result in
    let same_it : it ≡ c.iter-entry-items.result = search in
    let all : map pointee c.loop-entry.yielded ≡ rest it = (YieldsList-end (YieldsList-from_first (λ x. x.now) rest (rest it) refl) c.loop-entry.yielded c.loop-entry.entry-iterator c.loop-entry.yielded_by c.next.result c.next.new.self c.in-None.is c.next.ensures.steps).0 in
    let at : map f (map pointee c.loop-entry.yielded) ≡ map f c.args.folders.now = ap (map f) (all ∙ (ap rest same_it ∙ c.iter-entry-items.ensures.all)) in
    c.loop-entry.invariant ∙ (λ k. record c.args.draft { filed = filter (λ p. not (list_any (λ g. same p.folder g && same p.child c.args.n) (at k))) c.args.draft.filed })
