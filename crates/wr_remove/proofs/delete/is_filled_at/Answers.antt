use Rattle.std.proofs.Common.{◌≡◌, ℕ, [], map, nat_lt, unwrap_or, sym, ap, ◌∙◌}
use Rattle.std.specs.Option.{option_copied}
use Rattle.cm_state.specs.Looks.{entries_in}
use Rattle.wr_remove.proofs.Entries.{entries_any}
use Rattle.wr_remove.proofs.delete.is_filled_at.Goals as goal

pub returns-in-Some : goal.returns-in-Some
returns-in-Some c =
    let r = c.args.state.now in
    let n = c.args.n in
    let at : map (λ e. e.1) c.in-Some.entries.now ≡ entries_in r n = sym (ap (λ o. map (λ e. e.1) (unwrap_or (option_copied o) [])) c.in-Some.is) ∙ (c.entries.ensures ∙ ap (λ q. entries_in q n) c.parts.ensures) in
    ap (nat_lt 0) c.len.ensures.len ∙ entries_any r n c.in-Some.entries.now at

pub returns-in-None : goal.returns-in-None
returns-in-None c =
    let r = c.args.state.now in
    let n = c.args.n in
    let at : [] ≡ entries_in r n = sym (ap (λ o. map (λ e. e.1) (unwrap_or (option_copied o) [])) c.in-None.is) ∙ (c.entries.ensures ∙ ap (λ q. entries_in q n) c.parts.ensures) in
    entries_any {K = ℕ} r n [] at
