-- A page of events, and of one event more.
use Rattle.std.proofs.Common.{◌≡◌, ◌∙◌, ℕ, ◌+◌, ◌<◌, nat_lt, false, List, [], ◌∷◌, ◌++◌, length, map, take, min, sym, ap, arith, length-append}
use Rattle.std.specs.Prelude.{unwrap_or, option_map}
use Rattle.std.proofs.lemmas.Bool.{le-ltb}
use Rattle.std.proofs.lemmas.List.{length-map, length-take, map-append, take_all}
use Rattle.log_parts.specs.declared.readings.ReadChanges.{ReadChanges}
use Rattle.log_parts.specs.declared.replies.ChangesReply.{ChangesReply}
use Rattle.cmis_spec.specs.Seen.{SeenEvent}
use Rattle.rd_nav.specs.ReadChildren.{page_size}
use Rattle.rd_log.specs.ReadChanges.{changes_reply, last_token, shown_event}
use Rattle.rd_types.proofs.Visible.{last_more}

page_few : (size : ℕ) (es : List SeenEvent) → length (map shown_event (take size es)) ≡ min size (length es)
page_few size es = length-map (take size es) shown_event ∙ length-take size es

-- the page has room for it
pub with_room : (q : ReadChanges) (es : List SeenEvent) (e : SeenEvent) (reply : ChangesReply) → reply ≡ changes_reply q es → length reply.events < page_size q.max_items
    → ◌≡◌ {A = ChangesReply} record { events = reply.events ++ shown_event e ∷ []; has_more_items = false; num_items = reply.num_items + 1; token = e.number; succinct = reply.succinct } (changes_reply q (es ++ e ∷ []))
with_room q es e reply h lt =
    let size = page_size q.max_items in
    let events : reply.events ≡ map shown_event (take size es) = ap (λ a. a.events) h in
    let short : length (map shown_event (take size es)) < size = omega (arith, lt, ap (length {A = _}) events) in
    let room : length es < size = omega (arith, short, page_few size es) in
    let longer : length (es ++ e ∷ []) ≡ length es + 1 = length-append es (e ∷ []) in
    let all : take size es ≡ es = take_all size es (omega (arith, room)) in
    let all_more : take size (es ++ e ∷ []) ≡ es ++ e ∷ [] = take_all size (es ++ e ∷ []) (omega (arith, room, longer)) in
    let shown : reply.events ++ shown_event e ∷ [] ≡ map shown_event (take size (es ++ e ∷ [])) =
    ap (λ a. a ++ shown_event e ∷ []) (events ∙ ap (map shown_event) all) ∙ (sym (map-append shown_event es (e ∷ [])) ∙ ap (map shown_event) (sym all_more)) in
    let more : false ≡ nat_lt (0 + size) (length (es ++ e ∷ [])) = sym (le-ltb (0 + size) (length (es ++ e ∷ [])) (omega (arith, room, longer))) in
    let count : reply.num_items + 1 ≡ length (es ++ e ∷ []) = omega (arith, ap (λ a. a.num_items) h, longer) in
    let token : e.number ≡ last_token q.token (take size (es ++ e ∷ [])) =
    sym (ap (last_token q.token) all_more ∙ ap (λ o. unwrap_or (option_map (λ a. a.number) o) q.token) (last_more es e)) in
    let word : reply.succinct ≡ q.succinct = ap (λ a. a.succinct) h in
    λ k. record { events = shown k; has_more_items = more k; num_items = count k; token = token k; succinct = word k }
