-- The change log, a page of the events that the caller sees (CMIS 1.1, section 2.2.6.2).
use Rattle.std.specs.Prelude.{ℕ, nat_le, List, map, filter, length, unwrap_or, option_map, Ok}
use Rattle.cm_base.specs.Judged.{Judged}
use Rattle.log_parts.specs.declared.readings.ReadChanges.{ReadChanges}
use Rattle.log_parts.specs.declared.replies.ChangesReply.{ChangesReply}
use Rattle.log_parts.specs.declared.replies.ShownEvent.{ShownEvent}
use Rattle.cmis_spec.specs.Repository.{Repository, last_of}
use Rattle.cmis_spec.specs.Seen.{SeenEvent, seen_events}
use Rattle.rd_nav.specs.ReadChildren.{has_more, page}

-- the event that has the token, and those after it
abbrev pub events_from : ℕ → List SeenEvent → List SeenEvent
events_from token events = filter (λ e. nat_le token e.number) events

abbrev pub shown_event : SeenEvent → ShownEvent
shown_event e = record { object = e.object; kind = e.kind; moment = e.moment }

-- the number of the last of these events; where there is none, the token that was given
abbrev pub last_token : ℕ → List SeenEvent → ℕ
last_token given events = unwrap_or (option_map (λ e. e.number) (last_of events)) given

-- all that the caller sees from the token on is counted before the cut
abbrev pub changes_reply : ReadChanges → List SeenEvent → ChangesReply
changes_reply q events = record {
  events = map shown_event (page 0 q.max_items events);
  has_more_items = has_more 0 q.max_items events;
  num_items = length events;
  token = last_token q.token (page 0 q.max_items events);
  succinct = q.succinct;
}

abbrev pub answer_changes : Repository → List ℕ → ReadChanges → Judged ChangesReply
answer_changes r u q = Ok (changes_reply q (events_from q.token (seen_events r u 1 r.log)))
