-- The sessions of a load make one state.
use Rattle.std.specs.Prelude.{◌≡◌, ℕ, zero, suc, List}
use Rattle.std.specs.List.{flat_map}
use Rattle.std.proofs.Common.{sym, ap, ◌∙◌}
use Rattle.cm_base.specs.declared.user.User.{User}
use Rattle.outside.specs.Clocks.{Words, words_of}
use Rattle.desk_model.specs.declared.entry.Entry.{Entry}
use Rattle.desk_model.specs.Histories.{replay}
use Rattle.load_requests.specs.Requests.{request}
use Rattle.talk.specs.declared.end.End.{End}
use Rattle.talk.specs.Served.{Kind}
use Rattle.talk.specs.Alone.{Alone}
use Rattle.load_sessions.specs.Sessions.{Leads, Made, numbers_in}

-- the session alone has one history
abbrev pub IsOne : {S C Q : Type 0} → Kind S C Q → Type 0
IsOne {S} {C} kind = (opening : S) (users : List User) (words : Words) (input o p : List ℕ) (end stop : End) (g h : List (Entry C))
    → Alone kind opening users words input o end g → Alone kind opening users words input p stop h → (o ≡ p) × (end ≡ stop) × (g ≡ h)

leads_to_one : {S C Q : Type 0} (kind : Kind S C Q) (one : IsOne kind) (users : List User) (numbers : List ℕ) (before s t : S) → Leads kind users numbers before s → Leads kind users numbers before t → s ≡ t
leads_to_one kind one users numbers before s t a b =
    a.after_is
    ∙ (ap (replay kind.next before) (one before users (words_of numbers) (flat_map request numbers) a.output b.output a.end b.end a.journal b.journal a.alone b.alone).2
    ∙ sym b.after_is)

pub made_one : {S C Q : Type 0} (kind : Kind S C Q) (one : IsOne kind) (users : List User) (opening : S) (n k : ℕ) (s t : S) → Made kind users opening n k s → Made kind users opening n k t → s ≡ t
made_one kind one users opening n zero s t a b = a ∙ sym b
made_one kind one users opening n (suc k) s t a b =
    let same = made_one kind one users opening n k a.0 b.0 a.1 b.1 in
    leads_to_one kind one users (numbers_in n k) b.0 s t (rw same at a.2) b.2
