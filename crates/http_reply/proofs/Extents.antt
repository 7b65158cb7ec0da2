-- What a sink has taken of bytes that were read for it, and of one part or piece after another.
use Rattle.std.proofs.Common.{◌≡◌, ◌++◌, ◌∙◌, ◌+◌, ◌<◌, ◌≤◌, List, [], ◌∷◌, ℕ, Bool, Option, Some, None, refl, ap, sym, subst, append_assoc, length, take, drop, get_or, le_refl}
use Rattle.std.proofs.Math.Seq.{take-add}
use Rattle.std.proofs.lemmas.List.{take-append-drop}
use Rattle.std.specs.Prelude.{IsTrue, is_some}
use Rattle.std.specs.Io.KnownBytes.{append_known}
use Rattle.cm_base.specs.Whole.{whole}
use Rattle.cm_base.proofs.Wholes.{whole-append, whole-more}
use Rattle.outside.specs.Outside.{SinkTold, Took}
use Rattle.outside.proofs.Known.{Took-then, Took-none}
use Rattle.http_reply.specs.Sent.{TookFront}
use Rattle.http_reply.proofs.Sends.{failed_first, failed_second}

-- nothing was sent
pub took_nothing : (old : SinkTold) (due : List ℕ) → TookFront old old due
took_nothing old due = ([], due, refl, Took-none old old refl (le_refl old.faults))

held_due : (h new : Option (List ℕ)) (part due : List ℕ) (known : Bool) → known ≡ is_some h → new ≡ append_known h part → (IsTrue known → part ≡ due) → new ≡ append_known h due
held_due None new part due known k e is = e
held_due (Some xs) new part due known k e is = e ∙ ap (λ p. append_known (Some xs) p) (is k)

-- A sink that tells what it holds was given the bytes that are due; of another one, what it holds is no question.
pub took_due : (old new : SinkTold) (part due : List ℕ) (known : Bool) → known ≡ is_some old.held → Took old new part → (IsTrue known → part ≡ due) → Took old new due
took_due old new part due known k t is = record { held = held_due old.held new.held part due known k t.held is; later = t.later }

-- the same of a front
pub front_due : (old new : SinkTold) (part due : List ℕ) (known : Bool) → known ≡ is_some old.held → TookFront old new part → (IsTrue known → part ≡ due) → TookFront old new due
front_due old new part due known k (front, rest, cut, took) is = by old.held refl
  where
    by : (h : Option (List ℕ)) → old.held ≡ h → TookFront old new due
    by (Some xs) e = subst (TookFront old new) (is (k ∙ ap is_some e)) (front, rest, cut, took)
    by None e = ([], due, refl, record { held = took.held ∙ ap (λ h. append_known h front) e ∙ sym (ap (λ h. append_known h []) e); later = took.later })

-- one part more of a text
pub sent_more : (old mid new : SinkTold) (text : List ℕ) (done n count : ℕ) → n ≡ count → Took old mid (take done text) → Took mid new (take n (drop done text)) → Took old new (take (done + count) text)
sent_more old mid new text done n count e p q =
    rw (take-add done count text) (Took-then old mid new (take done text) (take count (drop done text)) p (subst (λ (k : ℕ). Took mid new (take k (drop done text))) e q))

-- the next part was not sent whole
pub lost_part : (old mid new : SinkTold) (text : List ℕ) (done n : ℕ) → Took old mid (take done text) → TookFront mid new (take n (drop done text)) → TookFront old new text
lost_part old mid new text done n p q =
    let behind : TookFront mid new (take n (drop done text) ++ drop n (drop done text)) = failed_first mid new (take n (drop done text)) (drop n (drop done text)) q in
    let left : TookFront mid new (drop done text) = subst (TookFront mid new) (take-append-drop n (drop done text)) behind in
    subst (TookFront old new) (take-append-drop done text) (failed_second old mid new (take done text) (drop done text) p left)

-- one piece more
pub sent_piece : (old mid new : SinkTold) (pieces : List (List ℕ)) (i : ℕ) (piece : List ℕ) → i < length pieces → piece ≡ get_or pieces i piece → Took old mid (whole (take i pieces)) → Took mid new piece → Took old new (whole (take (i + 1) pieces))
sent_piece old mid new pieces i piece lt e p q =
    subst (Took old new) (ap (λ x. whole (take i pieces) ++ x) e ∙ whole-more (whole (take i pieces)) [] pieces i piece lt refl) (Took-then old mid new (whole (take i pieces)) piece p q)

-- the next piece was not sent whole
pub lost_piece : (old mid new : SinkTold) (pieces : List (List ℕ)) (i : ℕ) (piece : List ℕ) → i < length pieces → piece ≡ get_or pieces i piece → Took old mid (whole (take i pieces)) → TookFront mid new piece → TookFront old new (whole pieces)
lost_piece old mid new pieces i piece lt e p q =
    let first : TookFront old new (whole (take (i + 1) pieces)) =
    subst (TookFront old new) (ap (λ x. whole (take i pieces) ++ x) e ∙ whole-more (whole (take i pieces)) [] pieces i piece lt refl) (failed_second old mid new (whole (take i pieces)) piece p q) in
    subst (TookFront old new) (sym (whole-append (take (i + 1) pieces) (drop (i + 1) pieces)) ∙ ap whole (take-append-drop (i + 1) pieces))
    (failed_first old new (whole (take (i + 1) pieces)) (whole (drop (i + 1) pieces)) first)
