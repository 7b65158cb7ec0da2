-- The laws of the grammar of requests that the session's proofs stand on, and requests with more bytes behind them.
use Rattle.std.proofs.Common.{◌≡◌, ℕ, ◌≤◌, ◌<◌, Bool, true, false, List, [], ◌∷◌, ◌++◌, length, drop, refl, ap, sym, ◌∙◌, subst}
use Rattle.std.proofs.lemmas.List.{drop-append-le}
use Rattle.http_grammar.specs.Request.{Head, Request}
use Rattle.http_grammar.specs.Fields.{expects_continue}
use Rattle.http_grammar.specs.declared.fault.HttpFault.{HttpFault}
use Rattle.http_grammar.specs.First.{First, Front, IsDecided, Whole, Fault, HoldsHead}
use Rattle.talk.specs.Wire.{Wire}
use Rattle.talk.specs.Requests.{Arrived, rest_after, AreRequests, Due, interim, no_interim}

-- one thing stands at the front, and a request lies within the bytes
pub record FrontLaws : Type 0 where
  pub one : (bytes : List ℕ) (x y : Front) → First bytes x → First bytes y → x ≡ y
  pub within : (bytes : List ℕ) (r : Request) (n : ℕ) → First bytes (Whole r n) → (0 < n) × (n ≤ length bytes)

-- what is decided stays; a request lies within; there is one head, and it stays; no bytes hold none; a request has its head; where a fault stands, more bytes give no other head
pub record GrammarLaws : Type 0 where
  pub kept : (bytes more : List ℕ) (x : Front) → First bytes x → IsDecided x → First (bytes ++ more) x
  pub within : (bytes : List ℕ) (r : Request) (n : ℕ) → First bytes (Whole r n) → (0 < n) × (n ≤ length bytes)
  pub head_one : (bytes : List ℕ) (h k : Head) → HoldsHead bytes h → HoldsHead bytes k → h ≡ k
  pub head_kept : (bytes more : List ℕ) (h : Head) → HoldsHead bytes h → HoldsHead (bytes ++ more) h
  pub no_head : (h : Head) → HoldsHead [] h → ⊥
  pub whole_head : (bytes : List ℕ) (r : Request) (n : ℕ) → First bytes (Whole r n) → HoldsHead bytes r.head
  pub fault_head : (bytes more : List ℕ) (fault : HttpFault) (h : Head) → First bytes (Fault fault) → HoldsHead (bytes ++ more) h → HoldsHead bytes h

-- more bytes behind the requests
pub rest_more : (w : Wire) → GrammarLaws → (input more : List ℕ) (rs : List Arrived) → AreRequests w input rs → rest_after (input ++ more) rs ≡ rest_after input rs ++ more
rest_more w law input more [] q = refl
rest_more w law input more (r ∷ rs) q =
    ap (drop r.size) (rest_more w law input more rs q.0) ∙ drop-append-le r.size (rest_after input rs) more (law.within (rest_after input rs) r.request r.size q.2).1

pub requests_more : (w : Wire) → GrammarLaws → (input more : List ℕ) (rs : List Arrived) → AreRequests w input rs → AreRequests w (input ++ more) rs
requests_more w law input more [] q = tt
requests_more w law input more (r ∷ rs) q =
    (requests_more w law input more rs q.0, q.1, subst (λ b. First b (Whole r.request r.size)) (sym (rest_more w law input more rs q.0)) (law.kept (rest_after input rs) more (Whole r.request r.size) q.2 tt))

-- more bytes behind a fault
pub due_more : (w : Wire) → GrammarLaws → (rest more text : List ℕ) (fault : HttpFault) → First rest (Fault fault) → Due w rest text → Due w (rest ++ more) text
due_more w law rest more text fault first (interim head holds expects is) = interim head (law.head_kept rest more head holds) expects is
due_more w law rest more text fault first (no_interim none is) = no_interim (λ head holds. none head (law.fault_head rest more fault head first holds)) is

-- one interim reply is due
true_false : (b : Bool) → b ≡ true → b ≡ false → ⊥
true_false b p q = cc

pub due_one : (w : Wire) (rest a b : List ℕ) → Due w rest a → Due w rest b → a ≡ b
due_one w rest a b (interim head holds expects is) (interim other holds' expects' is') = is ∙ sym is'
due_one w rest a b (interim head holds expects is) (no_interim none is') = absurd (true_false (expects_continue head) expects (none head holds))
due_one w rest a b (no_interim none is) (interim head holds expects is') = absurd (true_false (expects_continue head) expects (none head holds))
due_one w rest a b (no_interim none is) (no_interim none' is') = is ∙ sym is'
