-- The words of a grammar over tokens of any type: what a rule says, and what a reader of tokens has to answer.
use Rattle.std.specs.Prelude.{◌≡◌, ℕ, zero, suc, Bool, true, false, ◌||◌, List, [], ◌∷◌, ◌++◌, Option, Some, is_some, ◌⊎◌}

-- A rule of a grammar says which tokens spell which tree. No tokens spell none.
pub record Rule (T A : Type 0) : Type 1 where
  -- the tokens spell the tree
  pub is : List T → A → Type 0
  -- the tokens spell the tree in the larger language, where some tokens that the language leaves out may stand for a part (`stands`)
  pub wide : List T → A → Type 0
  -- a token that may begin one
  pub first : T → Bool
  -- a token that, after a whole one, may belong to a longer one
  pub goes : T → Bool

-- The tokens begin with one that passes.
abbrev pub Starts : {T : Type 0} → (T → Bool) → List T → Type 0
Starts test [] = ⊥
Starts test (t ∷ ts) = test t ≡ true

-- The tokens don't begin with one that passes.
abbrev pub Stops : {T : Type 0} → (T → Bool) → List T → Type 0
Stops test [] = Unit {0}
Stops test (t ∷ ts) = test t ≡ false

-- Both are at their end, or both have the same token next.
abbrev pub SameHead : {T : Type 0} → List T → List T → Type 0
SameHead [] [] = Unit {0}
SameHead [] (u ∷ us) = ⊥
SameHead (t ∷ ts) [] = ⊥
SameHead (t ∷ ts) (u ∷ us) = t ≡ u

-- The tokens begin some text of the language.
abbrev pub Begins : {T A : Type 0} → (List T → A → Type 0) → List T → Type 0
Begins {T} {A} R front = (more : List T) × (x : A) × R (front ++ more) x

-- one token, by what the test makes of it
pub record One {T A : Type 0} (test : T → Option A) (ts : List T) (x : A) : Type 0 where
  pub token : T
  pub text : ts ≡ token ∷ []
  pub value : test token ≡ Some x

-- a text of a, and then one of b
pub record Both {T A B C : Type 0} (a : List T → A → Type 0) (b : List T → B → Type 0) (f : A → B → C) (ts : List T) (z : C) : Type 0 where
  pub us : List T
  pub vs : List T
  pub x : A
  pub y : B
  pub left : a us x
  pub right : b vs y
  pub text : ts ≡ us ++ vs
  pub value : z ≡ f x y

-- n texts of b, which turn the tree x into z one by one
abbrev pub More : {T A B : Type 0} → (List T → B → Type 0) → (A → B → A) → ℕ → A → List T → A → Type 0
More b f zero x ts z = (ts ≡ []) × (z ≡ x)
More {T} {A} {B} b f (suc n) x ts z = (us : List T) × (vs : List T) × (y : B) × b us y × More b f n (f x y) vs z × (ts ≡ us ++ vs)

-- a text of a, and then any number of texts of b
pub record Chain {T A B : Type 0} (a : List T → A → Type 0) (b : List T → B → Type 0) (f : A → B → A) (ts : List T) (z : A) : Type 0 where
  pub us : List T
  pub vs : List T
  pub x : A
  pub count : ℕ
  pub left : a us x
  pub more : More b f count x vs z
  pub text : ts ≡ us ++ vs

-- a text of a, whose tree becomes another
pub record Mapped {T A B : Type 0} (a : List T → A → Type 0) (f : A → B) (ts : List T) (z : B) : Type 0 where
  pub x : A
  pub inside : a ts x
  pub value : z ≡ f x

-- one token that passes
pub record Single {T : Type 0} (test : T → Bool) (ts : List T) : Type 0 where
  pub token : T
  pub text : ts ≡ token ∷ []
  pub passes : test token ≡ true

-- one token, by what the test makes of it
abbrev pub one : {T A : Type 0} → (T → Option A) → Rule T A
one test = record { is = One test; wide = One test; first = λ t. is_some (test t); goes = λ t. false }

-- a b
abbrev pub both : {T A B C : Type 0} → Rule T A → Rule T B → (A → B → C) → Rule T C
both a b f = record { is = Both a.is b.is f; wide = Both a.wide b.wide f; first = a.first; goes = b.goes }

-- a {b}
abbrev pub chain : {T A B : Type 0} → Rule T A → Rule T B → (A → B → A) → Rule T A
chain a b f = record { is = Chain a.is b.is f; wide = Chain a.wide b.wide f; first = a.first; goes = λ t. (b.first t || b.goes t) || a.goes t }

-- a [b]
abbrev pub perhaps : {T A B : Type 0} → Rule T A → Rule T B → (A → B → A) → Rule T A
perhaps a b f = record {
  is = λ ts z. a.is ts z ⊎ Both a.is b.is f ts z;
  wide = λ ts z. a.wide ts z ⊎ Both a.wide b.wide f ts z;
  first = a.first;
  goes = λ t. (b.first t || b.goes t) || a.goes t;
}

-- a | b
abbrev pub either : {T A : Type 0} → Rule T A → Rule T A → Rule T A
either a b = record {
  is = λ ts z. a.is ts z ⊎ b.is ts z;
  wide = λ ts z. a.wide ts z ⊎ b.wide ts z;
  first = λ t. a.first t || b.first t;
  goes = λ t. a.goes t || b.goes t;
}

-- a, whose tree becomes another
abbrev pub mapped : {T A B : Type 0} → Rule T A → (A → B) → Rule T B
mapped a f = record { is = Mapped a.is f; wide = Mapped a.wide f; first = a.first; goes = a.goes }

-- a, and in the larger language also one token that passes, for any tree
abbrev pub stands : {T A : Type 0} → Rule T A → (T → Bool) → Rule T A
stands a test = record {
  is = a.is;
  wide = λ ts z. a.wide ts z ⊎ Single test ts;
  first = λ t. a.first t || test t;
  goes = a.goes;
}

-- Whatever follows with the same next token, a text at the front that what follows it stops is this front, with this tree.
pub record Only {T A : Type 0} (R : List T → A → Type 0) (goes : T → Bool) (front rest : List T) (x : A) : Type 0 where
  pub only : (next us vs : List T) (y : A) → SameHead rest next → R us y → Stops goes vs → us ++ vs ≡ front ++ next → (us ≡ front) × (y ≡ x)

-- Whatever follows with the same next token, no text stands at the front that what follows it stops.
pub record Never {T A : Type 0} (R : List T → A → Type 0) (goes : T → Bool) (front rest : List T) : Type 0 where
  pub never : (next us vs : List T) (y : A) → SameHead rest next → R us y → Stops goes vs → us ++ vs ≡ front ++ next → ⊥

-- Reading the rule's longest text off the front of ts gives the tree x and leaves rest, and with the token after it nothing else is read.
pub record Took {T A : Type 0} (r : Rule T A) (ts : List T) (x : A) (rest : List T) : Type 0 where
  pub front : List T
  pub text : ts ≡ front ++ rest
  pub is : r.is front x
  pub only : Only r.wide r.goes front rest x

-- The next token stands where it may in the larger language alone (true), or it can't go on there either (false).
abbrev pub Beyond : {T A : Type 0} → Bool → Rule T A → List T → List T → Type 0
Beyond false r front rest = Never r.wide r.goes front rest
Beyond true r front [] = ⊥
Beyond true r front (t ∷ rest) = Begins r.wide (front ++ t ∷ [])

-- The tokens before rest begin a text of the rule, and with the token after them, or at the end, none goes on or is whole. `wider` says whether
-- that token stands in a place where the larger language has it.
pub record Stuck {T A : Type 0} (wider : Bool) (r : Rule T A) (ts rest : List T) : Type 0 where
  pub front : List T
  pub text : ts ≡ front ++ rest
  pub begins : Begins r.is front
  pub none : Never r.is r.goes front rest
  pub beyond : Beyond wider r front rest

-- At the end the tokens are no text of the language; before the end they and the next one begin none.
abbrev pub NoneOn : {T A : Type 0} → (List T → A → Type 0) → List T → List T → Type 0
NoneOn {T} {A} R front [] = (x : A) → R front x → ⊥
NoneOn R front (t ∷ rest) = Begins R (front ++ t ∷ []) → ⊥

-- The next token is one that the larger language has there (true), or there is none or it isn't (false).
abbrev pub IsBeyond : {T A : Type 0} → Bool → (List T → A → Type 0) → List T → List T → Type 0
IsBeyond false R front [] = Unit {0}
IsBeyond false R front (t ∷ rest) = Begins R (front ++ t ∷ []) → ⊥
IsBeyond true R front [] = ⊥
IsBeyond true R front (t ∷ rest) = Begins R (front ++ t ∷ [])

-- rest begins with the first token at which no text of the rule can go on, or is empty where the tokens begin texts but are none.
-- `wider` says whether the token is one that the larger language has there.
pub record Fault {T A : Type 0} (wider : Bool) (r : Rule T A) (ts rest : List T) : Type 0 where
  pub front : List T
  pub text : ts ≡ front ++ rest
  pub begins : Begins r.is front
  pub none : NoneOn r.is front rest
  pub beyond : IsBeyond wider r.wide front rest
