-- Reading a body of a stated length.
use Rattle.std.proofs.Common.{◌≡◌, ◌++◌, ◌∙◌, ◌≤◌, ◌<◌, ◌+◌, ◌-◌, ℕ, List, [], ◌∷◌, length, take, drop, min, true, Ok, Err, Result, inl, inr, ◌⊎◌, refl, sym, ap, subst, append_assoc, append-nil, length-append, arith}
use Rattle.std.proofs.lemmas.Bool.{cases_lt}
use Rattle.std.proofs.lemmas.List.{length-take, take_all, drop_all}
use Rattle.std.proofs.Math.Seq.{take-add}
use Rattle.std.specs.Io.KnownBytes.{prepend_known, append_known}
use Rattle.outside.specs.Outside.{SourceTold, ReadsBytes, Gave, Rose}
use Rattle.outside.proofs.Known.{Gave-then}
use Rattle.http_grammar.specs.declared.fault.HttpFault.TheVariants.{BadHead, LongHead, LongBody, BadLength, Coding, Cut}
use Rattle.http_wire.specs.Bodies.{ReadsExactly, Fills}
use Rattle.http_wire.specs.declared.fault.WireStop.{WireStop}
use Rattle.http_wire.specs.declared.fault.WireStop.TheVariants.{Bad, ReadFault, Memory}

-- a read that gave nothing
pub ended_read : (old new : SourceTold) (room : List ℕ) (n : ℕ) → ReadsBytes old new (take n room) n → n ≡ 0 → old.faults ≤ new.faults → Gave old new [] × (new.ended ≡ true)
ended_read old new room n r none later =
    let nothing : take n room ≡ [] = ap (λ (k : ℕ). take k room) none in (
      record {
        left = subst (λ (b : List ℕ). old.left ≡ prepend_known b new.left) nothing r.left;
        given = subst (λ (b : List ℕ). new.given ≡ append_known old.given b) nothing r.given;
        later = later;
      },
      (r.at_end none).0,
    )

-- the bytes that came so far, behind those of the start
pub record Came (start body : List ℕ) (filled : ℕ) (old mid : SourceTold) : Type 0 where
  pub got : List ℕ
  pub front : take filled body ≡ start ++ got
  pub gave : Gave old mid got

pub came : {start body : List ℕ} {filled : ℕ} {old mid : SourceTold} → ((got : List ℕ) × (take filled body ≡ start ++ got) × Gave old mid got) → Came start body filled old mid
came (got, e, g) = record { got = got; front = e; gave = g }

came_length : (start body : List ℕ) (filled count : ℕ) (old mid : SourceTold) (c : Came start body filled old mid) → filled ≤ length body
    → filled < length start + count → length c.got < count
came_length start body filled count old mid c within few =
    let n : length (take filled body) ≡ length start + length c.got = ap length c.front ∙ length-append start c.got in
    omega (arith, length-take filled body)

pub cut_body : (start body after : List ℕ) (filled count : ℕ) (old mid new : SourceTold) → Came start body filled old mid → filled ≤ length body
    → filled < length start + count → Gave mid new [] → new.ended ≡ true → ReadsExactly start after count old new (Err (Bad Cut))
cut_body start body after filled count old mid new c within few gave over = record {
  got = c.got;
  gave = subst (Gave old new) (append-nil c.got) (Gave-then old mid new c.got [] c.gave gave);
  answer = (came_length start body filled count old mid c within few, over);
}

pub faulted_body : (start body after : List ℕ) (filled count : ℕ) (old mid new : SourceTold) → Came start body filled old mid → filled ≤ length body
    → filled < length start + count → Gave mid new [] → Rose mid.faults new.faults → ReadsExactly start after count old new (Err ReadFault)
faulted_body start body after filled count old mid new c within few gave rose = record {
  got = c.got;
  gave = subst (Gave old new) (append-nil c.got) (Gave-then old mid new c.got [] c.gave gave);
  answer = (came_length start body filled count old mid c within few, (let f : old.faults ≤ mid.faults = c.gave.later in omega arith));
}

pub more_came : (start body room new' : List ℕ) (filled more : ℕ) (old mid new : SourceTold) → Came start body filled old mid
    → take filled room ≡ take filled body → take filled new' ≡ take filled room → Gave mid new (take more (drop filled new'))
    → (got : List ℕ) × (take (filled + more) new' ≡ start ++ got) × Gave old new got
more_came start body room new' filled more old mid new c front front' gave = (
  c.got ++ take more (drop filled new'),
  take-add filled more new' ∙ ap (λ (t : List ℕ). t ++ take more (drop filled new')) (front' ∙ front ∙ c.front) ∙ append_assoc start c.got (take more (drop filled new')),
  Gave-then old mid new c.got (take more (drop filled new')) c.gave gave,
)

-- ---- first the window, then the source

enough : (before got body body' mid : List ℕ) (count had : ℕ) → had ≡ min count (length before) → mid ≡ body ++ take had before
    → length got ≡ count - had → body' ≡ mid ++ got
    → (count ≤ length (before ++ got)) × (drop had before ≡ drop count (before ++ got)) × (body' ≡ body ++ take count (before ++ got))
enough before got body body' mid count had h m n b = by_order (cases_lt (length before) count)
  where
    joined : body' ≡ body ++ (take had before ++ got)
    joined = b ∙ ap (λ (t : List ℕ). t ++ got) m ∙ append_assoc body (take had before) got

    total : length (before ++ got) ≡ length before + length got
    total = length-append before got

    by_order : (length before < count) ⊎ (count ≤ length before)
        → (count ≤ length (before ++ got)) × (drop had before ≡ drop count (before ++ got)) × (body' ≡ body ++ take count (before ++ got))
    by_order (inl few) =
        let all : length (before ++ got) ≤ count = omega (arith, total) in
        let most : length before ≤ had = omega (arith, total) in (
          omega (arith, total),
          drop_all had before most ∙ sym (drop_all count (before ++ got) all),
          joined ∙ ap (λ (t : List ℕ). body ++ (t ++ got)) (take_all had before most) ∙ ap (λ (t : List ℕ). body ++ t) (sym (take_all count (before ++ got) all)),
        )
    by_order (inr some) =
        let same : had ≡ count = omega (arith, total) in
        let nothing : got ≡ [] = no_length got (omega (arith, total)) in
        let alone : before ++ got ≡ before = ap (λ (t : List ℕ). before ++ t) nothing ∙ append-nil before in (
          omega (arith, total),
          ap (λ (k : ℕ). drop k before) same ∙ ap (drop count) (sym alone),
          joined ∙ ap (λ (t : List ℕ). body ++ (take had before ++ t)) nothing ∙ ap (λ (t : List ℕ). body ++ t) (append-nil (take had before))
              ∙ ap (λ (k : ℕ). body ++ take k before) same ∙ ap (λ (t : List ℕ). body ++ take count t) (sym alone),
        )
      where
        no_length : (xs : List ℕ) → length xs ≡ 0 → xs ≡ []
        no_length [] e = refl
        no_length (x ∷ xs) e = absurd (omega arith)

too_few : (before got : List ℕ) (count had : ℕ) → had ≡ min count (length before) → length got < count - had → length (before ++ got) < count
too_few before got count had h few = omega (arith, length-append before got)

pub filled_by : (before after body body' mid : List ℕ) (count had : ℕ) (old new : SourceTold) (r : Result (Unit {0}) WireStop) → had ≡ min count (length before)
    → after ≡ drop had before → mid ≡ body ++ take had before → ReadsExactly mid body' (count - had) old new r → Fills before after body body' count old new r
filled_by before after body body' mid count had old new (Ok u) h a m x =
    let e = enough before x.got body body' mid count had h m x.answer.0 x.answer.1 in
    record { got = x.got; gave = x.gave; answer = (e.0, a ∙ e.1, e.2) }
filled_by before after body body' mid count had old new (Err (Bad Cut)) h a m x =
    record { got = x.got; gave = x.gave; answer = (too_few before x.got count had h x.answer.0, x.answer.1) }
filled_by before after body body' mid count had old new (Err (Bad BadHead)) h a m x = absurd x.answer
filled_by before after body body' mid count had old new (Err (Bad LongHead)) h a m x = absurd x.answer
filled_by before after body body' mid count had old new (Err (Bad LongBody)) h a m x = absurd x.answer
filled_by before after body body' mid count had old new (Err (Bad BadLength)) h a m x = absurd x.answer
filled_by before after body body' mid count had old new (Err (Bad Coding)) h a m x = absurd x.answer
filled_by before after body body' mid count had old new (Err ReadFault) h a m x =
    record { got = x.got; gave = x.gave; answer = (too_few before x.got count had h x.answer.0, x.answer.1) }
filled_by before after body body' mid count had old new (Err Memory) h a m x = record { got = x.got; gave = x.gave; answer = tt }
