-- What a crash leaves in each of the two steps of a `put`.
use Rattle.std.proofs.Common.{◌≡◌, ◌≢◌, inl, inr, ℕ, ◌+◌, ◌-◌, ◌≤◌, ◌<◌, max, false, List, [], ◌∷◌, ◌++◌, length, get_or, take, drop, refl, sym, ap, subst, ◌∙◌, arith, append_assoc, length-append, length-drop, length-take, take-append-drop}
use Rattle.std.specs.List.{AllByRecursion}
use Rattle.std.proofs.lemmas.Bool.{cases_eq}
use Rattle.std.proofs.lemmas.Bool.Decides.{nat_tests}
use Rattle.std.proofs.lemmas.List.{take_at, drop_at, drop_more, get_or-take, get_or-drop, ext_get_or}
use Rattle.disk.specs.Disks.{FileTold, overwritten}
use Rattle.disk.specs.Crashes.{MayLeave, IsSynced, is_within, farthest}
use Rattle.journal_file.specs.Records.{records, IsShort, IsClosedAfter, IsBeforeOrAfter}
use Rattle.journal_file.proofs.Places.{records-append, all-append}

not_within : (at n i : ℕ) → i < at → is_within ((at, n) ∷ []) i ≡ false
not_within at n i lt = grind (arith, nat_tests)

past_within : (at n i : ℕ) → at + n ≤ i → is_within ((at, n) ∷ []) i ≡ false
past_within at n i le = grind (arith, nat_tests)

-- a crash leaves what was synced, where nothing was written since
pub only_synced : (file : FileTold) (left : List ℕ) → IsSynced file → MayLeave file left → left ≡ file.seen
only_synced file left is may =
    let far : farthest (length file.synced) file.written ≡ length file.synced = ap (λ (r : List (ℕ × ℕ)). farthest (length file.synced) r) is.written in
    let long : length left ≡ length file.synced = omega (arith, may.no_shorter, may.no_longer, far) in
    ext_get_or 0 left file.synced long (λ i lt. may.stays i (omega (arith, lt, long)) (ap (λ (r : List (ℕ × ℕ)). is_within r i) is.written)) ∙ is.synced

-- what was synced before the one range that was written since
front_stays : (file : FileTold) (left : List ℕ) (at n : ℕ) → file.written ≡ (at, n) ∷ [] → at ≤ length file.synced → MayLeave file left → take at left ≡ take at file.synced
front_stays file left at n written le may =
    ext_get_or 0 (take at left) (take at file.synced) (omega (arith, length-take at left, length-take at file.synced, may.no_shorter)) (λ i lt.
    let short : i < at = omega (arith, length-take at left, lt) in
    get_or-take at left i 0 short ∙ may.stays i (omega (arith, short, le)) (ap (λ (r : List (ℕ × ℕ)). is_within r i) written ∙ not_within at n i short) ∙ sym (get_or-take at file.synced i 0 short))

-- and behind it, where it ends within what was synced
back_stays : (file : FileTold) (left : List ℕ) (at n : ℕ) → file.written ≡ (at, n) ∷ [] → at + n ≤ length file.synced → MayLeave file left → drop (at + n) left ≡ drop (at + n) file.synced
back_stays file left at n written le may =
    let far : farthest (length file.synced) file.written ≡ max (at + n) (length file.synced) = ap (λ (r : List (ℕ × ℕ)). farthest (length file.synced) r) written in
    let long : length left ≡ length file.synced = omega (arith, may.no_shorter, may.no_longer, far, le) in
    ext_get_or 0 (drop (at + n) left) (drop (at + n) file.synced) (omega (arith, length-drop (at + n) left, length-drop (at + n) file.synced, long)) (λ i lt.
    get_or-drop (at + n) left i 0 ∙ may.stays (at + n + i) (omega (arith, length-drop (at + n) left, lt, long)) (ap (λ (r : List (ℕ × ℕ)). is_within r (at + n + i)) written ∙ past_within at n (at + n + i) (omega arith)) ∙ sym (get_or-drop (at + n) file.synced i 0))

module _ (ps : List (List ℕ)) (end : ℕ) (ends : length (records ps) ≡ end) where
  -- up to a gate, and what stands behind it
  front_is : (g : ℕ) (x : List ℕ) → take (end + 1) (records ps ++ g ∷ x) ≡ records ps ++ g ∷ []
  front_is g x =
      ap (λ (l : List ℕ). take (end + 1) l) (sym (append_assoc (records ps) (g ∷ []) x))
      ∙ take_at (records ps ++ g ∷ []) x (end + 1) (omega (arith, length-append (records ps) (g ∷ []), ends))

  back_is : (g : ℕ) (x : List ℕ) → drop (end + 1) (records ps ++ g ∷ x) ≡ x
  back_is g x =
      ap (λ (l : List ℕ). drop (end + 1) l) (sym (append_assoc (records ps) (g ∷ []) x))
      ∙ drop_at (records ps ++ g ∷ []) x (end + 1) (omega (arith, length-append (records ps) (g ∷ []), ends))

  size : (g : ℕ) (x : List ℕ) → length (records ps ++ g ∷ x) ≡ end + 1 + length x
  size g x = omega (arith, length-append (records ps) (g ∷ x), ends)

  -- the closed gate stands in whatever a crash leaves of a write behind it
  pub behind_the_gate : (file : FileTold) (left : List ℕ) (n : ℕ) → IsClosedAfter ps file.synced → file.written ≡ (end + 1, n) ∷ [] → MayLeave file left → IsClosedAfter ps left
  behind_the_gate file left n c written may =
      let long : end + 1 ≤ length file.synced = omega (arith, ap length c.file_is, size c.gate c.behind) in
      let front : take (end + 1) left ≡ records ps ++ c.gate ∷ [] =
      front_stays file left (end + 1) n written long may ∙ ap (λ (l : List ℕ). take (end + 1) l) c.file_is ∙ front_is c.gate c.behind in
      record {
        gate = c.gate;
        behind = drop (end + 1) left;
        file_is = sym (take-append-drop (end + 1) left) ∙ ap (λ (l : List ℕ). l ++ drop (end + 1) left) front ∙ append_assoc (records ps) (c.gate ∷ []) (drop (end + 1) left);
        closed = c.closed;
        short = c.short;
      }

  -- the file once the new records stand behind the closed gate
  pub staged : (body file : List ℕ) → IsClosedAfter ps file → (g : ℕ) × (t : List ℕ) × (g ≢ 1) × (overwritten file (end + 1) body ≡ records ps ++ g ∷ (body ++ t))
  staged body file c = (
    c.gate,
    drop (end + 1 + length body) file,
    c.closed,
    ap (λ (l : List ℕ). l ++ body ++ drop (end + 1 + length body) file) (ap (λ (l : List ℕ). take (end + 1) l) c.file_is ∙ front_is c.gate c.behind)
        ∙ append_assoc (records ps ++ c.gate ∷ []) body (drop (end + 1 + length body) file)
        ∙ append_assoc (records ps) (c.gate ∷ []) (body ++ drop (end + 1 + length body) file),
  )

  -- whole records stand behind whatever a crash leaves of the gate
  pub opened : (qs : List (List ℕ)) (body t : List ℕ) → 1 ∷ body ≡ records qs ++ 0 ∷ [] → AllByRecursion IsShort ps → AllByRecursion IsShort qs → IsClosedAfter (ps ++ qs) (records ps ++ 1 ∷ (body ++ t))
  opened qs body t frame short short' = record {
    gate = 0;
    behind = t;
    file_is =
        ap (λ (l : List ℕ). records ps ++ (l ++ t)) frame
        ∙ ap (λ (l : List ℕ). records ps ++ l) (append_assoc (records qs) (0 ∷ []) t)
        ∙ sym (append_assoc (records ps) (records qs) (0 ∷ t))
        ∙ ap (λ (l : List ℕ). l ++ 0 ∷ t) (sym (records-append ps qs));
    closed = omega arith;
    short = all-append IsShort ps qs short short';
  }

  pub any_gate : (qs : List (List ℕ)) (g : ℕ) (body t : List ℕ) → 1 ∷ body ≡ records qs ++ 0 ∷ [] → AllByRecursion IsShort ps → AllByRecursion IsShort qs → IsBeforeOrAfter ps qs (records ps ++ g ∷ (body ++ t))
  any_gate qs g body t frame short short' = elim (cases_eq g 1) [
    | inl is_open ↦ inr (inr (subst (λ (k : ℕ). IsClosedAfter (ps ++ qs) (records ps ++ k ∷ (body ++ t))) (sym is_open) (opened qs body t frame short short')))
    | inr shut ↦ inl (inr (record { gate = g; behind = body ++ t; file_is = refl; closed = shut; short = short }))
  ]

  pub at_the_gate : (file : FileTold) (left : List ℕ) (qs : List (List ℕ)) (g : ℕ) (body t : List ℕ) → file.synced ≡ records ps ++ g ∷ (body ++ t) → file.written ≡ (end, 1) ∷ []
      → 1 ∷ body ≡ records qs ++ 0 ∷ [] → AllByRecursion IsShort ps → AllByRecursion IsShort qs → MayLeave file left → IsBeforeOrAfter ps qs left
  at_the_gate file left qs g body t synced written frame short short' may =
      let long : length file.synced ≡ end + 1 + length (body ++ t) = ap length synced ∙ size g (body ++ t) in
      let front : take end left ≡ records ps =
      front_stays file left end 1 written (omega (arith, long)) may ∙ ap (λ (l : List ℕ). take end l) synced ∙ take_at (records ps) (g ∷ (body ++ t)) end ends in
      let back : drop (end + 1) left ≡ body ++ t =
      back_stays file left end 1 written (omega (arith, long)) may ∙ ap (λ (l : List ℕ). drop (end + 1) l) synced ∙ back_is g (body ++ t) in
      let whole : left ≡ records ps ++ get_or left end 0 ∷ (body ++ t) =
      sym (take-append-drop end left) ∙ ap (λ (l : List ℕ). l ++ drop end left) front
      ∙ ap (λ (l : List ℕ). records ps ++ l) (drop_more left end 0 (omega (arith, long, may.no_shorter)) ∙ ap (λ (l : List ℕ). get_or left end 0 ∷ l) back) in
      subst (IsBeforeOrAfter ps qs) (sym whole) (any_gate qs (get_or left end 0) body t frame short short')

  -- the file once the gate is open
  pub gate_written : (g : ℕ) (x : List ℕ) → overwritten (records ps ++ g ∷ x) end (1 ∷ []) ≡ records ps ++ 1 ∷ x
  gate_written g x =
      ap (λ (l : List ℕ). l ++ (1 ∷ []) ++ drop (end + 1) (records ps ++ g ∷ x)) (take_at (records ps) (g ∷ x) end ends)
      ∙ ap (λ (l : List ℕ). records ps ++ (1 ∷ []) ++ l) (back_is g x)
      ∙ append_assoc (records ps) (1 ∷ []) x

  -- where the new records end
  pub new_end : (qs : List (List ℕ)) (frame : List ℕ) → frame ≡ records qs ++ 0 ∷ [] → length (records (ps ++ qs)) ≡ end + (length frame - 1)
  new_end qs frame is = omega (arith, ends, ap length (records-append ps qs), length-append (records ps) (records qs), ap length is, length-append (records qs) (0 ∷ []))
