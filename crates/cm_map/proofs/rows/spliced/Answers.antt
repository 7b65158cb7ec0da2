use Rattle.std.proofs.Common.{◌-◌, length, map, take, drop, ◌++◌, sym, ap, ◌∙◌, append_assoc}
use Rattle.std.proofs.lemmas.List.{take-map, drop-map, take_rest}
use Rattle.std.specs.Arc.{arc_value}
use Rattle.cm_map.proofs.rows.spliced.Goals as goal

pub returns : goal.returns
returns g c =
    let xs = c.args.xs.now in
    let rest = take (length xs - c.args.to) (drop c.args.to xs) in
    let a = c.in_ok-push_all.ensures ∙ ap (λ v. map arc_value v ++ map arc_value (take c.args.from xs)) c.in_ok-out.ensures.items in
    let b = c.in_ok-push_all-2.ensures in
    let d = c.in_ok-push_all-3.ensures in
    d ∙ ap (λ l. l ++ map arc_value rest) (b ∙ ap (λ l. l ++ map arc_value c.args.new.now) a)
    ∙ append_assoc (map arc_value (take c.args.from xs)) (map arc_value c.args.new.now) (map arc_value rest)
    ∙ (λ i. sym (take-map arc_value c.args.from xs) i ++ (map arc_value c.args.new.now ++ (ap (map arc_value) (take_rest xs c.args.to) ∙ sym (drop-map arc_value c.args.to xs)) i))
