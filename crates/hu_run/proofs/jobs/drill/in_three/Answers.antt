use Rattle.std.proofs.Common.{◌≡◌, ◌++◌, ◌∙◌, [], take, drop, length, ap, arith, length-drop, append-nil, take-append-drop}
use Rattle.hu_base.specs.Base.{records_of, records_in}
use Rattle.hu_run.proofs.jobs.drill.in_three.Goals as goal

pub split_off-requires-2 : goal.split_off-requires-2
split_off-requires-2 c =
    let rest = ap (λ base. length (records_of base)) c.in_ok-second.ensures.rest in
    omega (arith, rest, length-drop 1900 (records_of c.args.base), c.requires)

pub returns : goal.returns
returns c =
    let all = records_of c.args.base in
    let left = records_of c.in_ok-second.second in
    let first : records_of c.split_off.new.self ≡ take 1900 all = ap records_of c.in_ok-second.ensures.kept in
    let rest : left ≡ drop 1900 all = ap records_of c.in_ok-second.ensures.rest in
    let second : records_of c.split_off-2.new.self ≡ take 50 left = ap records_of c.in_ok-third.ensures.kept in
    let third : records_of c.in_ok-third.third ≡ drop 50 left = ap records_of c.in_ok-third.ensures.rest in
    ap records_in c.in_ok-vec.ensures.items
    ∙ (λ i. first i ++ (second i ++ (third i ++ [])))
    ∙ ap (λ l. take 1900 all ++ (take 50 left ++ l)) (append-nil (drop 50 left))
    ∙ ap (λ l. take 1900 all ++ l) (take-append-drop 50 left ∙ rest)
    ∙ take-append-drop 1900 all
