use Rattle.std.proofs.Common.{rules, ◌≡◌, [], ◌∷◌, ◌++◌, ap, ◌∙◌, length, to_z, of_z}
use Rattle.std.specs.Int.{w128}
use Rattle.std.specs.Fmt.{decimal, signed_decimal}
use Rattle.hu_run.specs.Stop.{denied_line, denial_text}
use Rattle.hu_run.proofs.DenialLemmas.{six-parts}
use Rattle.hu_run.proofs.denial.fault_line.Goals as goal

pub returns : goal.returns
returns c =
    let parts = c.denial_parts.result in
    let end = 10 ∷ [] in
    let six : length parts ≡ 6 = search rules in
    let text = six-parts parts _ end six ∙ ap (λ t. t ++ end) c.denial_parts.ensures in
    let line : signed_decimal (to_z w128 (of_z w128 c.from.result)) ≡ decimal (denied_line c.args.fault) = search rules in
    ap (λ t. 104 ∷ 117 ∷ 112 ∷ 109 ∷ 58 ∷ 32 ∷ (c.args.cert.now ++ 58 ∷ (signed_decimal (to_z w128 (of_z w128 c.from.result)) ++ 58 ∷ 32 ∷ t))) text
    ∙ ap (λ n. 104 ∷ 117 ∷ 112 ∷ 109 ∷ 58 ∷ 32 ∷ (c.args.cert.now ++ 58 ∷ (n ++ 58 ∷ 32 ∷ (denial_text c.args.fault ++ end)))) line
