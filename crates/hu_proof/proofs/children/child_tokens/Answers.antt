use Rattle.std.proofs.Common.{◌≡◌, sym, subst, ap, drop, ◌∙◌, ◌++◌, None, append-nil}
use Rattle.hu_proof.specs.Check.{wrong_child}
use Rattle.hu_proof.specs.Judged.{token_items}
use Rattle.hu_proof.specs.Places.{Follows}
use Rattle.hu_proof.specs.Text.{each, token_of, words}
use Rattle.hu_proof.specs.Words.{told}
use Rattle.hu_proof.proofs.Walks.{wrong_child-none}
use Rattle.hu_proof.proofs.children.child_tokens.Goals as goal

pub returns-clause-later : goal.returns-clause-later
returns-clause-later c =
    let order = c.args.order.now in
    let read = c.words.tokens.items in
    let whole = told (each token_of (words c.args.text.now)) in
    let end = c.in_default.ensures.none in
    let same : read ≡ whole = sym (append-nil read) ∙ (ap (λ ws. read ++ told (each token_of ws)) (sym end) ∙ c.words.invariant.so_far) in
    let none : wrong_child (drop c.args.from order) whole ≡ None =
    sym c.words.invariant.fault ∙ ap (λ ws. wrong_child (drop c.words.from order) (told (each token_of ws))) end in
    subst (λ ts. Follows (drop c.args.from order) (token_items ts)) (sym same) (wrong_child-none (drop c.args.from order) whole none)
