-- What an accepted certificate proves, whoever made it.
use Rattle.std.specs.Prelude.{◌≡◌, ℕ, ◌<◌, ℤ, pos, ◌≤ℤ◌, None, List, length}
use Rattle.std.specs.List.{Contains}
use Rattle.std.specs.Ordering.{nat_cmp}
use Rattle.hu_kind.specs.Answer.{item_answer}
use Rattle.hu_kind.specs.Database.{utility}
use Rattle.hu_kind.specs.Order.{Ascend, ranking}
use Rattle.hu_proof.specs.Check.{first_fault}
use Rattle.hu_proof.specs.Opened.{opened, opened_answer}

-- each itemset that reaches the minimum is opened, its items in the order of the text
abbrev pub OpensAllFound : Type 0
OpensAllFound = (records : List (List (ℕ × ℤ))) (least : ℤ) (text : List ℕ) → pos 1 ≤ℤ least
    → first_fault records least text ≡ None →
    (items : List ℕ) → 0 < length items → Ascend items → least ≤ℤ utility records items →
    (prefix : List ℕ) × Contains (opened text) prefix × (ranking nat_cmp prefix ≡ items)

-- and the opened prefixes that reach it are the whole answer
abbrev pub OpensTheAnswer : Type 0
OpensTheAnswer = (records : List (List (ℕ × ℤ))) (least : ℤ) (text : List ℕ) → pos 1 ≤ℤ least
    → first_fault records least text ≡ None →
    opened_answer records least text ≡ item_answer records least None
