use Rattle.std.proofs.Common.{◌≡◌, ℕ, ℤ, ◌≤◌, List, ◌∷◌, ◌++◌, drop, length, map, take}
use Rattle.hu_totals.specs.Weights.{numbers_of}
use Rattle.hu_certify.specs.Spots.{opened_lines, rank_pair, spots_of, IsNode}
use Rattle.hu_certify.specs.Table.{IsAtRest}
use Rattle.hu_certify.specs.Text.{line_of, lines_text}
use Rattle.hu_certify.proofs.TreeLemmas.{cells_left}
use Rattle.hu_certify.proofs.certificate.+put_prefix.Given as goal

abbrev pub decreases-put_prefix : goal.decreases-put_prefix
decreases-put_prefix l = cells_left (spots_of l.places.now)

abbrev pub invariant-children : goal.invariant-children
invariant-children l = record {
  prefix : l.draft.prefix.items ≡ l.fn.draft.prefix.items;
  rest : IsAtRest (length l.items) l.table;
  short : length l.draft.text.items ≤ 268435456;
  text : (records : List (List (ℕ × ℤ))) (from : ℕ) (path : List ℕ) → IsNode records (numbers_of l.items) from path l.fn.draft.prefix.items (spots_of l.places)
      → l.draft.text.items ≡ l.fn.draft.text.items
      ++ lines_text (line_of records l.fn.terms.least path (drop from (numbers_of l.items)) ∷ opened_lines records l.fn.terms.least (numbers_of l.items) path
      (map rank_pair (take l.at l.child-items)));
}
