-- What a search of closed patterns makes, with a batch or without.
use Rattle.std.proofs.Common.{◌≡◌, ◌∙◌, ap, ℕ, ℤ, Option, None, Some, List, sym}
use Rattle.std.specs.List.{AllByRecursion}
use Rattle.hu_kind.specs.declared.entry.Entry.{Entry}
use Rattle.hu_kind.specs.Record.{IsRecord}
use Rattle.hu_kind.specs.Itemsets.{closed_patterns, item_patterns}
use Rattle.hu_collect.specs.Rule.{Rule, made}
use Rattle.hu_kept.specs.Limited.{content_in, rule_in}
use Rattle.hu_collect.specs.declared.limited.Limited.{Limited}
use Rattle.hu_closed.specs.ClosedOnly.{closed_rule}
use Rattle.hu_collect.proofs.lemmas.Searching.{state_of}
use Rattle.hu_closed.proofs.lemmas.ClosedLemmas.{makes-closed}
use Rattle.hu_kept.specs.Touched.{within}
use Rattle.hu_kept.proofs.TouchedLemmas.{made-closed_touched, made-touched}

pub made-closed_within : (batch : Option (List (List (ℕ × ℤ)))) (inner : Rule) (records : List (List (ℕ × ℤ)))
    (table : List ℕ) (content : List Entry) → AllByRecursion IsRecord records
    → made (within batch (closed_rule inner records table)) content (item_patterns records) ≡ made (within batch inner) content (closed_patterns records)
made-closed_within None inner records table content all = ap (λ s. s.content) (makes-closed (state_of inner content) records table all)
made-closed_within (Some batch) inner records table content all =
    made-closed_touched inner batch records table content all ∙ sym (made-touched inner batch content (closed_patterns records))

-- what is read off at the end of such a search, from the collector that it began with
pub made-closed_around : (batch : Option (List (List (ℕ × ℤ)))) (first inner : Limited)
    (records inside : List (List (ℕ × ℤ))) (table : List ℕ) (found last : List Entry) → AllByRecursion IsRecord records
    → inner ≡ first → inside ≡ records → found ≡ made (within batch (closed_rule (rule_in inner) inside table))
    (content_in inner) (item_patterns records) → last ≡ found
    → last ≡ made (within batch (rule_in first)) (content_in first) (closed_patterns records)
made-closed_around batch first inner records inside table found last all begins same searched is =
    is
    ∙ searched
    ∙ (λ j. made (within batch (closed_rule (rule_in (begins j)) (same j) table)) (content_in (begins j)) (item_patterns records))
    ∙ made-closed_within batch (rule_in first) records table (content_in first) all
