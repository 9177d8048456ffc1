-- Collectors that want no long keys.
use Rattle.std.specs.Prelude.{◌≡◌, ℕ, ◌<◌, false, List, length}
use Rattle.std.specs.List.{AllByRecursion}
use Rattle.hu_kind.specs.Order.{Ascend}
use Rattle.hu_collect.specs.Rule.{Rule}
use Rattle.hu_collect.specs.Ranks.{key_of}

-- of sets of ranks of a table none is wanted that has more ranks than a number
abbrev pub WantsUpto : Rule → List ℕ → ℕ → Type 0
WantsUpto rule table long = (set : List ℕ) → Ascend set
    → AllByRecursion (λ rank. rank < length table) set → long < length set
    → rule.wants (key_of table set) ≡ false
