-- Which items are tried as those that close a key: all, or those that have a rank below `last`.
use Rattle.std.specs.Prelude.{ℕ, Bool, true, false, nat_eq, nat_lt, position, Option, None, Some, List}
use Rattle.hu_closed.specs.declared.candidates.Tried.{Tried}
use Rattle.hu_closed.specs.declared.candidates.Tried.TheVariants.{All, Below}

-- whether there is a rank and it is below `last`
abbrev pub is_below : Option ℕ → ℕ → Bool
is_below None last = false
is_below (Some rank) last = nat_lt rank last

-- whether an item has a rank below `last`
abbrev pub has_rank_below : List ℕ → ℕ → ℕ → Bool
has_rank_below table last item = is_below (position (nat_eq item) table) last

-- whether an item is tried
abbrev pub is_tried : Tried → ℕ → Bool
is_tried All item = true
is_tried (Below ranked last) item = has_rank_below ranked.now.items last item
