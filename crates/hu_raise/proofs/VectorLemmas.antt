-- Vectors of cells and of rests are seen as lists.
use Rattle.std.proofs.Common.{◌≡◌, ℕ, ◌<◌, List, [], map, length, get_or, set, sym, ap, ◌∙◌, Vec, Global}
use Rattle.std.proofs.lemmas.List.{get_or-map, map-set}
use Rattle.hu_totals.specs.declared.ranked.Dense.{Dense}
use Rattle.hu_totals.specs.View.{pairs_in}
use Rattle.hu_raise.specs.declared.rests.Rest.{Rest}
use Rattle.hu_raise.specs.Rests.{list_at}
use Rattle.hu_raise.specs.View.{rests_of, waiting_in}

-- the record at a place, as pairs
pub pairs-at : (records : List (Vec Dense Global)) (i : ℕ) (record' : Vec Dense Global) → i < length records → record'
    ≡ get_or records i record' → pairs_in record' ≡ get_or (map pairs_in records) i []
pairs-at records i record' within is = ap pairs_in is ∙ sym (get_or-map pairs_in records i record' [] within)

-- the rests at a place
pub rests-at : (lists : List (Vec Rest Global)) (i : ℕ) (list : Vec Rest Global) → i < length lists → list
    ≡ get_or lists i list → rests_of list.items ≡ list_at (waiting_in lists) i
rests-at lists i list within is =
    ap (λ (v : Vec Rest Global). rests_of v.items) is ∙ sym (get_or-map (λ (v : Vec Rest Global). rests_of v.items) lists i list [] within)

-- a list with other rests
pub waiting-set : (lists : List (Vec Rest Global)) (i : ℕ) (new : Vec Rest Global)
    → waiting_in (set lists i new) ≡ set (waiting_in lists) i (rests_of new.items)
waiting-set lists i new = map-set (λ (v : Vec Rest Global). rests_of v.items) lists i new
