-- What records share with a batch are records, with no greater sums, and what the totals of a batch say of its items.
use Rattle.std.proofs.Common.{◌≡◌, ◌∙◌, ℕ, zero, suc, ◌+◌, ◌<◌, ◌≤◌, ℤ, unsigned_abs, Bool, true, false, cond, eqb, nat_eq, List, [], ◌∷◌, ◌++◌, ◌||◌, Some}
use Rattle.std.proofs.Common.{map, take, drop, length, get_or, refl, sym, ap, subst, arith, add-one, append-nil, filter, flat_map, sum_by, is_some}
use Rattle.std.specs.List.{All, AllByRecursion, list_any}
use Rattle.std.specs.Map.{lookup}
use Rattle.std.proofs.lemmas.Bool.{eq-eqb, eqb-true}
use Rattle.std.proofs.lemmas.List.{take-append-drop, take_more}
use Rattle.std.proofs.lemmas.List.Concat.{flat_map-append}
use Rattle.std.proofs.lemmas.List.Elements.{recursion_from_All}
use Rattle.std.proofs.lemmas.List.Sums.{sum_by-append, sum_by-cons}
use Rattle.hu_kind.specs.Order.{Ascend}
use Rattle.hu_kind.specs.Record.{IsRecord, absolute_of, has, items_in}
use Rattle.hu_kind.proofs.lemmas.Members.{Member, Member-flat_map, Member-from_filter, Member-from_flat_map}
use Rattle.hu_kind.proofs.lemmas.Occurring.{at_member, by_members, has-member, has-from_member}
use Rattle.hu_kind.proofs.lemmas.Tests.{any-member, any-from_member}
use Rattle.hu_totals.specs.declared.totals.ItemTotal.{ItemTotal}
use Rattle.hu_totals.specs.Totals.{first_seen, item_totals, total_of}
use Rattle.hu_totals.proofs.lemmas.AddingLemmas.{Member-first_seen, Member-from_first_seen}
use Rattle.hu_totals.proofs.lemmas.RankingRules.{All-from_each}
use Rattle.hu_totals.proofs.lemmas.RecordCells.{Ascend-record}
use Rattle.hu_kept.specs.Shared.{batch_items, occurs_in, shared, shared_at, shared_cells, some_of}

module _ (p : ℕ × ℤ → Bool) where
  -- ---- the rules of a record for the cells that pass a test

  each-filter : (P : ℕ × ℤ → Type 0) (cells : List (ℕ × ℤ)) → All P cells → All P (filter p cells)
  each-filter P cells all =
      All-from_each P (filter p cells) (by_members P (filter p cells)
      (λ c m. at_member P c cells (recursion_from_All P cells all) (Member-from_filter p c cells m).0))

  length-few : (cells : List (ℕ × ℤ)) → length (filter p cells) ≤ length cells
  length-few [] = omega arith
  length-few (c ∷ cs) = by (p c) (length-few cs)
    where
      by : (b : Bool) → length (filter p cs) ≤ length cs → length (cond b (c ∷ filter p cs) (filter p cs)) ≤ suc (length cs)
      by true ih = omega (arith, ih)
      by false ih = omega (arith, ih)

  pub absolute-few : (cells : List (ℕ × ℤ)) → absolute_of (filter p cells) ≤ absolute_of cells
  absolute-few [] = omega arith
  absolute-few (c ∷ cs) = by (p c) (absolute-few cs)
    where
      by : (b : Bool) → absolute_of (filter p cs) ≤ absolute_of cs → absolute_of (cond b (c ∷ filter p cs) (filter p cs)) ≤ absolute_of (c ∷ cs)
      by true ih =
          omega (
            arith,
            ih,
            sum_by-cons (λ (cell : ℕ × ℤ). unsigned_abs cell.1) c (filter p cs),
            sum_by-cons (λ (cell : ℕ × ℤ). unsigned_abs cell.1) c cs,
          )
      by false ih = omega (arith, ih, sum_by-cons (λ (cell : ℕ × ℤ). unsigned_abs cell.1) c cs)

  above-filter : (x : ℕ) (cells : List (ℕ × ℤ)) → AllByRecursion (λ y. x < y) (items_in cells) → AllByRecursion (λ y. x < y) (items_in (filter p cells))
  above-filter x [] all = tt
  above-filter x (c ∷ cs) all = by (p c) (above-filter x cs all.1)
    where
      by : (b : Bool) → AllByRecursion (λ y. x < y) (items_in (filter p cs))
          → AllByRecursion (λ y. x < y) (items_in (cond b (c ∷ filter p cs) (filter p cs)))
      by true ih = (all.0, ih)
      by false ih = ih

  Ascend-filter : (cells : List (ℕ × ℤ)) → Ascend (items_in cells) → Ascend (items_in (filter p cells))
  Ascend-filter [] up = tt
  Ascend-filter (c ∷ cs) up = by (p c) (above-filter c.0 cs up.0) (Ascend-filter cs up.1)
    where
      by : (b : Bool) → AllByRecursion (λ y. c.0 < y) (items_in (filter p cs)) → Ascend (items_in (filter p cs))
          → Ascend (items_in (cond b (c ∷ filter p cs) (filter p cs)))
      by true above ih = (above, ih)
      by false above ih = ih

  adjacent : (cells : List (ℕ × ℤ)) (k : ℕ) (d : ℕ × ℤ) → Ascend (items_in cells) → suc k < length cells → (get_or cells k d).0 < (get_or cells (suc k) d).0
  adjacent [] k d up within = absurd (omega arith)
  adjacent (a ∷ []) k d up within = absurd (omega arith)
  adjacent (a ∷ b ∷ cells) zero d up within = up.0.0
  adjacent (a ∷ b ∷ cells) (suc k) d up within = adjacent (b ∷ cells) k d up.1 (omega arith)

  pub IsRecord-filter : (cells : List (ℕ × ℤ)) → IsRecord cells → 0 < length (filter p cells) → IsRecord (filter p cells)
  IsRecord-filter cells r some = record {
    itemset = record {
      some = some;
      ascending = λ k d within. rw add-one (adjacent (filter p cells) k d (Ascend-filter cells (Ascend-record cells r)) (omega arith));
      in_range = each-filter (λ cell. cell.0 ≤ 2147483647) cells r.itemset.in_range;
    };
    few = omega (arith, length-few cells, r.few);
    sum_fits = omega (arith, absolute-few cells, r.sum_fits);
  }

-- ---- sums

sum-some : (cells : List (ℕ × ℤ)) → sum_by absolute_of (some_of cells) ≡ absolute_of cells
sum-some [] = refl
sum-some (c ∷ cs) = omega (arith, sum_by-cons absolute_of (c ∷ cs) [])

pub sum-shared : (batch records : List (List (ℕ × ℤ))) → sum_by absolute_of (shared batch records) ≤ sum_by absolute_of records
sum-shared batch [] = omega arith
sum-shared batch (r ∷ rs) =
    omega (
      arith,
      sum_by-append absolute_of (some_of (shared_cells batch r)) (shared batch rs),
      sum-some (shared_cells batch r),
      absolute-few (λ cell. occurs_in batch cell.0) r,
      sum_by-cons absolute_of r rs,
      sum-shared batch rs,
    )

-- what was shared so far and what the record at the next place shares
pub sum-next : (batch records : List (List (ℕ × ℤ))) (places : List ℕ) (i : ℕ) (before : List (List (ℕ × ℤ)))
    → i < length places → before ≡ shared_at batch records (take i places)
    → shared_at batch records places ≡ shared batch records
    → sum_by absolute_of before + absolute_of (shared_cells batch (get_or records (get_or places i 0) [])) ≤ sum_by absolute_of records
sum-next batch records places i before within so_far whole =
    let place = get_or places i 0 in
    let share : ℕ → List (List (ℕ × ℤ)) = λ place. some_of (shared_cells batch (get_or records place [])) in
    let front = take (i + 1) places in
    let rest = drop (i + 1) places in
    let parts : shared_at batch records places ≡ (shared_at batch records (take i places) ++ share place) ++ shared_at batch records rest =
    ap (shared_at batch records) (sym (take-append-drop (i + 1) places))
    ∙ flat_map-append share front rest
    ∙ ap (λ rs. rs ++ shared_at batch records rest)
    (ap (shared_at batch records) (take_more places i 0 within)
    ∙ flat_map-append share (take i places) (place ∷ [])
    ∙ ap (λ rs. shared_at batch records (take i places) ++ rs) (append-nil (share place))) in
    omega (
      arith,
      ap (sum_by absolute_of) so_far,
      ap (sum_by absolute_of) parts,
      ap (sum_by absolute_of) whole,
      sum-shared batch records,
      sum-some (shared_cells batch (get_or records place [])),
      sum_by-append absolute_of (shared_at batch records (take i places)) (share place),
      sum_by-append absolute_of (shared_at batch records (take i places) ++ share place) (shared_at batch records rest),
    )

-- ---- the items of a batch

found-keys : (f : ℕ → ItemTotal) (item : ℕ) (keys : List ℕ)
    → is_some (lookup (nat_eq item) (map (λ key. (key, f key)) keys)) ≡ list_any (eqb item) keys
found-keys f item [] = refl
found-keys f item (key ∷ keys) = by (eqb item key) (found-keys f item keys)
  where
    by : (b : Bool) → is_some (lookup (nat_eq item) (map (λ key. (key, f key)) keys)) ≡ list_any (eqb item) keys
        → is_some (cond b (Some (f key)) (lookup (nat_eq item) (map (λ key. (key, f key)) keys))) ≡ (b || list_any (eqb item) keys)
    by true ih = refl
    by false ih = ih

pub occurs-member : (records : List (List (ℕ × ℤ))) (item : ℕ) → occurs_in records item ≡ true → Member item (batch_items records)
occurs-member records item h =
    let r = any-member (has item) records h in
    Member-first_seen item (flat_map items_in records) (Member-flat_map items_in r.0 item records r.1 (has-member item r.0 r.2))

pub occurs-totals : (records : List (List (ℕ × ℤ))) (item : ℕ) → is_some (lookup (nat_eq item) (item_totals records)) ≡ occurs_in records item
occurs-totals records item =
    let seen = first_seen (flat_map items_in records) in
    found-keys (total_of records) item seen ∙ same (list_any (eqb item) seen) (occurs_in records item) (λ h.
    let key = any-member (eqb item) seen h in
    let m = Member-from_first_seen key.0 (flat_map items_in records) key.1 in
    let r = Member-from_flat_map items_in key.0 records m in
    any-from_member (has item) r.0 records r.1 (has-from_member item r.0 (subst (λ i. Member i (items_in r.0)) (sym (eqb-true item key.0 key.2)) r.2))) (λ h.
    any-from_member (eqb item) item seen (occurs-member records item h) (eq-eqb item item refl))
  where
    same : (a b : Bool) → (a ≡ true → b ≡ true) → (b ≡ true → a ≡ true) → a ≡ b
    same true b f g = sym (f refl)
    same false true f g = g refl
    same false false f g = refl
