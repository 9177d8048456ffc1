-- The certificate of a base is accepted.
use Rattle.std.proofs.Common.{◌≡◌, ℕ, suc, ◌+◌, ◌<◌, ◌≤◌, ◌^◌, Bool, true, false, cond, eqb, nat_lt, ℤ, pos, ◌≤ℤ◌, int_eq, unsigned_abs, None, Some, List, []}
use Rattle.std.proofs.Common.{◌∷◌, ◌++◌, length, sum_by, refl, sym, ap, ◌∙◌, subst, inl, inr, arith, nat_cmp, flat_map, Ordering, Less, Equal, Greater}
use Rattle.std.specs.List.{AllByRecursion}
use Rattle.std.specs.Str.{bytes_eq}
use Rattle.std.specs.BTreeSet.{insert_key}
use Rattle.std.specs.Ordering.{match_ordering}
use Rattle.std.proofs.lemmas.Bool.{cases_Bool, eq-eqb, le-ltb}
use Rattle.std.proofs.lemmas.Map.Lookups.{exact_unsigned}
use Rattle.std.proofs.lemmas.Bool.Decides.{Decides-int_eq}
use Rattle.std.proofs.lemmas.Cmp.{nat_cmp_total}
use Rattle.std.proofs.lemmas.Int.{ints}
use Rattle.std.proofs.lemmas.List.Sums.{sum_by-cons}
use Rattle.std.proofs.lemmas.Slice.Eq.{bytes_eq-Decides}
use Rattle.hu_kind.specs.Database.{utility, items_of}
use Rattle.hu_kind.specs.Order.{ranking, Ascend}
use Rattle.hu_kind.specs.Record.{has, holds, value_of, values_of, absolute_of, items_in, IsRecord}
use Rattle.hu_kind.proofs.lemmas.Each.{each-append, each-from_all}
use Rattle.hu_kind.proofs.lemmas.Occurring.{by_members, at_member}
use Rattle.hu_kind.proofs.lemmas.Members.{Member}
use Rattle.hu_kind.proofs.lemmas.Written.{Lacks}
use Rattle.hu_proof.specs.Bounds.{cut_bound, stands_with}
use Rattle.hu_proof.specs.declared.fault.CheckFault.TheVariants.{WrongMinimum, WrongOrder}
use Rattle.hu_proof.specs.Check.{root, walk, is_order, order_fault, minimum_fault, from_minimum}
use Rattle.hu_proof.specs.Text.{minimum_of, order_of}
use Rattle.hu_totals.specs.Ranked.{by_twu, cells_from}
use Rattle.hu_totals.proofs.lemmas.SortedLists.{Once, Member-from_ranking, Member-to_ranking, ranking-members, length-ranking}
use Rattle.hu_totals.proofs.lemmas.WeightLemmas.{by_twu_exact}
use Rattle.hu_certify.specs.Laws.{CertificateIsAccepted, CertificateIsFaultless}
use Rattle.hu_certify.specs.Spots.{SpotOf, earned, size_of, HasRoom}
use Rattle.hu_certify.specs.Text.{certificate_order, certificate_text, children_of, is_opened, line_of, lines_below, minimum_line, order_line}
use Rattle.hu_certify.proofs.SpotLemmas.{HasRoom-narrowed, most-size}
use Rattle.hu_certify.proofs.NodeLemmas.{spots_with, narrowed-first, earned-with, most-with}
use Rattle.hu_certify.proofs.RootLemmas.{first_spots-at, sizes, ascending}
use Rattle.hu_certify.proofs.RankLemmas.{Once-certificate_order}
use Rattle.hu_certify.proofs.AcceptLemmas.{Reads, walk-all}
use Rattle.hu_certify.proofs.ReadLemmas.{IsItem, IsChild, line-read, line-no_feed, minimum-read, minimum-no_feed, order-read, order-no_feed, pieces-lines}

-- ---- sums over spots fit

earned-size : (spots : List SpotOf) → unsigned_abs (earned spots) ≤ sum_by size_of spots
earned-size [] = omega arith
earned-size (s ∷ ss) = omega (arith, ints, earned-size ss, sum_by-cons size_of s ss)

fewer-cells : (from item : ℕ) (later : List ℕ) (cells : List (ℕ × ℤ))
    → absolute_of (cells_from (from + 1) later cells) ≤ absolute_of (cells_from from (item ∷ later) cells)
fewer-cells from item later cells =
    elim (cases_Bool (has item cells)) [
      | inl h ↦ simp h (omega (arith, sum_by-cons (λ (c : ℕ × ℤ). unsigned_abs c.1) (from, value_of item cells) (cells_from (from + 1) later cells)))
      | inr h ↦ simp h (omega arith)
    ]

fewer-sizes : (records : List (List (ℕ × ℤ))) (from item : ℕ) (later prefix : List ℕ)
    → sum_by size_of (spots_with records later (from + 1) prefix) ≤ sum_by size_of (spots_with records (item ∷ later) from prefix)
fewer-sizes [] from item later prefix = omega arith
fewer-sizes (r ∷ rs) from item later prefix =
    let ih = fewer-sizes rs from item later prefix in
    let here = fewer-cells from item later r in
    let less = sum_by-cons size_of (cells_from (from + 1) later r, values_of prefix r) (spots_with rs later (from + 1) prefix) in
    let more = sum_by-cons size_of (cells_from from (item ∷ later) r, values_of prefix r) (spots_with rs (item ∷ later) from prefix) in
    elim (cases_Bool (holds prefix r)) [ inl e ↦ simp e (omega (arith, ih, here, less, more)) | inr e ↦ simp e ih ]

-- ---- a prefix whose line can be read

record IsFine (records : List (List (ℕ × ℤ))) (prefix later : List ℕ) : Type 0 where
  items : AllByRecursion IsItem prefix
  laters : AllByRecursion IsItem later
  once : Once later
  rank : ℕ
  room : HasRoom (spots_with records later rank prefix)
  up : AllByRecursion (λ r. Ascend (items_in r)) records

deeper : (records : List (List (ℕ × ℤ))) (prefix later : List ℕ) (item : ℕ) → IsFine records prefix (item ∷ later) → IsFine records (prefix ++ item ∷ []) later
deeper records prefix later item is = record {
  items = each-append IsItem prefix (item ∷ []) is.items (is.laters.0, tt);
  laters = is.laters.1;
  once = is.once.1;
  rank = is.rank + 1;
  room = subst HasRoom (narrowed-first records item later is.rank prefix)
      (HasRoom-narrowed is.rank (spots_with records (item ∷ later) is.rank prefix) is.room);
  up = is.up;
}

further : (records : List (List (ℕ × ℤ))) (prefix later : List ℕ) (item : ℕ) → IsFine records prefix (item ∷ later) → IsFine records prefix later
further records prefix later item is = record {
  items = is.items;
  laters = is.laters.1;
  once = is.once.1;
  rank = is.rank + 1;
  room = omega (arith, is.room, fewer-sizes records is.rank item later prefix);
  up = is.up;
}

utility-fits : (records : List (List (ℕ × ℤ))) (prefix later : List ℕ) → IsFine records prefix later → unsigned_abs (utility records prefix) < 2 ^ 127
utility-fits records prefix later is =
    omega (arith, is.room, earned-size (spots_with records later is.rank prefix), ap unsigned_abs (earned-with records later is.rank prefix))

children-fine : (records : List (List (ℕ × ℤ))) (prefix later : List ℕ) → IsFine records prefix later
    → AllByRecursion IsChild (children_of records prefix later)
children-fine records prefix [] is = tt
children-fine records prefix (item ∷ later) is =
    let ih = children-fine records prefix later (further records prefix later item is) in
    let below = deeper records prefix later item is in
    let sizes = most-size (spots_with records later below.rank (prefix ++ item ∷ [])) in
    let same = most-with records later below.rank (prefix ++ item ∷ []) below.once below.up in
    let least : pos 0 ≤ℤ cut_bound records (prefix ++ item ∷ []) later = subst (λ z. pos 0 ≤ℤ z) same sizes.0 in
    let small : unsigned_abs (cut_bound records (prefix ++ item ∷ []) later) < 2 ^ 127 = omega (arith, below.room, sizes.1, ap unsigned_abs same) in
    let child : IsChild (item, cut_bound records (prefix ++ item ∷ []) later) = record { item = is.laters.0; least = least; fits = small } in
    elim (cases_Bool (stands_with records prefix item)) [ inl h ↦ simp h (child, ih) | inr h ↦ simp h ih ]

reads : (records : List (List (ℕ × ℤ))) (least : ℤ) (prefix later : List ℕ) → IsFine records prefix later → Reads records least prefix later
reads records least prefix later is =
    line-read least prefix (utility records prefix) (children_of records prefix later) is.items (utility-fits records prefix later is)
    (children-fine records prefix later is)

feedless : (records : List (List (ℕ × ℤ))) (least : ℤ) (prefix later : List ℕ) → IsFine records prefix later → Lacks 10 (line_of records least prefix later)
feedless records least prefix later is =
    line-no_feed least prefix (utility records prefix) (children_of records prefix later) is.items (utility-fits records prefix later is)
    (children-fine records prefix later is)

below-feedless : (records : List (List (ℕ × ℤ))) (least : ℤ) (prefix later : List ℕ) → IsFine records prefix later
    → AllByRecursion (Lacks 10) (lines_below records least prefix later)
below-feedless records least prefix [] is = tt
below-feedless records least prefix (item ∷ later) is =
    let below = deeper records prefix later item is in
    let here = feedless records least (prefix ++ item ∷ []) later below in
    let inner = below-feedless records least (prefix ++ item ∷ []) later below in
    let rest = below-feedless records least prefix later (further records prefix later item is) in
    by (is_opened records least prefix item later) here inner rest
  where
    by : (b : Bool) → Lacks 10 (line_of records least (prefix ++ item ∷ []) later)
        → AllByRecursion (Lacks 10) (lines_below records least (prefix ++ item ∷ []) later)
        → AllByRecursion (Lacks 10) (lines_below records least prefix later)
        → AllByRecursion (Lacks 10) (cond b (line_of records least (prefix ++ item ∷ []) later ∷ lines_below records least (prefix ++ item ∷ []) later) []
        ++ lines_below records least prefix later)
    by true here inner rest =
        (here, each-append (Lacks 10) (lines_below records least (prefix ++ item ∷ []) later) (lines_below records least prefix later) inner rest)
    by false here inner rest = rest

-- ---- the order

insert-by : (x y : ℕ) (ys : List ℕ) (o : Ordering) → nat_cmp x y ≡ o → (Member x (y ∷ ys) → ⊥) → length (insert_key nat_cmp ys x) ≡ suc (length ys)
    → length (match_ordering o (x ∷ y ∷ ys) (y ∷ ys) (y ∷ insert_key nat_cmp ys x)) ≡ suc (suc (length ys))
insert-by x y ys Less h out ih = refl
insert-by x y ys Equal h out ih = absurd (out (inl (sym (exact_unsigned x y h))))
insert-by x y ys Greater h out ih = ap suc ih

length-insert : (x : ℕ) (ys : List ℕ) → (Member x ys → ⊥) → length (insert_key nat_cmp ys x) ≡ suc (length ys)
length-insert x [] out = refl
length-insert x (y ∷ ys) out = insert-by x y ys (nat_cmp x y) refl out (length-insert x ys (λ m. out (inr m)))

ranked-again : (records : List (List (ℕ × ℤ))) → ranking nat_cmp (certificate_order records) ≡ items_of records
ranked-again records =
    let all = flat_map items_in records in
    ranking-members nat_cmp nat_cmp_total exact_unsigned (certificate_order records) all
    (λ z m. Member-from_ranking nat_cmp z all (Member-from_ranking (by_twu records) z (items_of records) m))
    (λ z m. Member-to_ranking (by_twu records) (by_twu_exact records) z (items_of records) (Member-to_ranking nat_cmp exact_unsigned z all m))

right-order : (records : List (List (ℕ × ℤ))) → is_order records (certificate_order records) ≡ true
right-order records =
    let again = ranked-again records in
    let same : bytes_eq (ranking nat_cmp (certificate_order records)) (items_of records) ≡ true = (bytes_eq-Decides _ _).1 again in
    let count : length (certificate_order records) ≡ length (items_of records) = sym
    (length-ranking (certificate_order records) (Once-certificate_order records)) ∙ ap length again in
    let equal : eqb (length (certificate_order records)) (length (items_of records)) ≡ true = eq-eqb _ _ count in
    rw (same, equal) refl

small-items : (records : List (List (ℕ × ℤ))) → AllByRecursion IsRecord records → AllByRecursion IsItem (flat_map items_in records)
small-items [] rules = tt
small-items (r ∷ rs) rules = each-append IsItem (items_in r) (flat_map items_in rs)
    (each r (each-from_all (λ (cell : ℕ × ℤ). cell.0 ≤ 2147483647) r rules.0.itemset.in_range)) (small-items rs rules.1)
  where
    each : (cells : List (ℕ × ℤ)) → AllByRecursion (λ cell. cell.0 ≤ 2147483647) cells → AllByRecursion IsItem (items_in cells)
    each [] h = tt
    each (c ∷ cs) h = (h.0, each cs h.1)

small-order : (records : List (List (ℕ × ℤ))) → AllByRecursion IsRecord records → AllByRecursion IsItem (certificate_order records)
small-order records rules =
    let all = flat_map items_in records in
    by_members IsItem (certificate_order records)
    (λ z m. at_member IsItem z all (small-items records rules)
    (Member-from_ranking nat_cmp z all (Member-from_ranking (by_twu records) z (items_of records) m)))

-- ---- the whole text

root-fine : (records : List (List (ℕ × ℤ))) → AllByRecursion IsRecord records → sum_by absolute_of records < 2 ^ 127
    → IsFine records [] (certificate_order records)
root-fine records rules fits =
    let order = certificate_order records in
    let once = Once-certificate_order records in
    let up = ascending records rules in
    record {
      items = tt;
      laters = small-order records rules;
      once = once;
      rank = 0;
      room = subst HasRoom (first_spots-at order records) (omega (arith, sizes order records once up, fits));
      up = up;
    }

from-lines : (records : List (List (ℕ × ℤ))) (least : ℤ) (order : List ℕ) (lines : List (List ℕ)) → minimum_of (minimum_line least) ≡ Some least
    → order_of (order_line order) ≡ Some order
    → is_order records order ≡ true → 0 < length lines → walk records least 3 (root order ∷ []) lines ≡ None
    → from_minimum records least (minimum_line least ∷ order_line order ∷ lines) ≡ None
from-lines records least order [] first second right some walked = absurd (omega (arith, some))
from-lines records least order (line ∷ lines) first second right some walked =
    let same : int_eq least least ≡ true = (Decides-int_eq least least).1 refl in
    ap (λ o. minimum_fault records least o (order_line order ∷ line ∷ lines)) first
    ∙ ap (λ b. cond b (order_fault records least (order_of (order_line order)) (line ∷ lines)) (Some (WrongMinimum least))) same
    ∙ ap (λ o. order_fault records least o (line ∷ lines)) second
    ∙ ap (λ b. cond b (walk records least 3 (root order ∷ []) (line ∷ lines)) (Some WrongOrder)) right
    ∙ walked

pub faultless : CertificateIsFaultless
faultless records least is =
    let order = certificate_order records in
    let fine = root-fine records is.lawful is.sum_fits in
    let below = line_of records least [] order ∷ lines_below records least [] order in
    let feeds : AllByRecursion (Lacks 10) (minimum_line least ∷ order_line order ∷ below) =
    (minimum-no_feed least is.fits, (order-no_feed order fine.laters, (feedless records least [] order fine, below-feedless records least [] order fine))) in
    let cut = pieces-lines (minimum_line least ∷ order_line order ∷ below) feeds in
    let walked = walk-all records least (IsFine records) (reads records least) (λ prefix later f. f.once) (deeper records) (further records) 3 order fine in
    let judged = from-lines records least order (below ++ [] ∷ []) (minimum-read least is.positive is.fits) (order-read order fine.laters)
    (right-order records) (omega arith) walked in
    ap (from_minimum records least) cut ∙ judged

pub accepted : CertificateIsAccepted
accepted records least is few =
    let short : nat_lt 268435456 (length (certificate_text records least)) ≡ false = le-ltb 268435456 (length (certificate_text records least)) few in
    rw short (faultless records least is)
