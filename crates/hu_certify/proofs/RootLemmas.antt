-- The empty prefix, and the whole text.
use Rattle.std.proofs.Common.{◌≡◌, ℕ, ◌+◌, ◌<◌, ◌≤◌, ◌^◌, ℤ, pos, Result, Ok, Err, List, [], ◌∷◌, ◌++◌, map, length}
use Rattle.std.proofs.Common.{drop, sum_by, refl, sym, ap, ◌∙◌, subst, inl, inr, arith, append_assoc}
use Rattle.std.specs.List.{AllByRecursion}
use Rattle.std.specs.declared.vec.Vec.{Vec}
use Rattle.std.specs.declared.alloc.Global.{Global}
use Rattle.std.proofs.lemmas.Bool.{cases_Bool}
use Rattle.std.proofs.lemmas.List.Sums.{sum_by-cons}
use Rattle.std.specs.Result.{IsErrAnd}
use Rattle.hu_kind.specs.declared.item.Item.{Item}
use Rattle.hu_kind.specs.Order.{Ascend}
use Rattle.hu_kind.specs.Record.{absolute_of, has, items_in, IsRecord}
use Rattle.hu_kind.proofs.lemmas.Each.{each-weaker}
use Rattle.hu_totals.specs.declared.ranked.Dense.{Dense}
use Rattle.hu_totals.specs.declared.totals.ItemTotal.{ItemTotal}
use Rattle.hu_totals.specs.Totals.{item_totals}
use Rattle.hu_totals.specs.declared.weights.RankOrder.TheVariants.{Gain}
use Rattle.hu_totals.specs.Weights.{by_weight, numbers_of}
use Rattle.hu_totals.specs.Ranked.{cells_from}
use Rattle.hu_totals.specs.View.{pairs_in}
use Rattle.hu_totals.proofs.lemmas.DenseLemmas.{ranks_from, cells_from-within}
use Rattle.hu_totals.proofs.lemmas.RecordCells.{Ascend-record}
use Rattle.hu_totals.proofs.lemmas.SortedLists.{Once, IsDistinct-from_once}
use Rattle.hu_certify.specs.declared.fault.CertFault.{CertFault}
use Rattle.hu_certify.specs.declared.fault.CertFault.TheVariants.{TooLong}
use Rattle.hu_certify.specs.declared.place.Place.{Place}
use Rattle.hu_certify.specs.Spots.{SpotOf, spots_of, spots_at, size_of, HasRoom, AreAscending, AreRanks, IsNode, lines_from}
use Rattle.hu_certify.specs.Text.{certificate_order, certificate_text, lines_text, minimum_line, order_line, prefix_lines}
use Rattle.hu_certify.proofs.NodeLemmas.{ranks_above}
use Rattle.hu_certify.proofs.RankLemmas.{Once-certificate_order, by_weight-certificate_order}

-- the spots of the empty prefix
abbrev pub first_spots : List ℕ → List (List (ℕ × ℤ)) → List SpotOf
first_spots order records = map {B = SpotOf} (λ cells. (cells, pos 0)) (map (cells_from 0 order) records)

pub first_spots-at : (order : List ℕ) (records : List (List (ℕ × ℤ))) → first_spots order records ≡ spots_at records order 0 []
first_spots-at order [] = refl
first_spots-at order (r ∷ rs) = ap (λ more. (cells_from 0 order r, pos 0) ∷ more) (first_spots-at order rs)

pub ascending : (records : List (List (ℕ × ℤ))) → AllByRecursion IsRecord records → AllByRecursion (λ r. Ascend (items_in r)) records
ascending records rules = each-weaker IsRecord (λ r. Ascend (items_in r)) records Ascend-record rules

pub sizes : (order : List ℕ) (records : List (List (ℕ × ℤ))) → Once order → AllByRecursion (λ r. Ascend (items_in r)) records
    → sum_by size_of (first_spots order records) ≤ sum_by absolute_of records
sizes order [] once up = omega arith
sizes order (r ∷ rs) once up =
    omega (
      arith,
      sum_by-cons size_of (cells_from 0 order r, pos 0) (first_spots order rs),
      sum_by-cons absolute_of r rs,
      cells_from-within order r once up.0,
      sizes order rs once up.1,
    )

ranks : (order : List ℕ) (records : List (List (ℕ × ℤ))) → AreRanks (length order) (first_spots order records)
ranks order [] = tt
ranks order (r ∷ rs) = (
  each-weaker (λ cell. (0 ≤ cell.0) × (cell.0 < 0 + length order)) (λ cell. cell.0 < length order) (cells_from 0 order r)
      (λ cell h. omega (arith, h.1)) (ranks_from 0 order r),
  ranks order rs,
)

cells-ascend : (from : ℕ) (order : List ℕ) (cells : List (ℕ × ℤ)) → Ascend (items_in (cells_from from order cells))
cells-ascend from [] cells = tt
cells-ascend from (item ∷ order) cells =
    let ih = cells-ascend (from + 1) order cells in
    let above = ranks_above (from + 1) order cells from (omega arith) in
    elim (cases_Bool (has item cells)) [ inl h ↦ simp h (above, ih) | inr h ↦ simp h ih ]

spots-ascend : (order : List ℕ) (records : List (List (ℕ × ℤ))) → AreAscending (first_spots order records)
spots-ascend order [] = tt
spots-ascend order (r ∷ rs) = (cells-ascend 0 order r, spots-ascend order rs)

-- what the text begins with
pub record Begins (records : List (List (ℕ × ℤ))) (order : List ℕ) (ranked : List (Vec Dense Global)) (spots : List SpotOf) : Type 0 where
  pub ordered : order ≡ certificate_order records
  pub over : map pairs_in ranked ≡ map (cells_from 0 order) records
  pub places : spots ≡ map {B = SpotOf} (λ cells. (pairs_in cells, pos 0)) ranked
  pub rules : AllByRecursion IsRecord records
  pub fits : sum_by absolute_of records < 2 ^ 127

module _ (records : List (List (ℕ × ℤ))) (order : List ℕ) (dense : List (Vec Dense Global)) (spots : List SpotOf) (b : Begins records order dense spots) where
  once : Once order
  once = subst Once (sym b.ordered) (Once-certificate_order records)

  spots-first : spots ≡ first_spots order records
  spots-first = b.places ∙ again dense ∙ ap (λ (rs : List (List (ℕ × ℤ))). map {B = SpotOf} (λ cells. (cells, pos 0)) rs) b.over
    where
      again : (ds : List (Vec Dense Global)) → map {B = SpotOf} (λ cells. (pairs_in cells, pos 0)) ds ≡ map {B = SpotOf} (λ cells. (cells, pos 0))
          (map pairs_in ds)
      again [] = refl
      again (d ∷ ds) = ap (λ more. (pairs_in d, pos 0) ∷ more) (again ds)

  pub root-room : HasRoom spots
  root-room = omega (arith, ap (sum_by size_of) spots-first, sizes order records once (ascending records b.rules), b.fits)

  pub root-ranks : AreRanks (length order) spots
  root-ranks = subst (AreRanks (length order)) (sym spots-first) (ranks order records)

  pub root-ascending : AreAscending spots
  root-ascending = subst AreAscending (sym spots-first) (spots-ascend order records)

  pub root-node : (written : List ℕ) → written ≡ [] → IsNode records order 0 [] written spots
  root-node written none = record {
    spaces = none;
    holds = spots-first ∙ first_spots-at order records;
    once = IsDistinct-from_once order once;
    ascending = ascending records b.rules;
  }

-- the text after its two first lines
pub begun : (least : ℤ) (order none first second : List ℕ) → none ≡ [] → first ≡ none ++ (minimum_line least ++ 10 ∷ [])
    → second ≡ first ++ (order_line order ++ 10 ∷ [])
    → second ≡ (minimum_line least ++ 10 ∷ []) ++ (order_line order ++ 10 ∷ [])
begun least order none first second empty one two = two
    ∙ ap (λ t. t ++ (order_line order ++ 10 ∷ [])) (one ∙ ap (λ t. t ++ (minimum_line least ++ 10 ∷ [])) empty)

pub whole-text : (records : List (List (ℕ × ℤ))) (least : ℤ) (order before : List ℕ) → order ≡ certificate_order records
    → before ≡ (minimum_line least ++ 10 ∷ []) ++ (order_line order ++ 10 ∷ [])
    → before ++ lines_text (prefix_lines records least) ≡ certificate_text records least
whole-text records least order before same is =
    ap (λ t. t ++ lines_text (prefix_lines records least)) (is ∙ ap (λ items. (minimum_line least ++ 10 ∷ []) ++ (order_line items ++ 10 ∷ [])) same)
    ∙ append_assoc (minimum_line least ++ 10 ∷ []) (order_line (certificate_order records) ++ 10 ∷ []) (lines_text (prefix_lines records least))

-- the steps before the first prefix
pub made : (records stated : List (List (ℕ × ℤ))) (totals : List (ℕ × ItemTotal)) (keys slice : List Item) (dense seen : List (Vec Dense Global))
    (places shown : List Place)
    → totals ≡ item_totals records → numbers_of keys ≡ by_weight Gain (pos 0) totals → slice ≡ keys → stated ≡ records
    → map pairs_in dense ≡ map (cells_from 0 (numbers_of keys)) stated → AllByRecursion IsRecord stated
    → seen ≡ dense → spots_of places ≡ map {B = SpotOf} (λ cells. (pairs_in cells, pos 0)) seen → shown ≡ places → sum_by absolute_of records < 2 ^ 127
    → Begins records (numbers_of slice) dense (spots_of shown)
made records stated totals keys slice dense seen places shown counted weighed same is over rules read first second fits = record {
  ordered = ap numbers_of same ∙ weighed ∙ ap (by_weight Gain (pos 0)) counted ∙ by_weight-certificate_order records;
  over = over ∙ (λ j. map (cells_from 0 (numbers_of (back j))) (is j));
  places = ap spots_of second ∙ first ∙ ap (λ (ds : List (Vec Dense Global)). map {B = SpotOf} (λ cells. (pairs_in cells, pos 0)) ds) read;
  rules = subst (AllByRecursion IsRecord) is rules;
  fits = fits;
}
  where
    back : keys ≡ slice
    back = sym same

pub fault-is : {V : Type 0} (r : Result V CertFault) (fault : CertFault) → IsErrAnd r (λ e. e ≡ fault) → r ≡ Err TooLong → fault ≡ TooLong
fault-is (Ok x) fault is e = cc
fault-is (Err f) fault is e = let same : f ≡ TooLong = cc in sym is ∙ same

pub certificate-is : (records : List (List (ℕ × ℤ))) (least z : ℤ) (order stated none first second : List ℕ) → z ≡ least → order ≡ certificate_order records
    → stated ≡ order → none ≡ []
    → first ≡ none ++ (minimum_line z ++ 10 ∷ []) → second ≡ first ++ (order_line stated ++ 10 ∷ [])
    → second ++ lines_text (lines_from records z [] (drop 0 order)) ≡ certificate_text records least
certificate-is records least z order stated none first second same ordered is empty one two =
    let before : second ≡ (minimum_line least ++ 10 ∷ []) ++ (order_line order ++ 10 ∷ []) =
    begun z stated none first second empty one two ∙ (λ j. (minimum_line (same j) ++ 10 ∷ []) ++ (order_line (is j) ++ 10 ∷ [])) in
    (λ j. second ++ lines_text (lines_from records (same j) [] (ordered j))) ∙ whole-text records least order second ordered before
