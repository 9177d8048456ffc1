-- What is written of a prefix and of those below it.
use Rattle.std.proofs.Common.{◌≡◌, ℕ, zero, suc, ◌+◌, ◌-◌, ◌<◌, ◌≤◌, true, false, cond, eqb, ℤ, ◌+ℤ◌, int_le, Result, Ok, Err, List, [], ◌∷◌, ◌++◌, map, length}
use Rattle.std.proofs.Common.{take, drop, get_or, sum_by, refl, sym, ap, ◌∙◌, subst, inl, inr, arith, append_assoc, append-nil, nat_cmp, decimal}
use Rattle.std.specs.Fmt.{signed_decimal}
use Rattle.std.specs.List.{AllByRecursion}
use Rattle.std.specs.Result.{IsErrAnd}
use Rattle.std.specs.declared.vec.Vec.{Vec}
use Rattle.std.specs.declared.alloc.Global.{Global}
use Rattle.std.proofs.lemmas.Bool.{cases_Bool}
use Rattle.std.proofs.lemmas.Grind.{flat_map-append}
use Rattle.std.proofs.lemmas.List.{take_more, take_all, take-append-drop, length-append, length-drop, length-map, map-append, get_or-map}
use Rattle.std.proofs.lemmas.List.Sums.{sum_by-cons}
use Rattle.std.proofs.Math.Seq.{take-append_seam}
use Rattle.hu_kind.specs.Record.{has, holds, value_of, items_in}
use Rattle.hu_kind.proofs.lemmas.Each.{each-append}
use Rattle.hu_kind.proofs.lemmas.Members.{Member, Member-append_cases}
use Rattle.hu_kind.proofs.lemmas.Occurring.{at_member, by_members, has-from_member}
use Rattle.hu_totals.specs.Ranked.{cells_from, item_at}
use Rattle.hu_totals.proofs.lemmas.DenseLemmas.{ranks_from}
use Rattle.hu_totals.proofs.lemmas.SortedLists.{Once, Once-from_distinct, Member-from_ranking}
use Rattle.hu_certify.specs.declared.fault.CertFault.{CertFault}
use Rattle.hu_certify.specs.declared.fault.CertFault.TheVariants.{TooLong}
use Rattle.hu_certify.specs.declared.place.Place.{Place}
use Rattle.hu_certify.specs.declared.slots.Child.{Child}
use Rattle.hu_certify.specs.Slots.{list_at, lists_of, opened}
use Rattle.hu_certify.specs.Spots.{SpotOf, past, narrowed, earned, ranks_in, standing, child_at, children_at, named, most, rank_pair, spots_of, AreRanks}
use Rattle.hu_certify.specs.Spots.{IsNode, lines_from, opened_lines}
use Rattle.hu_certify.specs.Text.{line_of, lines_below, lines_text, prefix_text, spaced, tokens_text}
use Rattle.hu_certify.specs.Written.{Writes}
use Rattle.hu_certify.proofs.ListLemmas.{list-here}
use Rattle.hu_certify.proofs.NodeLemmas.{spots_with, narrowed-at, earned-with, children-with, lines-with}
use Rattle.hu_certify.proofs.SlotLemmas.{Once-drop}

-- ---- the items of a prefix

joined : (item : ℕ) (items : List ℕ) → decimal item ++ spaced items ≡ prefix_text (item ∷ items)
joined item [] = append-nil (decimal item)
joined item (next ∷ items) = ap (λ more. decimal item ++ 32 ∷ more) (joined next items)

without_space : (items : List ℕ) → drop 1 (spaced items) ≡ prefix_text items
without_space [] = refl
without_space (item ∷ items) = joined item items

-- ---- the line of a prefix, and those below it

module _ (records : List (List (ℕ × ℤ))) (order : List ℕ) (from : ℕ) (prefix written : List ℕ) (spots : List SpotOf)
    (is : IsNode records order from prefix written spots) where
  once_later : Once (drop from order)
  once_later = Once-drop from order (Once-from_distinct order is.once)

  pub line-node : (least : ℤ) → drop 1 written ++ 58 ∷ signed_decimal (earned spots)
      ++ 58 ∷ tokens_text least (named order (children_at spots)) ≡ line_of records least prefix (drop from order)
  line-node least =
      let shown = ap (drop 1) is.spaces ∙ without_space prefix in
      let sum = ap earned is.holds ∙ earned-with records (drop from order) from prefix in
      let children = ap (λ ss. named order (children_at ss)) is.holds
      ∙ children-with records order (drop from order) from prefix refl once_later is.ascending in
      λ j. shown j ++ 58 ∷ signed_decimal (sum j) ++ 58 ∷ tokens_text least (children j)

  pub below-node : (least : ℤ) → opened_lines records least order prefix (children_at spots) ≡ lines_below records least prefix (drop from order)
  below-node least =
      ap (λ ss. opened_lines records least order prefix (children_at ss)) is.holds
      ∙ lines-with records least order (drop from order) from prefix refl once_later is.ascending

  ranks-within : (rs : List (List (ℕ × ℤ))) (later : List ℕ)
      → AllByRecursion (λ rank. (from ≤ rank) × (rank < from + length later)) (ranks_in (spots_with rs later from prefix))
  ranks-within [] later = tt
  ranks-within (r ∷ rs) later =
      let ih = ranks-within rs later in
      elim (cases_Bool (holds prefix r)) [
        | inl e ↦ simp e (each-append (λ rank. (from ≤ rank) × (rank < from + length later)) (items_in (cells_from from later r))
            (ranks_in (spots_with rs later from prefix)) (each (cells_from from later r) (ranks_from from later r)) ih)
        | inr e ↦ simp e ih
      ]
    where
      each : (cs : List (ℕ × ℤ)) → AllByRecursion (λ cell. (from ≤ cell.0) × (cell.0 < from + length later)) cs
          → AllByRecursion (λ rank. (from ≤ rank) × (rank < from + length later)) (items_in cs)
      each [] all = tt
      each (c ∷ cs) all = (all.0, each cs all.1)

  pub child-node : (rank : ℕ) → Member rank (standing spots)
      → IsNode records order (rank + 1) (prefix ++ item_at order rank ∷ []) (written ++ spaced (item_at order rank ∷ [])) (narrowed rank spots)
  child-node rank m =
      let member = subst (λ ss. Member rank (ranks_in ss)) is.holds (Member-from_ranking nat_cmp rank (ranks_in spots) m) in
      let within = at_member (λ k. (from ≤ k) × (k < from + length (drop from order))) rank (ranks_in (spots_with records (drop from order) from prefix))
      (ranks-within records (drop from order)) member in
      let fits : rank < length order = omega (arith, length-drop from order, within.0, within.1) in
      record {
        spaces = ap (λ w. w ++ spaced (item_at order rank ∷ [])) is.spaces
            ∙ sym (flat_map-append (λ item. 32 ∷ decimal item) prefix (item_at order rank ∷ []));
        holds = ap (narrowed rank) is.holds ∙ narrowed-at records order (rank - from) from rank prefix (omega (arith, within.0)) fits;
        once = is.once;
        ascending = is.ascending;
      }

-- ---- ranks

pub ranks-of : (children : List Child) (spots : List SpotOf) → map rank_pair children ≡ children_at spots → map (λ child. child.rank) children ≡ standing spots
ranks-of children spots e = firsts children ∙ ap (map (λ pair. pair.0)) e ∙ standing-firsts (standing spots)
  where
    firsts : (cs : List Child) → map (λ child. child.rank) cs ≡ map (λ pair. pair.0) (map rank_pair cs)
    firsts [] = refl
    firsts (c ∷ cs) = ap (λ more. c.rank ∷ more) (firsts cs)

    standing-firsts : (ranks : List ℕ) → map (λ pair. pair.0) (map (child_at spots) ranks) ≡ ranks
    standing-firsts [] = refl
    standing-firsts (r ∷ rs) = ap (λ more. r ∷ more) (standing-firsts rs)

Member-rank : (children : List Child) (i : ℕ) (d : Child) → i < length children → Member (get_or children i d).rank (map (λ child. child.rank) children)
Member-rank [] i d within = absurd (omega arith)
Member-rank (c ∷ cs) zero d within = inl refl
Member-rank (c ∷ cs) (suc i) d within = inr (Member-rank cs i d (omega arith))

pub rank-stands : (children : List Child) (spots : List SpotOf) (i : ℕ) (d : Child) → map rank_pair children ≡ children_at spots → i < length children
    → Member (get_or children i d).rank (standing spots)
rank-stands children spots i d e within = subst (Member (get_or children i d).rank) (ranks-of children spots e) (Member-rank children i d within)

each-ranks : (n : ℕ) (spots : List SpotOf) → AreRanks n spots → AllByRecursion (λ rank. rank < n) (ranks_in spots)
each-ranks n [] all = tt
each-ranks n (s ∷ ss) all = each-append (λ rank. rank < n) (items_in s.0) (ranks_in ss) (each s.0 all.0) (each-ranks n ss all.1)
  where
    each : (cs : List (ℕ × ℤ)) → AllByRecursion (λ cell. cell.0 < n) cs → AllByRecursion (λ rank. rank < n) (items_in cs)
    each [] h = tt
    each (c ∷ cs) h = (h.0, each cs h.1)

pub standing-below : (n : ℕ) (spots : List SpotOf) (rank : ℕ) → AreRanks n spots → Member rank (standing spots) → rank < n
standing-below n spots rank all m = at_member (λ k. k < n) rank (ranks_in spots) (each-ranks n spots all) (Member-from_ranking nat_cmp rank (ranks_in spots) m)

pub children-below : (n : ℕ) (children : List Child) (spots : List SpotOf) → AreRanks n spots → map rank_pair children ≡ children_at spots
    → AllByRecursion (λ child. child.rank < n) children
children-below n children spots all e = back children
    (subst (AllByRecursion (λ rank. rank < n)) (sym (ranks-of children spots e))
    (by_members (λ rank. rank < n) (standing spots) (λ rank m. standing-below n spots rank all m)))
  where
    back : (cs : List Child) → AllByRecursion (λ rank. rank < n) (map (λ child. child.rank) cs) → AllByRecursion (λ child. child.rank < n) cs
    back [] h = tt
    back (c ∷ cs) h = (h.0, back cs h.1)

past-each : (P : ℕ × ℤ → Type 0) (rank : ℕ) (cells : List (ℕ × ℤ)) → AllByRecursion P cells → AllByRecursion P (past rank cells)
past-each P rank [] all = tt
past-each P rank (c ∷ cs) all = elim (cases_Bool (eqb rank c.0)) [ inl h ↦ simp h all.1 | inr h ↦ simp h (past-each P rank cs all.1) ]

pub AreRanks-narrowed : (n rank : ℕ) (spots : List SpotOf) → AreRanks n spots → AreRanks n (narrowed rank spots)
AreRanks-narrowed n rank [] all = tt
AreRanks-narrowed n rank (s ∷ ss) all =
    let ih = AreRanks-narrowed n rank ss all.1 in
    let rest = past-each (λ cell. cell.0 < n) rank s.0 all.0 in
    elim (cases_Bool (has rank s.0)) [ inl h ↦ simp h (rest, ih) | inr h ↦ simp h ih ]

-- ---- fewer cells are left below

abbrev pub cells_left : List SpotOf → ℕ
cells_left spots = sum_by (λ spot. length spot.0) spots

past-length : (rank : ℕ) (cells : List (ℕ × ℤ)) → (length (past rank cells) ≤ length cells) × (has rank cells ≡ true → length (past rank cells) < length cells)
past-length rank [] = (omega arith, λ h. cc)
past-length rank (c ∷ cs) =
    let ih = past-length rank cs in
    elim (cases_Bool (eqb rank c.0)) [ inl h ↦ simp h (omega arith, λ k. omega arith) | inr h ↦ simp h (omega (arith, ih.0), λ k. omega (arith, ih.1 k)) ]

left-narrowed : (rank : ℕ) (spots : List SpotOf) → cells_left (narrowed rank spots) ≤ cells_left spots
left-narrowed rank [] = omega arith
left-narrowed rank (s ∷ ss) =
    let ih = left-narrowed rank ss in
    let here = past-length rank s.0 in
    let all = sum_by-cons (λ (spot : SpotOf). length spot.0) s ss in
    let one = sum_by-cons (λ (spot : SpotOf). length spot.0) (past rank s.0, s.1 +ℤ value_of rank s.0) (narrowed rank ss) in
    elim (cases_Bool (has rank s.0)) [ inl h ↦ simp h (omega (arith, ih, all, one, here.0)) | inr h ↦ simp h (omega (arith, ih, all)) ]

fewer-ranks : (rank : ℕ) (spots : List SpotOf) → Member rank (ranks_in spots) → cells_left (narrowed rank spots) < cells_left spots
fewer-ranks rank [] m = absurd m
fewer-ranks rank (s ∷ ss) m =
    let here = past-length rank s.0 in
    let all = sum_by-cons (λ (spot : SpotOf). length spot.0) s ss in
    let one = sum_by-cons (λ (spot : SpotOf). length spot.0) (past rank s.0, s.1 +ℤ value_of rank s.0) (narrowed rank ss) in
    let less = left-narrowed rank ss in
    elim (Member-append_cases rank (items_in s.0) (ranks_in ss) m) [
      | inl n ↦ let h = has-from_member rank s.0 n in let fewer = here.1 h in simp h (omega (arith, less, all, one, fewer))
      | inr n ↦
          let ih = fewer-ranks rank ss n in
          elim (cases_Bool (has rank s.0)) [ inl h ↦ simp h (omega (arith, ih, all, one, here.0)) | inr h ↦ simp h (omega (arith, ih, all)) ]
    ]

pub fewer : (rank : ℕ) (spots : List SpotOf) → Member rank (standing spots) → cells_left (narrowed rank spots) < cells_left spots
fewer rank spots m = fewer-ranks rank spots (Member-from_ranking nat_cmp rank (ranks_in spots) m)

-- ---- lines after one another

lines-append : (xs ys : List (List ℕ)) → lines_text (xs ++ ys) ≡ lines_text xs ++ lines_text ys
lines-append xs ys = flat_map-append (λ line. line ++ 10 ∷ []) xs ys

-- after the lines of a child
pub text-more : (old now after line : List ℕ) (done one whole : List (List ℕ)) → now ≡ old ++ lines_text (line ∷ done) → after ≡ now ++ lines_text one
    → whole ≡ done ++ one
    → after ≡ old ++ lines_text (line ∷ whole)
text-more old now after line done one whole so_far is all =
    is ∙ ap (λ t. t ++ lines_text one) so_far ∙ append_assoc old (lines_text (line ∷ done)) (lines_text one)
    ∙ ap (λ t. old ++ t) (sym (lines-append (line ∷ done) one)) ∙ ap (λ ls. old ++ lines_text (line ∷ ls)) (sym all)

-- where those of a child make the text too long
pub text-long : (old now line : List ℕ) (done one more whole : List (List ℕ)) → now ≡ old ++ lines_text (line ∷ done)
    → 268435456 < length (now ++ lines_text one) → whole ≡ (done ++ one) ++ more
    → 268435456 < length (old ++ lines_text (line ∷ whole))
text-long old now line done one more whole so_far long all =
    let part = text-more old now (now ++ lines_text one) line done one (done ++ one) so_far refl refl in
    let same : old ++ lines_text (line ∷ whole) ≡ (old ++ lines_text (line ∷ (done ++ one))) ++ lines_text more =
    ap (λ ls. old ++ lines_text (line ∷ ls)) all ∙ ap (λ t. old ++ t) (lines-append (line ∷ (done ++ one)) more)
    ∙ sym (append_assoc old (lines_text (line ∷ (done ++ one))) (lines_text more)) in
    omega (arith, ap length part, ap length same, length-append (old ++ lines_text (line ∷ (done ++ one))) (lines_text more), long)

pub line-long : (old line : List ℕ) (more : List (List ℕ)) → 268435456 < length (old ++ (line ++ 10 ∷ []))
    → 268435456 < length (old ++ lines_text (line ∷ more))
line-long old line more long =
    omega (arith, long, ap length (sym (append_assoc old (line ++ 10 ∷ []) (lines_text more))), length-append (old ++ (line ++ 10 ∷ [])) (lines_text more))

-- ---- the children one by one

abbrev lines_of_child : List (List (ℕ × ℤ)) → ℤ → List ℕ → List ℕ → ℕ × ℤ → List (List ℕ)
lines_of_child records least order prefix child =
    cond (int_le least child.1) (lines_from records least (prefix ++ item_at order child.0 ∷ []) (drop (child.0 + 1) order)) []

pub opened-more : (records : List (List (ℕ × ℤ))) (least : ℤ) (order prefix : List ℕ) (children : List Child) (i : ℕ) (d : Child) → i < length children
    → opened_lines records least order prefix (map rank_pair (take (i + 1) children))
    ≡ opened_lines records least order prefix (map rank_pair (take i children)) ++ lines_of_child records least order prefix (rank_pair (get_or children i d))
opened-more records least order prefix children i d within =
    let one = rank_pair (get_or children i d) in
    ap (opened_lines records least order prefix) (ap (map rank_pair) (take_more children i d within)
    ∙ map-append rank_pair (take i children) (get_or children i d ∷ []))
    ∙ flat_map-append (lines_of_child records least order prefix) (map rank_pair (take i children)) (one ∷ [])
    ∙ ap (λ more. opened_lines records least order prefix (map rank_pair (take i children)) ++ more)
    (append-nil (lines_of_child records least order prefix one))

pub opened-all : (records : List (List (ℕ × ℤ))) (least : ℤ) (order prefix : List ℕ) (children : List Child) (i : ℕ) (d : Child) → i < length children
    → opened_lines records least order prefix (map rank_pair children)
    ≡ (opened_lines records least order prefix (map rank_pair (take i children))
    ++ lines_of_child records least order prefix (rank_pair (get_or children i d)))
    ++ opened_lines records least order prefix (map rank_pair (drop (i + 1) children))
opened-all records least order prefix children i d within =
    let front = map rank_pair (take (i + 1) children) in
    let back = map rank_pair (drop (i + 1) children) in
    ap (λ cs. opened_lines records least order prefix (map rank_pair cs)) (sym (take-append-drop (i + 1) children))
    ∙ ap (opened_lines records least order prefix) (map-append rank_pair (take (i + 1) children) (drop (i + 1) children))
    ∙ flat_map-append (lines_of_child records least order prefix) front back
    ∙ ap (λ before. before ++ opened_lines records least order prefix back) (opened-more records least order prefix children i d within)

-- ---- an answer that tells a fault

pub Writes-err : (old new piece : List ℕ) (r : Result (Unit {0}) CertFault) (fault : CertFault) → IsErrAnd r (λ e. e ≡ fault)
    → (fault ≡ TooLong → 268435456 < length (old ++ piece)) → Writes old new piece r
Writes-err old new piece (Ok x) fault is long = absurd is
Writes-err old new piece (Err e) fault is long = λ h. long (sym is ∙ h)

-- the line that is written of a prefix
pub line-written : (records : List (List (ℕ × ℤ))) (order : List ℕ) (from : ℕ) (prefix written : List ℕ) (spots : List SpotOf) (least sum : ℤ)
    (shown : List ℕ) (children : List Child)
    → IsNode records order from prefix written spots → shown ≡ written → sum ≡ earned spots → map rank_pair children ≡ children_at spots
    → drop 1 shown ++ 58 ∷ signed_decimal sum ++ 58 ∷ tokens_text least (named order (map rank_pair children)) ≡ line_of records least prefix (drop from order)
line-written records order from prefix written spots least sum shown children is same earns told =
    (λ j. drop 1 (same j) ++ 58 ∷ signed_decimal (earns j) ++ 58 ∷ tokens_text least (named order (told j)))
    ∙ line-node records order from prefix written spots is least

-- ---- the loop over the children of a prefix

-- the text of a prefix so far
abbrev pub SoFar : List (List (ℕ × ℤ)) → ℤ → List ℕ → ℕ → List ℕ → List Child → List ℕ → List ℕ → Type 0
SoFar records least order from path children old now =
    now ≡ old ++ lines_text (line_of records least path (drop from order) ∷ opened_lines records least order path (map rank_pair children))

pub node-of_child : (records : List (List (ℕ × ℤ))) (order : List ℕ) (from : ℕ) (path written : List ℕ) (spots : List SpotOf) (rank item : ℕ)
    (before written' : List ℕ) (spots' : List SpotOf)
    → IsNode records order from path written spots → Member rank (standing spots) → item ≡ item_at order rank → before ≡ written
    → written' ≡ before ++ spaced (item ∷ []) → spots' ≡ narrowed rank spots
    → IsNode records order (rank + 1) (path ++ item_at order rank ∷ []) written' spots'
node-of_child records order from path written spots rank item before written' spots' is m same was shown narrow =
    let child = child-node records order from path written spots is rank m in
    let text : written' ≡ written ++ spaced (item_at order rank ∷ []) = shown ∙ (λ j. was j ++ spaced (same j ∷ [])) in
    record { spaces = text ∙ child.spaces; holds = narrow ∙ child.holds; once = child.once; ascending = child.ascending }

pub so_far-opened : (records : List (List (ℕ × ℤ))) (least : ℤ) (order : List ℕ) (from : ℕ) (path : List ℕ) (children : List Child) (i : ℕ) (d : Child)
    (old now after : List ℕ) → i < length children
    → SoFar records least order from path (take i children) old now → int_le least (get_or children i d).bound ≡ true
    → after ≡ now ++ lines_text (lines_from records least (path ++ item_at order (get_or children i d).rank ∷ [])
    (drop ((get_or children i d).rank + 1) order))
    → SoFar records least order from path (take (i + 1) children) old after
so_far-opened records least order from path children i d old now after within so_far reached is =
    let child = get_or children i d in
    let one = lines_from records least (path ++ item_at order child.rank ∷ []) (drop (child.rank + 1) order) in
    let more = opened-more records least order path children i d within
    ∙ ap (λ b. opened_lines records least order path (map rank_pair (take i children)) ++ cond b one []) reached in
    text-more old now after (line_of records least path (drop from order)) (opened_lines records least order path (map rank_pair (take i children))) one
    (opened_lines records least order path (map rank_pair (take (i + 1) children))) so_far is more

pub so_far-cut : (records : List (List (ℕ × ℤ))) (least : ℤ) (order : List ℕ) (from : ℕ) (path : List ℕ) (children : List Child) (i : ℕ) (d : Child)
    (old now : List ℕ) → i < length children
    → SoFar records least order from path (take i children) old now → int_le least (get_or children i d).bound ≡ false
    → SoFar records least order from path (take (i + 1) children) old now
so_far-cut records least order from path children i d old now within so_far low =
    let child = get_or children i d in
    let one = lines_from records least (path ++ item_at order child.rank ∷ []) (drop (child.rank + 1) order) in
    let more = opened-more records least order path children i d within
    ∙ ap (λ b. opened_lines records least order path (map rank_pair (take i children)) ++ cond b one []) low
    ∙ append-nil (opened_lines records least order path (map rank_pair (take i children))) in
    so_far ∙ ap (λ ls. old ++ lines_text (line_of records least path (drop from order) ∷ ls)) (sym more)

pub so_far-long : (records : List (List (ℕ × ℤ))) (order : List ℕ) (from : ℕ) (path written : List ℕ) (spots : List SpotOf) (least : ℤ)
    (children : List Child) (i : ℕ) (d : Child) (old now : List ℕ)
    → IsNode records order from path written spots → map rank_pair children ≡ children_at spots → i < length children
    → SoFar records least order from path (take i children) old now → int_le least (get_or children i d).bound ≡ true
    → 268435456 < length (now ++ lines_text (lines_from records least (path ++ item_at order (get_or children i d).rank ∷ [])
    (drop ((get_or children i d).rank + 1) order)))
    → 268435456 < length (old ++ lines_text (lines_from records least path (drop from order)))
so_far-long records order from path written spots least children i d old now is told within so_far reached long =
    let child = get_or children i d in
    let one = lines_from records least (path ++ item_at order child.rank ∷ []) (drop (child.rank + 1) order) in
    let done = opened_lines records least order path (map rank_pair (take i children)) in
    let more = opened_lines records least order path (map rank_pair (drop (i + 1) children)) in
    let all = sym (below-node records order from path written spots is least) ∙ ap (opened_lines records least order path) (sym told)
    ∙ opened-all records least order path children i d within
    ∙ ap (λ b. (done ++ cond b one []) ++ more) reached in
    text-long old now (line_of records least path (drop from order)) done one more (lines_below records least path (drop from order)) so_far long all

pub so_far-whole : (records : List (List (ℕ × ℤ))) (order : List ℕ) (from : ℕ) (path written : List ℕ) (spots : List SpotOf) (least : ℤ)
    (children : List Child) (i : ℕ) (old now : List ℕ)
    → IsNode records order from path written spots → map rank_pair children ≡ children_at spots → length children ≤ i
    → SoFar records least order from path (take i children) old now → now ≡ old ++ lines_text (lines_from records least path (drop from order))
so_far-whole records order from path written spots least children i old now is told past so_far =
    let line = line_of records least path (drop from order) in
    so_far
    ∙ ap (λ cs. old ++ lines_text (line ∷ opened_lines records least order path cs)) (ap (map rank_pair) (take_all i children past) ∙ told)
    ∙ ap (λ ls. old ++ lines_text (line ∷ ls)) (below-node records order from path written spots is least)

pub prefix-back : (now pushed after back more : List ℕ) (n : ℕ) → n ≡ length now → pushed ≡ now ++ more → after ≡ pushed → back ≡ take n after → back ≡ now
prefix-back now pushed after back more n count is same cut =
    cut ∙ (λ j. take (count j) ((same ∙ is) j)) ∙ take-append_seam now more

-- ---- the places of a child that is opened

module _ (least : ℤ) (spots : List SpotOf) (children : List Child) (lists : List (Vec Place Global)) (told : map rank_pair children ≡ children_at spots)
    (places : lists_of lists ≡ map (opened least spots) (standing spots)) where
  pub opened-many : length lists ≡ length children
  opened-many =
      sym (length-map lists (λ (list : Vec Place Global). spots_of list.items)) ∙ ap length places ∙ length-map (standing spots) (opened least spots)
      ∙ sym (length-map (standing spots) (child_at spots)) ∙ sym (ap length told) ∙ length-map children rank_pair

  pub opened-child : (i : ℕ) (d : Child) → i < length children → int_le least (get_or children i d).bound ≡ true
      → list_at lists i ≡ narrowed (get_or children i d).rank spots
  opened-child i d within reached =
      let ranks = ranks-of children spots told in
      let inside : i < length (standing spots) = omega (arith, within, ap length ranks, length-map children (λ (child : Child). child.rank)) in
      let pair : rank_pair (get_or children i d) ≡ child_at spots (get_or (standing spots) i 0) =
      sym (get_or-map rank_pair children i d (rank_pair d) within) ∙ ap (λ ps. get_or ps i (rank_pair d)) told
      ∙ get_or-map (child_at spots) (standing spots) i 0 (rank_pair d) inside in
      let opens : int_le least (most (narrowed (get_or (standing spots) i 0) spots)) ≡ true = sym (ap (λ (p : ℕ × ℤ). int_le least p.1) pair) ∙ reached in
      ap (λ (ls : List (List SpotOf)). get_or ls i []) places ∙ get_or-map (opened least spots) (standing spots) i 0 [] inside
      ∙ ap (λ b. cond b (narrowed (get_or (standing spots) i 0) spots) []) opens
      ∙ sym (ap (λ (p : ℕ × ℤ). narrowed p.0 spots) pair)

  pub opened-shown : (i : ℕ) (d : Child) (list : Vec Place Global) (shown : List Place) → i < length children → int_le least (get_or children i d).bound ≡ true
      → list ≡ get_or lists i list → shown ≡ list.items → spots_of shown ≡ narrowed (get_or children i d).rank spots
  opened-shown i d list shown within reached read seen =
      let inside : i < length lists = omega (arith, within, opened-many) in
      ap spots_of seen ∙ ap (λ (l : Vec Place Global). spots_of l.items) read ∙ sym (list-here lists i list inside) ∙ opened-child i d within reached
