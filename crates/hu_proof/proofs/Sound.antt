-- An accepted text opens all that reaches the minimum, and what it opens is the answer.
use Rattle.std.proofs.Common.{◌≡◌, ℕ, ◌<◌, Bool, true, false, cond, nat_lt, ◌==◌, ℤ, pos, ◌≤ℤ◌, Option, None, Some, List, [], ◌∷◌, map, length, drop, filter}
use Rattle.std.proofs.Common.{flat_map, refl, sym, subst, ◌∙◌, ap, inl, arith, Contains}
use Rattle.std.specs.Ordering.{nat_cmp, int_eq}
use Rattle.std.specs.Str.{bytes_eq}
use Rattle.std.proofs.lemmas.Bool.{and_parts, eqb-true}
use Rattle.std.proofs.lemmas.Int.{ints}
use Rattle.std.proofs.lemmas.Slice.Eq.{bytes_eq-Decides}
use Rattle.hu_kind.specs.declared.entry.Entry.{Entry}
use Rattle.hu_kind.specs.Record.{items_in}
use Rattle.hu_kind.specs.Database.{utility, support, items_of}
use Rattle.hu_kind.specs.Itemsets.{occurring_sets, item_entry, item_patterns}
use Rattle.hu_kind.specs.Order.{ranking}
use Rattle.hu_kind.proofs.lemmas.Members.{Member, Contains-from_member, Member-from_contains, Member-map, Member-from_map, Member-filter, Member-from_filter}
use Rattle.hu_kind.proofs.lemmas.Occurring.{Occurs, Occurs-from_member, Member-from_occurs, at_member, held-members, Member-ranking, Ascend-ranking}
use Rattle.hu_kind.proofs.lemmas.EntryOrder.{entry-same}
use Rattle.hu_collect.specs.Rule.{rule_of, passes}
use Rattle.hu_collect.proofs.lemmas.Made.{makes_by_passing, start-passes}
use Rattle.hu_proof.specs.declared.fault.CheckFault.{CheckFault}
use Rattle.hu_proof.specs.Bounds.{is_among}
use Rattle.hu_proof.specs.Text.{pieces, minimum_of, order_of}
use Rattle.hu_proof.specs.Check.{root, walk, is_order, order_fault, from_order, minimum_fault, from_minimum, first_fault}
use Rattle.hu_proof.specs.Opened.{opened, prefix_entry}
use Rattle.hu_proof.specs.Laws.{OpensAllFound, OpensTheAnswer}
use Rattle.hu_proof.specs.Places.{Apart}
use Rattle.hu_proof.proofs.Orders.{member-among, Apart-follows, Follows-filter}
use Rattle.hu_proof.proofs.Sets.{Member-from_ranking, utility-ranking, support-ranking, Ascend-same, Apart-ranking, support-earning}
use Rattle.hu_proof.proofs.Walks.{Walked, walked}
use Rattle.hu_proof.proofs.lemmas.OrderMembers.{among-member}

-- a text without a fault has an order, and its lines from the third on are a walk without one
record Accepted (records : List (List (ℕ × ℤ))) (least : ℤ) (lines : List (List ℕ)) : Type 0 where
  order : List ℕ
  ordered : is_order records order ≡ true
  walks : walk records least 3 (root order ∷ []) (drop 2 lines) ≡ None

not_fault : {A : Type 0} (b : Bool) (o : Option A) (x : A) → cond b o (Some x) ≡ None → (b ≡ true) × (o ≡ None)
not_fault true o x h = (refl, h)
not_fault false o x h = cc

accepted-order : (records : List (List (ℕ × ℤ))) (least : ℤ) (one two : List ℕ) (rest : List (List ℕ)) (said : Option (List ℕ))
    → order_fault records least said rest ≡ None → Accepted records least (one ∷ two ∷ rest)
accepted-order records least one two rest None h = cc
accepted-order records least one two rest (Some order) h =
    let both = not_fault (is_order records order) (walk records least 3 (root order ∷ []) rest) CheckFault.WrongOrder h in
    record { order = order; ordered = both.0; walks = both.1 }

accepted-lines : (records : List (List (ℕ × ℤ))) (least : ℤ) (one : List ℕ) (lines : List (List ℕ)) → from_order records least lines ≡ None
    → Accepted records least (one ∷ lines)
accepted-lines records least one [] h = cc
accepted-lines records least one (two ∷ []) h = cc
accepted-lines records least one (two ∷ three ∷ rest) h = accepted-order records least one two (three ∷ rest) (order_of two) h

accepted-minimum : (records : List (List (ℕ × ℤ))) (least : ℤ) (one : List ℕ) (lines : List (List ℕ)) (said : Option ℤ)
    → minimum_fault records least said lines ≡ None → Accepted records least (one ∷ lines)
accepted-minimum records least one lines None h = cc
accepted-minimum records least one lines (Some stated) h =
    accepted-lines records least one lines (not_fault (int_eq stated least) (from_order records least lines) (CheckFault.WrongMinimum stated) h).1

accepted-pieces : (records : List (List (ℕ × ℤ))) (least : ℤ) (lines : List (List ℕ)) → from_minimum records least lines ≡ None → Accepted records least lines
accepted-pieces records least [] h = cc
accepted-pieces records least (one ∷ []) h = cc
accepted-pieces records least (one ∷ two ∷ rest) h = accepted-minimum records least one (two ∷ rest) (minimum_of one) h

short-enough : {A : Type 0} (b : Bool) (o : Option A) (x : A) → cond b (Some x) o ≡ None → o ≡ None
short-enough true o x h = cc
short-enough false o x h = h

accepted : (records : List (List (ℕ × ℤ))) (least : ℤ) (text : List ℕ) → first_fault records least text ≡ None → Accepted records least (pieces text)
accepted records least text h =
    accepted-pieces records least (pieces text) (short-enough (nat_lt 268435456 (length text)) (from_minimum records least (pieces text))
    CheckFault.TooLong h)

-- ---- the order

ranked-order : (records : List (List (ℕ × ℤ))) (order : List ℕ) → is_order records order ≡ true → ranking nat_cmp order ≡ items_of records
ranked-order records order h = (bytes_eq-Decides (ranking nat_cmp order) (items_of records)).0
    (and_parts (bytes_eq (ranking nat_cmp order) (items_of records)) (length order == length (items_of records)) h).0

pub apart-order : (records : List (List (ℕ × ℤ))) (order : List ℕ) → is_order records order ≡ true → Apart order
apart-order records order h =
    let count = eqb-true (length order) (length (items_of records))
    (and_parts (bytes_eq (ranking nat_cmp order) (items_of records)) (length order == length (items_of records)) h).1 in
    Apart-ranking order (ap length (ranked-order records order h) ∙ sym count)

-- the items of a set that occurs stand in the order
in-order : (records : List (List (ℕ × ℤ))) (order items : List ℕ) → is_order records order ≡ true → 0 < support records items → (x : ℕ) → Member x items
    → Member x order
in-order records order items h held x m =
    let occurs = at_member (λ y. Member y (flat_map items_in records)) x items (held-members records items held) m in
    Member-from_ranking x order (subst (λ ys. Member x ys) (sym (ranked-order records order h)) (Member-ranking x (flat_map items_in records) occurs))

-- ---- what is opened

walk-of : (records : List (List (ℕ × ℤ))) (least : ℤ) (text : List ℕ) → pos 1 ≤ℤ least → (a : Accepted records least (pieces text))
    → Walked records least (root a.order ∷ []) (drop 2 (pieces text))
walk-of records least text some a = walked records least 3 (root a.order ∷ []) (drop 2 (pieces text)) some (apart-order records a.order a.ordered, tt) a.walks

pub opens_all_found : OpensAllFound
opens_all_found records least text some h items any up reaches =
    let a = accepted records least text h in
    let apart = apart-order records a.order a.ordered in
    let chosen = λ (i : ℕ). is_among i items in
    let xs = filter chosen a.order in
    let follows = Follows-filter chosen a.order apart in
    let held = support-earning records items (omega (arith, ints)) in
    let same : ranking nat_cmp xs ≡ items = Ascend-same (ranking nat_cmp xs) items (Ascend-ranking xs) up
    (λ z m. among-member z items (Member-from_filter chosen z a.order (Member-from_ranking z xs m)).1)
    (λ z m. Member-ranking z xs (Member-filter chosen z a.order (in-order records a.order items a.ordered held z m) (member-among z items m))) in
    let earned : utility records items ≡ utility records xs =
    ap (utility records) (sym same) ∙ utility-ranking records xs (Apart-follows a.order xs apart follows) in
    let found = (walk-of records least text some a).finds (root a.order) xs (inl refl) follows (subst (λ u. least ≤ℤ u) earned reaches) in
    (xs, Contains-from_member xs (opened text) found, same)

utility-none : (records : List (List (ℕ × ℤ))) → utility records [] ≡ pos 0
utility-none [] = refl
utility-none (r ∷ rs) = let ih = utility-none rs in omega (arith, ints)

some-earning : (records : List (List (ℕ × ℤ))) (xs : List ℕ) → pos 1 ≤ℤ utility records xs → 0 < length xs
some-earning records [] h = let none = utility-none records in absurd (omega (arith, ints))
some-earning records (x ∷ xs) h = omega arith

-- the entry of a prefix is that of its items ascending
entry-ranking : (records : List (List (ℕ × ℤ))) (xs : List ℕ) → Apart xs → item_entry records (ranking nat_cmp xs) ≡ prefix_entry records xs
entry-ranking records xs apart = entry-same (item_entry records (ranking nat_cmp xs)) (prefix_entry records xs) refl (utility-ranking records xs apart)
    (support-ranking records xs apart)

pub opens_the_answer : OpensTheAnswer
opens_the_answer records least text some h =
    makes_by_passing (rule_of least None) [] (map (prefix_entry records) (opened text)) (item_patterns records) (λ x passed. (there x passed, back x passed))
  where
    apart : (xs : List ℕ) → Member xs (opened text) → Apart xs
    apart xs m = at_member Apart xs (opened text) (walk-of records least text some (accepted records least text h)).apart m

    there : (x : Entry) → passes (rule_of least None) x ≡ true → Contains (map (prefix_entry records) (opened text)) x → Contains (item_patterns records) x
    there x passed c =
        let from = Member-from_map (prefix_entry records) x (opened text) (Member-from_contains x _ c) in
        let alone = apart from.0 from.1 in
        let reaches : least ≤ℤ x.utility = start-passes (rule_of least None) x passed in
        let earned : utility records (ranking nat_cmp from.0) ≡ x.utility = utility-ranking records from.0 alone ∙ ap (λ (e : Entry). e.utility) from.2 in
        let high : pos 1 ≤ℤ utility records (ranking nat_cmp from.0) = omega (arith, ints) in
        let occurs : Occurs records (ranking nat_cmp from.0) = record {
          some = some-earning records (ranking nat_cmp from.0) high;
          ascending = Ascend-ranking from.0;
          held = support-earning records (ranking nat_cmp from.0) high;
        } in
        let m = Member-map (item_entry records) (ranking nat_cmp from.0) (occurring_sets records)
        (Member-from_occurs records (ranking nat_cmp from.0) occurs) in
        Contains-from_member x (item_patterns records) (subst (λ e. Member e (item_patterns records)) (entry-ranking records from.0 alone ∙ from.2) m)

    back : (x : Entry) → passes (rule_of least None) x ≡ true → Contains (item_patterns records) x → Contains (map (prefix_entry records) (opened text)) x
    back x passed c =
        let from = Member-from_map (item_entry records) x (occurring_sets records) (Member-from_contains x _ c) in
        let occurs = Occurs-from_member records from.0 from.1 in
        let reaches : least ≤ℤ x.utility = start-passes (rule_of least None) x passed in
        let earned : utility records from.0 ≡ x.utility = ap (λ (e : Entry). e.utility) from.2 in
        let found = opens_all_found records least text some h from.0 occurs.some occurs.ascending (omega (arith, ints)) in
        let inside = Member-from_contains found.0 (opened text) found.1 in
        let same : prefix_entry records found.0 ≡ x = sym (entry-ranking records found.0 (apart found.0 inside))
        ∙ (ap (item_entry records) found.2 ∙ from.2) in
        Contains-from_member x _ (subst (λ e. Member e (map (prefix_entry records) (opened text))) same
        (Member-map (prefix_entry records) found.0 (opened text) inside))
