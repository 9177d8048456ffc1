-- The places of a prefix, and the sums over all records.
use Rattle.std.proofs.Common.{◌≡◌, ℕ, ◌+◌, ◌<◌, ◌≤◌, ◌^◌, Bool, true, false, cond, eqb, ◌&&◌, ◌||◌, ℤ, pos, ◌+ℤ◌, unsigned_abs, Option, None, Some, List, []}
use Rattle.std.proofs.Common.{◌∷◌, ◌++◌, map, filter, length, refl, sym, ap, ◌∙◌, subst, inl, inr, arith, sum_by}
use Rattle.std.specs.List.{AllByRecursion, list_any}
use Rattle.std.proofs.lemmas.Bool.{cases_Bool, cases_eq, eq-eqb, ne_eqb}
use Rattle.std.proofs.lemmas.Int.{ints}
use Rattle.std.proofs.lemmas.List.Sums.{sum_by-cons}
use Rattle.hu_kind.specs.First.{first_some}
use Rattle.hu_kind.specs.Record.{has, holds, value_of, values_of, positive_part, absolute_of}
use Rattle.hu_kind.specs.Database.{utility, support}
use Rattle.hu_kind.proofs.lemmas.Members.{Member, Member-append_right}
use Rattle.hu_kind.proofs.lemmas.Occurring.{holds-append, values_of-append}
use Rattle.hu_proof.specs.declared.token.Token.{Token}
use Rattle.hu_proof.specs.Bounds.{is_among, after, later_gain, cut_bound, stands_with}
use Rattle.hu_proof.specs.Check.{Node, first_such, left_out, wrong_bound, prefix_fault, utility_fault, child_fault, cut_fault, faults_of, line_fault}
use Rattle.hu_proof.specs.Judged.{token_items, missing, bound_fault_at, bound_faults, missing_fault, fault_at, line_fault_at}
use Rattle.hu_proof.specs.Places.{PlaceOf, held, narrowed, earned, shares, later_size, Apart, IsRoomy, HasRoom, Rises, AllAscend}
use Rattle.hu_proof.specs.Text.{Said}
use Rattle.hu_proof.proofs.Orders.{member-among, Apart-left, Apart-right}
use Rattle.hu_proof.proofs.lemmas.OrderMembers.{among-member, not_among}
use Rattle.hu_proof.proofs.PlaceLemmas.{size-monotone}

-- ---- sums

pub earned-held : (records : List (List (ℕ × ℤ))) (prefix : List ℕ) → earned (held records prefix) ≡ utility records prefix
earned-held [] prefix = refl
earned-held (r ∷ rs) prefix =
    let ih = earned-held rs prefix in
    elim (cases_Bool (holds prefix r)) [
      | inl e ↦ simp e (ap (λ v. values_of prefix r +ℤ v) ih)
      | inr e ↦ simp e (omega (arith, ints))
    ]

length-chosen : {A B : Type 0} (f : A → B) (b : Bool) (x : A) (xs : List A) (n : ℕ) → length (map f xs) ≡ n
    → length (map f (cond b (x ∷ xs) xs)) ≡ cond b 1 0 + n
length-chosen f true x xs n e = omega arith
length-chosen f false x xs n e = omega arith

pub length-held : (records : List (List (ℕ × ℤ))) (prefix : List ℕ) → length (held records prefix) ≡ support records prefix
length-held [] prefix = refl
length-held (r ∷ rs) prefix =
    length-chosen (λ (c : List (ℕ × ℤ)). (c, values_of prefix c)) (holds prefix r) r (filter (holds prefix) rs) (support rs prefix) (length-held rs prefix)
    ∙ sym (sum_by-cons (λ (c : List (ℕ × ℤ)). cond (holds prefix c) 1 0) r rs)

holds-one : (prefix : List ℕ) (item : ℕ) (r : List (ℕ × ℤ)) → holds (prefix ++ item ∷ []) r ≡ (holds prefix r && has item r)
holds-one prefix item r = holds-append prefix (item ∷ []) r ∙ ap (λ b. holds prefix r && b) (and-true (has item r))
  where
    and-true : (b : Bool) → (b && true) ≡ b
    and-true true = refl
    and-true false = refl

values-one : (prefix : List ℕ) (item : ℕ) (r : List (ℕ × ℤ)) → values_of (prefix ++ item ∷ []) r ≡ values_of prefix r +ℤ value_of item r
values-one prefix item r = let e = values_of-append prefix (item ∷ []) r in omega (arith, ints)

pub narrowed-held : (records : List (List (ℕ × ℤ))) (prefix : List ℕ) (item : ℕ) → narrowed item (held records prefix) ≡ held records (prefix ++ item ∷ [])
narrowed-held [] prefix item = refl
narrowed-held (r ∷ rs) prefix item =
    let ih = narrowed-held rs prefix item in
    let h = holds-one prefix item r in
    elim (cases_Bool (holds prefix r)) [
      | inl e ↦ elim (cases_Bool (has item r)) [
        | inl k ↦ simp (h, e, k, values-one prefix item r) (ap (λ ps. (r, values_of prefix r +ℤ value_of item r) ∷ ps) ih)
        | inr k ↦ simp (h, e, k) ih
      ]
      | inr e ↦ simp (h, e) ih
    ]

pub shares-held : (records : List (List (ℕ × ℤ))) (prefix later : List ℕ) (item : ℕ)
    → shares item later (held records prefix) ≡ cut_bound records (prefix ++ item ∷ []) later
shares-held [] prefix later item = refl
shares-held (r ∷ rs) prefix later item =
    let ih = shares-held rs prefix later item in
    let h = holds-one prefix item r in
    elim (cases_Bool (holds prefix r)) [
      | inl e ↦ elim (cases_Bool (has item r)) [
        | inl k ↦ simp (h, e, k, values-one prefix item r) (ap (λ v. positive_part ((values_of prefix r +ℤ value_of item r) +ℤ later_gain later r) +ℤ v) ih)
        | inr k ↦ simp (h, e, k) (ap (λ v. pos 0 +ℤ v) ih)
      ]
      | inr e ↦ simp (h, e) (omega (arith, ints))
    ]

any-held : (records : List (List (ℕ × ℤ))) (prefix : List ℕ) (item : ℕ)
    → list_any (λ (place : PlaceOf). has item place.0) (held records prefix) ≡ stands_with records prefix item
any-held [] prefix item = refl
any-held (r ∷ rs) prefix item =
    let ih = any-held rs prefix item in
    let h = holds-one prefix item r in
    elim (cases_Bool (holds prefix r)) [
      | inl e ↦ simp (h, e) (ap (λ b. has item r || b) ih)
      | inr e ↦ simp (h, e) ih
    ]

-- ---- faults

first_such-as : (s t : ℕ → Bool) → ((x : ℕ) → s x ≡ t x) → (xs : List ℕ) → first_such s xs ≡ first_such t xs
first_such-as s t same [] = refl
first_such-as s t same (x ∷ xs) = rw (same x, first_such-as s t same xs) refl

any-items : (item : ℕ) (tokens : List Token) → is_among item (token_items tokens) ≡ list_any (λ token. eqb item token.item.0) tokens
any-items item [] = refl
any-items item (token ∷ tokens) = ap (λ b. eqb item token.item.0 || b) (any-items item tokens)

missing-held : (records : List (List (ℕ × ℤ))) (node : Node) (tokens : List Token)
    → missing node.later (token_items tokens) (held records node.prefix) ≡ left_out records node tokens
missing-held records node tokens =
    first_such-as _ _ (λ item. rw (any-items item tokens, any-held records node.prefix item) refl) node.later

first-map : {A B : Type 0} (f g : A → Option B) → ((x : A) → f x ≡ g x) → (xs : List A) → first_some (map f xs) ≡ first_some (map g xs)
first-map f g same [] = refl
first-map f g same (x ∷ xs) = rw (same x) (step (g x) (first-map f g same xs))
  where
    step : (o : Option _) → first_some (map f xs) ≡ first_some (map g xs) → first_some (o ∷ map f xs) ≡ first_some (o ∷ map g xs)
    step None e = e
    step (Some y) e = refl

bounds-held : (records : List (List (ℕ × ℤ))) (line : ℕ) (node : Node) (tokens : List Token)
    → bound_faults line node.later (held records node.prefix) tokens ≡ first_some (map (wrong_bound line records node) tokens)
bounds-held records line node tokens =
    first-map (bound_fault_at line node.later (held records node.prefix)) (wrong_bound line records node)
    (λ token. rw (shares-held records node.prefix (after token.item.0 node.later) token.item.0) refl) tokens

nested : {A : Type 0} (a b c d e f : Option A) → first_some (a ∷ b ∷ c ∷ first_some (d ∷ e ∷ f ∷ []) ∷ []) ≡ first_some (a ∷ b ∷ c ∷ d ∷ e ∷ f ∷ [])
nested (Some x) b c d e f = refl
nested None (Some x) c d e f = refl
nested None None (Some x) d e f = refl
nested None None None (Some x) e f = refl
nested None None None None (Some x) f = refl
nested None None None None None (Some x) = refl
nested None None None None None None = refl

fault-held : (records : List (List (ℕ × ℤ))) (least : ℤ) (line : ℕ) (node : Node) (said : Said)
    → fault_at least line node (held records node.prefix) said ≡ first_some (faults_of records least line node said)
fault-held records least line node said =
    nested (prefix_fault line node said) (utility_fault line said.utility (earned (held records node.prefix))) (child_fault line node said)
    (missing_fault line node.later (token_items said.tokens) (held records node.prefix))
    (bound_faults line node.later (held records node.prefix) said.tokens) (cut_fault least line said)
    ∙ rw (earned-held records node.prefix, missing-held records node said.tokens, bounds-held records line node said.tokens) refl

pub line_fault-held : (records : List (List (ℕ × ℤ))) (least : ℤ) (line : ℕ) (node : Node) (places : List PlaceOf) (o : Option Said)
    → places ≡ held records node.prefix
    → line_fault_at least line node places o ≡ line_fault records least line node o
line_fault-held records least line node places None e = refl
line_fault-held records least line node places (Some said) e = ap (λ ps. fault_at least line node ps said) e ∙ fault-held records least line node said

-- ---- room

later_size-bit : (a b : Bool) (n : ℕ) → (a ≡ true → b ≡ true → ⊥) → cond a n 0 + cond b n 0 ≤ n
later_size-bit true true n out = absurd (out refl refl)
later_size-bit true false n out = omega arith
later_size-bit false true n out = omega arith
later_size-bit false false n out = omega arith

apart-parts : (xs ys : List ℕ) → Apart (xs ++ ys) → (x : ℕ) → Member x xs → Member x ys → ⊥
apart-parts [] ys apart x m n = m
apart-parts (z ∷ zs) ys apart x (inl e) n = apart.0 (Member-append_right z zs ys (subst (λ y. Member y ys) (sym e) n))
apart-parts (z ∷ zs) ys apart x (inr m) n = apart-parts zs ys apart.1 x m n

sizes-apart : (xs ys : List ℕ) (cells : List (ℕ × ℤ)) → Apart (xs ++ ys) → later_size xs cells + later_size ys cells ≤ absolute_of cells
sizes-apart xs ys [] apart = omega arith
sizes-apart xs ys (cell ∷ cells) apart =
    let ih = sizes-apart xs ys cells apart in
    let bit = later_size-bit (is_among cell.0 xs) (is_among cell.0 ys) (unsigned_abs cell.1)
    (λ a b. apart-parts xs ys apart cell.0 (among-member cell.0 xs a) (among-member cell.0 ys b)) in
    omega (arith, sum_by-cons (λ (c : ℕ × ℤ). unsigned_abs c.1) cell cells)

sizes-monotone : (x : ℕ) (xs : List ℕ) (cells : List (ℕ × ℤ)) → later_size xs cells ≤ later_size (x ∷ xs) cells
sizes-monotone x xs [] = omega arith
sizes-monotone x xs (cell ∷ cells) =
    let ih = sizes-monotone x xs cells in
    let bit = size-monotone (is_among cell.0 xs) (is_among cell.0 (x ∷ xs)) (unsigned_abs cell.1)
    (λ h. member-among cell.0 (x ∷ xs) (inr (among-member cell.0 xs h))) in
    omega arith

-- an item more adds its value
size-more : (x : ℕ) (xs : List ℕ) (cells : List (ℕ × ℤ)) → (Member x xs → ⊥)
    → unsigned_abs (value_of x cells) + later_size xs cells ≤ later_size (x ∷ xs) cells
size-more x xs [] out = omega arith
size-more x xs (cell ∷ cells) out = elim (cases_eq x cell.0) [
  | inl e ↦
      let here : eqb x cell.0 ≡ true = eq-eqb x cell.0 e in
      let back : eqb cell.0 x ≡ true = eq-eqb cell.0 x (sym e) in
      let gone : is_among cell.0 xs ≡ false = not_among cell.0 xs (subst (λ y. Member y xs → ⊥) e out) in
      let more = sizes-monotone x xs cells in
      simp (here, back, gone) (omega arith)
  | inr ne ↦
      let here : eqb x cell.0 ≡ false = ne_eqb x cell.0 ne in
      let back : eqb cell.0 x ≡ false = ne_eqb cell.0 x (λ e. ne (sym e)) in
      let ih = size-more x xs cells out in
      simp (here, back) (omega arith)
]

values-size : (xs : List ℕ) (cells : List (ℕ × ℤ)) → Apart xs → unsigned_abs (values_of xs cells) ≤ later_size xs cells
values-size [] cells apart = omega arith
values-size (x ∷ xs) cells apart =
    let ih = values-size xs cells apart.1 in
    let one = size-more x xs cells apart.0 in
    omega (arith, ints)

sum-held : (records : List (List (ℕ × ℤ))) (prefix : List ℕ) → sum_by (λ (place : PlaceOf). absolute_of place.0) (held records prefix) ≤ sum_by
    absolute_of records
sum-held [] prefix = omega arith
sum-held (r ∷ rs) prefix =
    let ih = sum-held rs prefix in
    let all = sum_by-cons absolute_of r rs in
    elim (cases_Bool (holds prefix r)) [
      | inl e ↦ simp e (omega (arith, sum_by-cons (λ (place : PlaceOf). absolute_of place.0) (r, values_of prefix r) (held rs prefix)))
      | inr e ↦ simp e (omega arith)
    ]

roomy-held : (records : List (List (ℕ × ℤ))) (prefix later : List ℕ) → Apart (prefix ++ later) → AllByRecursion (IsRoomy later) (held records prefix)
roomy-held [] prefix later apart = tt
roomy-held (r ∷ rs) prefix later apart =
    let ih = roomy-held rs prefix later apart in
    let one : IsRoomy later (r, values_of prefix r) =
    let a = values-size prefix r (Apart-left prefix later apart) in let b = sizes-apart prefix later r apart in omega arith in
    elim (cases_Bool (holds prefix r)) [
      | inl e ↦ simp e (one, ih)
      | inr e ↦ simp e ih
    ]

rises-held : (records : List (List (ℕ × ℤ))) (prefix : List ℕ) → AllAscend records
    → AllByRecursion Rises (held records prefix)
rises-held [] prefix up = tt
rises-held (r ∷ rs) prefix up =
    let ih = rises-held rs prefix up.1 in
    elim (cases_Bool (holds prefix r)) [
      | inl e ↦ simp e (up.0, ih)
      | inr e ↦ simp e ih
    ]

pub room-held : (records : List (List (ℕ × ℤ))) (prefix later : List ℕ) → Apart (prefix ++ later)
    → AllAscend records → sum_by absolute_of records < 2 ^ 127
    → HasRoom later (held records prefix)
room-held records prefix later apart up fits = record {
  apart = Apart-right prefix later apart;
  each = roomy-held records prefix later apart;
  rises = rises-held records prefix up;
  sum = let sum = sum-held records prefix in omega (arith, fits, sum);
}
