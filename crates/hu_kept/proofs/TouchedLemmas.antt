-- What a collector of touched patterns makes of entries, and which keys grow out of one that a batch doesn't touch.
use Rattle.std.proofs.Common.{◌≡◌, ◌∙◌, ℕ, ℤ, pos, int_le, Bool, true, false, cond, ◌&&◌, Option, None, Some}
use Rattle.std.proofs.Common.{List, [], ◌∷◌, ◌++◌, map, refl, sym, ap, subst, inl, inr, arith, filter}
use Rattle.std.specs.Ordering.{int_eq}
use Rattle.std.specs.List.{AllByRecursion, list_all}
use Rattle.std.proofs.lemmas.Bool.{and_left, and_right, and_parts, and_from, le-ltb}
use Rattle.std.proofs.lemmas.Bool.Decides.{Decides-int_eq}
use Rattle.std.proofs.lemmas.List.Sums.{sum_by-cons}
use Rattle.hu_kind.specs.declared.entry.Entry.{Entry}
use Rattle.hu_kind.specs.Order.{cut, entry_cmp, ranking}
use Rattle.hu_kind.specs.Record.{IsRecord, items_in}
use Rattle.hu_kind.specs.Itemsets.{closed_patterns, item_patterns}
use Rattle.hu_kind.proofs.lemmas.Members.{Member, Member-append_cases, Member-append_left, Member-append_right, Member-from_map, Member-map}
use Rattle.hu_collect.specs.Rule.{Rule, made, passes}
use Rattle.hu_collect.specs.Ranks.{IsShut, IsGrown, is_part, key_of}
use Rattle.hu_closed.specs.Keys.{holds_key, is_among, is_closed_key, key_support}
use Rattle.hu_closed.specs.ClosedOnly.{closed_rule}
use Rattle.hu_collect.proofs.lemmas.Searching.{state_of}
use Rattle.hu_closed.proofs.lemmas.ClosedLemmas.{makes-closed}
use Rattle.hu_closed.proofs.lemmas.RankLemmas.{items_at, items_at-member, member-items_at}
use Rattle.hu_kept.specs.Touched.{is_touched, touched, touched_rule}

-- ---- what is made

filter-same : (p q : Entry → Bool) → ((x : Entry) → p x ≡ q x) → (xs : List Entry) → filter p xs ≡ filter q xs
filter-same p q f [] = refl
filter-same p q f (x ∷ xs) = rw (f x, filter-same p q f xs) refl

filter-twice-cons : (p q r : Entry → Bool) (x : Entry) (xs : List Entry) (b : Bool) → q x ≡ b → p x ≡ (q x && r x) → filter p xs ≡ filter r (filter q xs)
    → filter p (x ∷ xs) ≡ filter r (cond b (x ∷ filter q xs) (filter q xs))
filter-twice-cons p q r x xs true e h ih = let same : p x ≡ r x = h ∙ ap (λ c. c && r x) e in rw (same, ih) refl
filter-twice-cons p q r x xs false e h ih = let none : p x ≡ false = h ∙ ap (λ c. c && r x) e in rw none ih

filter-twice : (p q r : Entry → Bool) → ((x : Entry) → p x ≡ (q x && r x)) → (xs : List Entry) → filter p xs ≡ filter r (filter q xs)
filter-twice p q r f [] = refl
filter-twice p q r f (x ∷ xs) = filter-twice-cons p q r x xs (q x) refl (f x) (filter-twice p q r f xs)

-- by the rule of touched keys entries make what the touched ones make by the inner rule
pub made-touched : (inner : Rule) (batch : List (List (ℕ × ℤ))) (content entries : List Entry)
    → made (touched_rule inner batch) content entries ≡ made inner content (touched batch entries)
made-touched inner batch content entries =
    ap (λ es. cut inner.limit (ranking entry_cmp (content ++ es)))
    (filter-twice (passes (touched_rule inner batch)) (λ e. is_touched batch e.key) (passes inner)
    (λ e. shuffle (inner.wants e.key) (is_touched batch e.key) (int_le inner.start e.utility)) entries)
  where
    shuffle : (w t l : Bool) → ((w && t) && l) ≡ (t && (w && l))
    shuffle true true l = refl
    shuffle true false l = refl
    shuffle false true l = refl
    shuffle false false l = refl

-- and around the rule of closed keys all patterns make what the touched closed ones make by the inner rule
pub made-closed_touched : (inner : Rule) (batch records : List (List (ℕ × ℤ))) (table : List ℕ) (content : List Entry) → AllByRecursion IsRecord records
    → made (touched_rule (closed_rule inner records table) batch) content (item_patterns records) ≡ made inner content (touched batch (closed_patterns records))
made-closed_touched inner batch records table content all =
    ap (λ es. cut inner.limit (ranking entry_cmp (content ++ es)))
    (filter-same (passes (touched_rule (closed_rule inner records table) batch)) (passes (closed_rule (touched_rule inner batch) records table))
    (λ e. swap (inner.wants e.key) (is_closed_key records e.key) (is_touched batch e.key) (int_le inner.start e.utility)) (item_patterns records))
    ∙ ap (λ s. s.content) (makes-closed (state_of (touched_rule inner batch) content) records table all)
    ∙ made-touched inner batch content (closed_patterns records)
  where
    swap : (w c t l : Bool) → (((w && c) && t) && l) ≡ (((w && t) && c) && l)
    swap true true true l = refl
    swap true true false l = refl
    swap true false true l = refl
    swap true false false l = refl
    swap false c t l = refl

-- ---- keys that grow

all-part : (p : ℤ → Bool) (key grown : List ℤ) → ((n : ℤ) → Member n key → Member n grown) → list_all p grown ≡ true → list_all p key ≡ true
all-part p [] grown f h = refl
all-part p (n ∷ ns) grown f h = and_from (p n) (list_all p ns) (at p n grown h (f n (inl refl))) (all-part p ns grown (λ m k. f m (inr k)) h)
  where
    at : (p : ℤ → Bool) (n : ℤ) (ns : List ℤ) → list_all p ns ≡ true → Member n ns → p n ≡ true
    at p n [] h m = absurd m
    at p n (k ∷ ks) h (inl e) = ap p (sym e) ∙ (and_parts (p k) (list_all p ks) h).0
    at p n (k ∷ ks) h (inr m) = at p n ks (and_parts (p k) (list_all p ks) h).1 m

-- records that don't hold a key hold none that has its numbers
support-part : (key grown : List ℤ) → ((n : ℤ) → Member n key → Member n grown) → (batch : List (List (ℕ × ℤ)))
    → key_support batch key ≡ 0 → key_support batch grown ≡ 0
support-part key grown f [] h = refl
support-part key grown f (r ∷ rs) h =
    let parts = unheld (holds_key key r) refl in
    let none : ◌≡◌ {A = ℕ} (cond (holds_key grown r) 1 0) 0 = by (holds_key grown r) refl parts.0 in
    omega (arith, sum_by-cons (λ y. cond (holds_key grown y) 1 0) r rs, none, support-part key grown f rs parts.1)
  where
    unheld : (b : Bool) → holds_key key r ≡ b → (holds_key key r ≡ false) × (key_support rs key ≡ 0)
    unheld true e =
        let one : ◌≡◌ {A = ℕ} (cond (holds_key key r) 1 0) 1 = rw e refl in
        absurd (omega (arith, sum_by-cons (λ y. cond (holds_key key y) 1 0) r rs, one))
    unheld false e = (e, omega (arith, sum_by-cons (λ y. cond (holds_key key y) 1 0) r rs))

    by : (b : Bool) → holds_key grown r ≡ b → holds_key key r ≡ false → ◌≡◌ {A = ℕ} (cond b 1 0) 0
    by true e out = let here = all-part (is_among (items_in r)) key grown f e in cc
    by false e out = refl

part-members : (key grown : List ℤ) → is_part key grown ≡ true → (n : ℤ) → Member n key → Member n grown
part-members [] grown h n m = absurd m
part-members (x ∷ xs) [] h n m = cc
part-members (x ∷ xs) (y ∷ ys) h n m = by (int_eq x y) refl h (λ k q. part-members xs ys k n q) (λ k. inr (part-members (x ∷ xs) ys k n m)) m
  where
    by : (b : Bool) → int_eq x y ≡ b → cond b (is_part xs ys) (is_part (x ∷ xs) ys) ≡ true → (is_part xs ys ≡ true → Member n xs → Member n ys)
        → (is_part (x ∷ xs) ys ≡ true → Member n (y ∷ ys)) → Member n (x ∷ xs) → Member n (y ∷ ys)
    by true e k both skip (inl q) = inl (sym ((Decides-int_eq x y).0 e) ∙ q)
    by true e k both skip (inr q) = inr (both k q)
    by false e k both skip q = skip k

table-members : (table before more : List ℕ) (last : ℕ) (n : ℤ) → Member n (key_of table (before ++ last ∷ []))
    → Member n (key_of table (before ++ last ∷ more))
table-members table before more last n m =
    let ranks = before ++ last ∷ [] in
    let grown = before ++ last ∷ more in
    let item = Member-from_map pos n (items_at table ranks) m in
    let rank = items_at-member table ranks item.0 item.1 in
    let in_grown : Member rank.0 grown = elim (Member-append_cases rank.0 before (last ∷ []) rank.1) [
      | inl early ↦ Member-append_left rank.0 before (last ∷ more) early
      | inr (inl e) ↦ Member-append_right rank.0 before (last ∷ more) (inl e)
      | inr (inr none) ↦ absurd none
    ] in
    let here : Member item.0 (items_at table grown) = subst (λ i. Member i (items_at table grown)) rank.2 (member-items_at table grown rank.0 in_grown) in
    subst (λ k. Member k (map pos (items_at table grown))) item.2 (Member-map pos item.0 (items_at table grown) here)

grown-members : (table : Option (List ℕ)) (key : List ℤ) (last : ℕ) (grown : List ℤ) → IsGrown table key last grown → (n : ℤ) → Member n key → Member n grown
grown-members None key last grown g n m = part-members key grown g n m
grown-members (Some table) key last grown g n m =
    subst (λ k. Member n k) (sym g.4) (table-members table g.0 g.1 last n (subst (λ k. Member n k) g.3 m))

-- where no record of the batch holds a key, none that grows from it is wanted
pub wants-untouched : (inner : Rule) (batch : List (List (ℕ × ℤ))) (key : List ℤ) (last : ℕ) → key_support batch key ≡ 0
    → IsShut (touched_rule inner batch) key last
wants-untouched inner batch key last none grown g =
    let out = support-part key grown (grown-members inner.table key last grown g) batch none in
    and_right (inner.wants grown) (is_touched batch grown) (le-ltb 0 (key_support batch grown) (omega (arith, out)))

-- where the inner rule wants none of them
pub wants-inner : (inner : Rule) (batch : List (List (ℕ × ℤ))) (key : List ℤ) (last : ℕ) → IsShut inner key last → IsShut (touched_rule inner batch) key last
wants-inner inner batch key last none grown g = and_left (inner.wants grown) (is_touched batch grown) (none grown g)
