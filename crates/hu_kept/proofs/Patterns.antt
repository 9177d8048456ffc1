-- Patterns of a task, before and after a batch.
use Rattle.std.proofs.Common.{◌≡◌, ◌∙◌, ℕ, ◌<◌, ℤ, pos, ◌≤ℤ◌, unsigned_abs, nat_lt, Bool, true, false, cond, List, []}
use Rattle.std.proofs.Common.{◌∷◌, ◌++◌, map, refl, sym, ap, subst, arith, filter}
use Rattle.std.proofs.lemmas.Bool.{ltb-false}
use Rattle.std.proofs.lemmas.Int.{ints}
use Rattle.hu_kind.specs.declared.entry.Entry.{Entry}
use Rattle.hu_kind.specs.Database.{support, utility}
use Rattle.hu_kind.specs.Itemsets.{closed_patterns, item_entry, item_patterns, is_closed, occurring_sets}
use Rattle.hu_kind.specs.Answer.{answer}
use Rattle.hu_kind.proofs.lemmas.Members.{Member, Member-filter, Member-from_filter, Member-from_map, Member-map}
use Rattle.hu_kind.proofs.lemmas.Occurring.{Occurs, Occurs-from_member, Member-from_occurs}
use Rattle.hu_closed.specs.Keys.{key_support}
use Rattle.hu_closed.proofs.lemmas.Closedness.{support-key}
use Rattle.hu_kept.specs.Kept.{Keeping, answer_of, patterns_of}
use Rattle.hu_kept.specs.Laws.{NoneBelow}
use Rattle.hu_kept.specs.Touched.{is_touched}
use Rattle.hu_kept.proofs.Batches.{keeps_closedness, keeps_untouched, never_loses, stays_closed, support-append}

pub answer-patterns : (kept : Keeping) → answer_of kept ≡ answer kept.least kept.top (patterns_of kept.closed kept.records)
answer-patterns kept = by kept.closed
  where
    by : (b : Bool) → cond b (answer kept.least kept.top (closed_patterns kept.records))
        (answer kept.least kept.top (item_patterns kept.records))
        ≡ answer kept.least kept.top (patterns_of b kept.records)
    by true = refl
    by false = refl

-- an entry is that of a set that occurs, and of a closed one where the task wants it
pub record IsPattern (closed : Bool) (records : List (List (ℕ × ℤ))) (entry : Entry) : Type 0 where
  pub items : List ℕ
  pub is : item_entry records items ≡ entry
  pub occurs : Occurs records items
  pub closes : closed ≡ true → is_closed records items ≡ true

pub IsPattern-from_member : (closed : Bool) (records : List (List (ℕ × ℤ))) (entry : Entry)
    → Member entry (patterns_of closed records) → IsPattern closed records entry
IsPattern-from_member true records entry m =
    let set = Member-from_map (item_entry records) entry (filter (is_closed records) (occurring_sets records)) m in
    let both = Member-from_filter (is_closed records) set.0 (occurring_sets records) set.1 in
    record { items = set.0; is = set.2; occurs = Occurs-from_member records set.0 both.0; closes = λ _. both.1 }
IsPattern-from_member false records entry m =
    let set = Member-from_map (item_entry records) entry (occurring_sets records) m in
    record { items = set.0; is = set.2; occurs = Occurs-from_member records set.0 set.1; closes = λ e. cc }

pub Member-from_pattern : (closed : Bool) (records : List (List (ℕ × ℤ))) (entry : Entry)
    → IsPattern closed records entry → Member entry (patterns_of closed records)
Member-from_pattern true records entry p =
    let sets = filter (is_closed records) (occurring_sets records) in
    let m = Member-filter (is_closed records) p.items (occurring_sets records) (Member-from_occurs records p.items p.occurs) (p.closes refl) in
    subst (λ e. Member e (map (item_entry records) sets)) p.is (Member-map (item_entry records) p.items sets m)
Member-from_pattern false records entry p =
    subst (λ e. Member e (map (item_entry records) (occurring_sets records))) p.is
    (Member-map (item_entry records) p.items (occurring_sets records) (Member-from_occurs records p.items p.occurs))

-- an entry is told by its utility and its support
pub entry-same : (records others : List (List (ℕ × ℤ))) (items : List ℕ) → utility records items ≡ utility others items
    → support records items ≡ support others items
    → item_entry others items ≡ item_entry records items
entry-same records others items u s = (λ j. record { key = map pos items; utility = sym u j; support = sym s j })

-- ---- keys

numbers : (items : List ℕ) → map unsigned_abs (map pos items) ≡ items
numbers [] = refl
numbers (i ∷ is) = ap (λ s. i ∷ s) (numbers is)

-- patterns of one key are the same
pub same_key : (closed : Bool) (records : List (List (ℕ × ℤ))) (a b : Entry) → IsPattern closed records a → IsPattern closed records b → a.key ≡ b.key → a ≡ b
same_key closed records a b p q e =
    let keys : map pos p.items ≡ map pos q.items = ap (λ (x : Entry). x.key) p.is ∙ e ∙ sym (ap (λ (x : Entry). x.key) q.is) in
    let items : p.items ≡ q.items = sym (numbers p.items) ∙ ap (map unsigned_abs) keys ∙ numbers q.items in
    sym p.is ∙ ap (item_entry records) items ∙ q.is

-- an untouched pattern is in no record of the batch
key-unheld : (batch : List (List (ℕ × ℤ))) (items : List ℕ) (key : List ℤ) → map pos items ≡ key → is_touched batch key ≡ false → support batch items ≡ 0
key-unheld batch items key is out =
    let low : key_support batch key ≡ support batch items = ap (key_support batch) (sym is) ∙ support-key batch items in
    let none : nat_lt 0 (support batch items) ≡ false = ap (λ n. nat_lt 0 n) (sym low) ∙ out in
    omega (arith, ltb-false 0 (support batch items) none)

-- ---- with a batch

module _ (closed : Bool) (records batch : List (List (ℕ × ℤ))) (entry : Entry) where
  -- an untouched pattern is one before
  pub pattern-before : is_touched batch entry.key ≡ false → IsPattern closed (records ++ batch) entry → IsPattern closed records entry
  pattern-before out p =
      let none = key-unheld batch p.items entry.key (ap (λ (x : Entry). x.key) p.is) out in
      let same = keeps_untouched records batch p.items none in
      let held : 0 < support records p.items = omega (arith, p.occurs.held, same.1) in
      record {
        items = p.items;
        is = entry-same (records ++ batch) records p.items same.0 same.1 ∙ p.is;
        occurs = record { some = p.occurs.some; ascending = p.occurs.ascending; held = held };
        closes = λ e. sym (keeps_closedness records batch p.items none held) ∙ p.closes e;
      }

  -- and one before is a pattern
  pub pattern-after : is_touched batch entry.key ≡ false → IsPattern closed records entry → IsPattern closed (records ++ batch) entry
  pattern-after out p =
      let none = key-unheld batch p.items entry.key (ap (λ (x : Entry). x.key) p.is) out in
      let same = keeps_untouched records batch p.items none in
      record {
        items = p.items;
        is = sym (entry-same (records ++ batch) records p.items same.0 same.1) ∙ p.is;
        occurs = record { some = p.occurs.some; ascending = p.occurs.ascending; held = omega (arith, p.occurs.held, same.1) };
        closes = λ e. keeps_closedness records batch p.items none p.occurs.held ∙ p.closes e;
      }

  -- without values below 0 a pattern stays one, and loses nothing
  pub pattern-grown : NoneBelow batch → IsPattern closed records entry
      → (grown : Entry) × IsPattern closed (records ++ batch) grown × (grown.key ≡ entry.key) × (entry.utility ≤ℤ grown.utility)
  pattern-grown none p =
      let low : entry.utility ≡ utility records p.items = ap (λ (x : Entry). x.utility) (sym p.is) in (
        item_entry (records ++ batch) p.items,
        record {
          items = p.items;
          is = refl;
          occurs = record { some = p.occurs.some; ascending = p.occurs.ascending; held = omega (arith, p.occurs.held, support-append records batch p.items) };
          closes = λ e. stays_closed records batch p.items p.occurs.held (p.closes e);
        },
        ap (λ (x : Entry). x.key) p.is,
        omega (arith, ints, low, never_loses records batch p.items none),
      )
