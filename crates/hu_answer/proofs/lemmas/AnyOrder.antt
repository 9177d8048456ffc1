-- Records in another order have the same answers.
use Rattle.std.proofs.Common.{◌≡◌, ℕ, ◌<◌, ℤ, ◌≤ℤ◌, Option, None, List, map, refl, sym, ap, ◌∙◌, subst}
use Rattle.std.specs.List.{Contains}
use Rattle.std.specs.List.Sorted.{IsPermutation}
use Rattle.std.proofs.lemmas.List.Sorted.{Contains-permutation, IsPermutation-sym}
use Rattle.hu_kind.specs.declared.entry.Entry.{Entry}
use Rattle.hu_kind.specs.Answer.{answer, item_answer, closed_answer, sequence_answer}
use Rattle.hu_kind.specs.Itemsets.{item_patterns, closed_patterns}
use Rattle.hu_kind.specs.Order.{entry_cmp, cut}
use Rattle.hu_kind.specs.Sequence.{sequence_patterns, sequence_entry}
use Rattle.hu_kind.proofs.lemmas.Members.{Member, Contains-from_member, Member-from_contains, Member-map}
use Rattle.hu_kind.proofs.lemmas.Members.{Member-from_map, Member-flat_map, Member-from_flat_map}
use Rattle.hu_answer.specs.Supersets.{IsClosedSet}
use Rattle.hu_answer.specs.Entries.{IsEntryOf, IsFoundSet}
use Rattle.hu_answer.specs.Laws.{ItemsInAnyOrder, ClosedInAnyOrder, SequencesInAnyOrder}
use Rattle.hu_answer.proofs.lemmas.Answers.{Member-answer, Member-from_answer, is_item_answer, is_pattern}
use Rattle.hu_answer.proofs.lemmas.Closed.{is_closed_answer}
use Rattle.hu_kind.proofs.lemmas.EntryOrder.{entry_order, entry-same}
use Rattle.hu_answer.proofs.lemmas.Fronts.{sorted-answer}
use Rattle.hu_answer.proofs.lemmas.Ranked.{sorted-same}
use Rattle.hu_answer.proofs.lemmas.Sequences.{patterns_of}
use Rattle.hu_answer.proofs.lemmas.Sums.{utility-permutation, support-permutation, sequence_utility-permutation, sequence_support-permutation}

-- answers with the same entries are the same, cut or whole
same-entries : (least : ℤ) (top : Option ℕ) (ps qs : List Entry) → ((e : Entry) → Contains (answer least None ps) e → Contains (answer least None qs) e)
    → ((e : Entry) → Contains (answer least None qs) e → Contains (answer least None ps) e) → answer least top ps ≡ answer least top qs
same-entries least top ps qs there back =
    ap (cut top)
    (sorted-same entry_cmp entry_order (answer least None ps) (answer least None qs) (sorted-answer least None ps) (sorted-answer least None qs)
    (λ e m. Member-from_contains e _ (there e (Contains-from_member e _ m)))
    (λ e m. Member-from_contains e _ (back e (Contains-from_member e _ m))))

-- ---- sets

found-again : (first second : List (List (ℕ × ℤ))) (least : ℤ) (items : List ℕ) → IsPermutation first second → IsFoundSet first least items
    → IsFoundSet second least items
found-again first second least items h f = record {
  some = f.some;
  ascending = f.ascending;
  held = subst (λ n. 0 < n) (support-permutation first second items h) f.held;
  earns = subst (λ z. least ≤ℤ z) (utility-permutation first second items h) f.earns;
}

entry-again : (first second : List (List (ℕ × ℤ))) (items : List ℕ) (entry : Entry) → IsPermutation first second → IsEntryOf first items entry
    → IsEntryOf second items entry
entry-again first second items entry h is = record {
  key = is.key;
  earned = is.earned ∙ utility-permutation first second items h;
  held_by = is.held_by ∙ support-permutation first second items h;
}

closed-again : (first second : List (List (ℕ × ℤ))) (items : List ℕ) → IsPermutation first second → IsClosedSet first items → IsClosedSet second items
closed-again first second items h closed larger sup same =
    closed larger sup (support-permutation first second larger h ∙ same ∙ sym (support-permutation first second items h))

items-again : (first second : List (List (ℕ × ℤ))) (least : ℤ) → IsPermutation first second → (e : Entry)
    → Contains (item_answer first least None) e → Contains (item_answer second least None) e
items-again first second least h e c =
    let s = (is_item_answer first least e).0 c in
    (is_item_answer second least e).1 (s.0, found-again first second least s.0 h s.1, entry-again first second s.0 e h s.2)

-- the patterns are the same, each with what it earns
pub patterns-again : (first second : List (List (ℕ × ℤ))) → IsPermutation first second → (e : Entry)
    → Contains (item_patterns first) e → Contains (item_patterns second) e
patterns-again first second h e c =
    let s = (is_pattern first e).0 c in
    (is_pattern second e).1 (s.0, found-again first second e.utility s.0 h s.1, entry-again first second s.0 e h s.2)

pub items_in_any_order : ItemsInAnyOrder
items_in_any_order first second least top h =
    same-entries least top (item_patterns first) (item_patterns second) (items-again first second least h)
    (items-again second first least (IsPermutation-sym first second h))

closed_answer-again : (first second : List (List (ℕ × ℤ))) (least : ℤ) → IsPermutation first second → (e : Entry)
    → Contains (closed_answer first least None) e → Contains (closed_answer second least None) e
closed_answer-again first second least h e c =
    let s = (is_closed_answer first least e).0 c in
    (is_closed_answer second least e).1
    (s.0, found-again first second least s.0 h s.1, closed-again first second s.0 h s.2, entry-again first second s.0 e h s.3)

pub closed_in_any_order : ClosedInAnyOrder
closed_in_any_order first second least top h =
    same-entries least top (closed_patterns first) (closed_patterns second) (closed_answer-again first second least h)
    (closed_answer-again second first least (IsPermutation-sym first second h))

-- ---- sequences

sequence_patterns-again : (first second : List (List (List (ℕ × ℤ)))) → IsPermutation first second → (e : Entry)
    → Member e (sequence_patterns first) → Member e (sequence_patterns second)
sequence_patterns-again first second h e m =
    let from = Member-from_flat_map (λ r. map (sequence_entry first) (patterns_of r)) e first m in
    let pattern = Member-from_map (sequence_entry first) e (patterns_of from.0) from.2 in
    let stands = Member-from_contains from.0 second (Contains-permutation first second from.0 h (Contains-from_member from.0 first from.1)) in
    let same : sequence_entry second pattern.0 ≡ e =
    entry-same (sequence_entry second pattern.0) (sequence_entry first pattern.0) refl
    (sym (sequence_utility-permutation first second pattern.0 h))
    (sym (sequence_support-permutation first second pattern.0 h))
    ∙ pattern.2 in
    Member-flat_map (λ r. map (sequence_entry second) (patterns_of r)) from.0 e second stands
    (subst (λ x. Member x (map (sequence_entry second) (patterns_of from.0))) same
    (Member-map (sequence_entry second) pattern.0 (patterns_of from.0) pattern.1))

sequences-again : (first second : List (List (List (ℕ × ℤ)))) (least : ℤ) → IsPermutation first second → (e : Entry)
    → Contains (sequence_answer first least None) e → Contains (sequence_answer second least None) e
sequences-again first second least h e c =
    let from = Member-from_answer least (sequence_patterns first) e (Member-from_contains e _ c) in
    Contains-from_member e _ (Member-answer least (sequence_patterns second) e (sequence_patterns-again first second h e from.0) from.1)

pub sequences_in_any_order : SequencesInAnyOrder
sequences_in_any_order first second least top h =
    same-entries least top (sequence_patterns first) (sequence_patterns second) (sequences-again first second least h)
    (sequences-again second first least (IsPermutation-sym first second h))
