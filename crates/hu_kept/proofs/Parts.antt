-- The old entries that a batch doesn't touch and the touched patterns make the answer with the batch.
use Rattle.std.proofs.Common.{◌≡◌, ◌∙◌, ◌⊎◌, ℕ, ℤ, int_le, Bool, true, false, not, Option, None, List, [], ◌++◌, refl, sym, ap, inl, inr, append-nil}
use Rattle.hu_kind.specs.declared.entry.Entry.{Entry}
use Rattle.hu_kind.specs.Order.{cut, entry_cmp, ranking}
use Rattle.hu_kind.specs.Answer.{answer, found}
use Rattle.hu_kind.proofs.lemmas.Members.{Contains-from_member, Member, Member-append_cases, Member-append_left, Member-append_right, Member-filter}
use Rattle.hu_kind.proofs.lemmas.Members.{Member-from_contains, Member-from_filter, filter-all}
use Rattle.hu_kind.proofs.lemmas.Occurring.{by_members}
use Rattle.hu_collect.specs.Rule.{Rule, made, passes, rule_of}
use Rattle.hu_collect.proofs.lemmas.Made.{kept-made, makes_by_members, makes_by_passing, makes_in_turn}
use Rattle.hu_totals.proofs.lemmas.SortedLists.{Member-from_ranking}
use Rattle.hu_kept.specs.Kept.{Keeping, answer_of, patterns_of, with_batch}
use Rattle.hu_kept.specs.Laws.{NoneBelow}
use Rattle.hu_kept.specs.Touched.{is_touched, touched, untouched}
use Rattle.hu_kept.proofs.Outside.{Member-cut, stays-outside}
use Rattle.hu_kept.proofs.Patterns.{IsPattern-from_member, Member-from_pattern, answer-patterns, pattern-after}

-- ---- a list between the first k of another and that other makes what the other does

module _ (least : ℤ) (top : Option ℕ) (all some : List Entry) where
  abbrev rule : Rule
  rule = rule_of least top

  abbrev first : List Entry
  first = made rule [] all

  first-found : (x : Entry) → Member x first → Member x (found least all)
  first-found x m = Member-from_ranking entry_cmp x (found least all) (Member-cut top x (ranking entry_cmp (found least all)) m)

  -- what is made makes itself
  first-again : made rule [] first ≡ first
  first-again =
      let each =
      filter-all (passes rule) first (by_members (λ x. passes rule x ≡ true) first
      (λ x m. (Member-from_filter (λ (e : Entry). int_le least e.utility) x all (first-found x m)).1)) in
      ap (λ xs. cut top (ranking entry_cmp xs)) (each ∙ sym (append-nil first)) ∙ kept-made rule [] all

  pub made-between : ((x : Entry) → Member x first → Member x some)
      → ((x : Entry) → passes rule x ≡ true → Member x some → Member x all) → made rule [] some ≡ first
  made-between above below =
      let some-first : made rule [] some ≡ made rule [] (first ++ some) = makes_by_members rule [] some (first ++ some) (λ x. (
        λ c. Contains-from_member x (first ++ some) (Member-append_right x first some (Member-from_contains x some c)),
        λ c. Contains-from_member x some (elim (Member-append_cases x first some (Member-from_contains x (first ++ some) c)) [
          | inl m ↦ above x m
          | inr m ↦ m
        ]),
      )) in
      let all-some : made rule [] (all ++ some) ≡ first = makes_by_passing rule [] (all ++ some) all (λ x passed. (
        λ c. Contains-from_member x all (elim (Member-append_cases x all some (Member-from_contains x (all ++ some) c)) [
          | inl m ↦ m
          | inr m ↦ below x passed m
        ]),
        λ c. Contains-from_member x (all ++ some) (Member-append_left x all some (Member-from_contains x all c)),
      )) in
      some-first ∙ sym (makes_in_turn rule [] first some) ∙ ap (λ content. made rule content some) first-again ∙ makes_in_turn rule [] all some ∙ all-some

-- ---- the answer with a batch

module _ (kept : Keeping) (batch : List (List (ℕ × ℤ))) (either : (kept.top ≡ None) ⊎ NoneBelow batch) where
  abbrev after : List Entry
  after = patterns_of kept.closed (kept.records ++ batch)

  abbrev before' : List Entry
  before' = answer kept.least kept.top (patterns_of kept.closed kept.records)

  abbrev parts : List Entry
  parts = untouched batch before' ++ touched batch after

  in-parts : (x : Entry) → Member x (answer kept.least kept.top after) → Member x parts
  in-parts x m = by (is_touched batch x.key) refl
    where
      by : (b : Bool) → is_touched batch x.key ≡ b → Member x parts
      by true e =
          let pattern = (Member-from_filter (λ (e : Entry). int_le kept.least e.utility) x after (first-found kept.least kept.top after [] x m)).0 in
          Member-append_right x (untouched batch before') (touched batch after) (Member-filter (λ (e : Entry). is_touched batch e.key) x after pattern e)
      by false e =
          let was = stays-outside kept.closed kept.least kept.records batch x e kept.top either m in
          Member-append_left x (untouched batch before') (touched batch after)
          (Member-filter (λ (e : Entry). not (is_touched batch e.key)) x before' was (ap not e))

  not-touched : (b : Bool) → not b ≡ true → b ≡ false
  not-touched true e = cc
  not-touched false e = refl

  in-patterns : (x : Entry) → Member x parts → Member x after
  in-patterns x m = elim (Member-append_cases x (untouched batch before') (touched batch after) m) [
    | inl old ↦
        let both = Member-from_filter (λ (e : Entry). not (is_touched batch e.key)) x before' old in
        let pattern =
        (Member-from_filter (λ (e : Entry). int_le kept.least e.utility) x (patterns_of kept.closed kept.records)
        (first-found kept.least kept.top (patterns_of kept.closed kept.records) [] x both.0)).0 in
        Member-from_pattern kept.closed (kept.records ++ batch) x
        (pattern-after kept.closed kept.records batch x (not-touched (is_touched batch x.key) both.1)
        (IsPattern-from_member kept.closed kept.records x pattern))
    | inr new ↦ (Member-from_filter (λ (e : Entry). is_touched batch e.key) x after new).0
  ]

  pub made-parts : made (rule_of kept.least kept.top) (made (rule_of kept.least kept.top) []
      (untouched batch (answer_of kept))) (touched batch after) ≡ answer_of (with_batch kept batch)
  made-parts =
      let r = rule_of kept.least kept.top in
      ap (λ old. made r (made r [] (untouched batch old)) (touched batch after)) (answer-patterns kept)
      ∙ makes_in_turn r [] (untouched batch before') (touched batch after)
      ∙ made-between kept.least kept.top after parts in-parts (λ x passed m. in-patterns x m)
      ∙ sym (answer-patterns (with_batch kept batch))
