-- The answer of all records by a search of them all, and by one of what a batch touches.
use Rattle.std.proofs.Common.{◌≡◌, ◌∙◌, ℕ, ℤ, Bool, true, false, not, cond, Option, None, Some, List, [], ◌∷◌, ◌++◌, refl, sym, ap, subst, zero, suc}
use Rattle.hu_kind.specs.declared.entry.Entry.{Entry}
use Rattle.hu_kind.specs.Answer.{answer}
use Rattle.hu_kind.specs.Order.{cut}
use Rattle.hu_base.specs.Base.{records_of}
use Rattle.hu_kind.proofs.lemmas.Members.{Member-append_right}
use Rattle.hu_collect.specs.Rule.{IsKept, Rule, made, rule_of}
use Rattle.hu_collect.proofs.lemmas.Made.{kept-made, makes_in_turn}
use Rattle.hu_kept.specs.Kept.{answer_of, patterns_of}
use Rattle.hu_kept.specs.Touched.{is_touched, touched, touched_rule, untouched}
use Rattle.hu_kept.specs.Entries.{Continues, entries_from, keeping}
use Rattle.hu_kept.specs.Shared.{shared}
use Rattle.hu_kept.specs.Start.{keeping_from}
use Rattle.hu_kept.specs.declared.aim.Aim.{Aim}
use Rattle.hu_kept.specs.declared.held.Held.{Held}
use Rattle.hu_kept.proofs.Parts.{made-parts}
use Rattle.hu_kept.proofs.Patterns.{answer-patterns}
use Rattle.hu_kept.proofs.SharedPatterns.{made-shared}
use Rattle.hu_kept.proofs.TouchedLemmas.{made-touched}

cut-nil : (limit : Option ℕ) → cut {A = Entry} limit [] ≡ []
cut-nil None = refl
cut-nil (Some zero) = refl
cut-nil (Some (suc k)) = refl

no-patterns : (closed : Bool) → patterns_of closed [] ≡ []
no-patterns true = refl
no-patterns false = refl

-- without records there are no entries
pub fresh-entries : (aim : Aim) (held : List (List ℤ × Held)) (base : ℕ × List (List (ℕ × ℤ))) → held ≡ [] → base ≡ (0, [])
    → entries_from held ≡ answer_of (keeping aim (records_of base))
fresh-entries aim held base none empty =
    ap entries_from none
    ∙ sym (ap (λ b. answer_of (keeping aim (records_of b))) empty
    ∙ answer-patterns (keeping aim [])
    ∙ ap (answer aim.least aim.top) (no-patterns aim.closed)
    ∙ cut-nil aim.top)

pub anew-answer : (aim : Aim) (records : List (List (ℕ × ℤ))) (start : ℤ) (rule : Rule) (content : List Entry)
    → answer_of (keeping_from start aim records) ≡ answer_of (keeping_from aim.least aim records)
    → rule ≡ rule_of start aim.top → content ≡ [] → made rule content (patterns_of aim.closed records) ≡ answer_of (keeping aim records)
anew-answer aim records start rule content alike by empty =
    (λ j. made (by j) (empty j) (patterns_of aim.closed records)) ∙ sym (answer-patterns (keeping_from start aim records)) ∙ alike

pub continued-answer : (aim : Aim) (records batch : List (List (ℕ × ℤ))) (old : List Entry) (rule : Rule)
    (content : List Entry) → Continues aim records old batch
    → rule ≡ rule_of aim.least aim.top → content ≡ made (rule_of aim.least aim.top) [] (untouched batch old)
    → made (touched_rule rule batch) content (patterns_of aim.closed (shared batch records)) ≡ answer_of (keeping aim records)
continued-answer aim records batch old rule content c by is =
    let r = rule_of aim.least aim.top in
    let first = made r [] (untouched batch old) in
    let after = patterns_of aim.closed (c.before ++ batch) in
    (λ j. made (touched_rule (by j) batch) (is j) (patterns_of aim.closed (shared batch (sym c.joined j))))
    ∙ made-touched r batch first (patterns_of aim.closed (shared batch (c.before ++ batch)))
    ∙ made-shared r first aim.closed (c.before ++ batch) batch (λ x m. Member-append_right x c.before batch m)
    ∙ ap (λ o. made r (made r [] (untouched batch o)) (touched batch after)) c.answer
    ∙ made-parts (keeping aim c.before) batch c.either
    ∙ ap (λ rs. answer_of (keeping aim rs)) c.joined

-- ---- old entries one after another

-- a collector by a rule holds what it makes of the first old entries that a batch doesn't touch, and the others are left
pub record Offers (r : Rule) (batch : List (List (ℕ × ℤ))) (old : List Entry) (rule : Rule) (content rest : List Entry) : Type 0 where
  pub by : rule ≡ r
  pub kept : IsKept r content
  pub whole : made r content (untouched batch rest) ≡ made r [] (untouched batch old)

pub Offers-next : (r : Rule) (batch : List (List (ℕ × ℤ))) (old : List Entry) (rule next : Rule)
    (content after : List Entry) (entry : Entry) (rest : List Entry) → Offers r batch old rule content (entry ∷ rest)
    → next ≡ rule → after ≡ cond (is_touched batch entry.key) content (made rule content (entry ∷ [])) → Offers r batch old next after rest
Offers-next r batch old rule next content after entry rest o same is = go (is_touched batch entry.key) refl is
  where
    go : (b : Bool) → is_touched batch entry.key ≡ b → after ≡ cond b content (made rule content (entry ∷ [])) → Offers r batch old next after rest
    go true e h = record {
      by = same ∙ o.by;
      kept = subst (IsKept r) (sym h) o.kept;
      whole = ap (λ c. made r c (untouched batch rest)) h ∙ ap
          (λ b. made r content (cond (not b) (entry ∷ untouched batch rest) (untouched batch rest))) (sym e) ∙ o.whole;
    }
    go false e h =
        let here : after ≡ made r content (entry ∷ []) = h ∙ ap (λ x. made x content (entry ∷ [])) o.by in
        record {
          by = same ∙ o.by;
          kept = subst (IsKept r) (sym here) (kept-made r content (entry ∷ []));
          whole = ap (λ c. made r c (untouched batch rest)) here
              ∙ makes_in_turn r content (entry ∷ []) (untouched batch rest)
              ∙ ap (λ b. made r content (cond (not b) (entry ∷ untouched batch rest) (untouched batch rest))) (sym e)
              ∙ o.whole;
        }
