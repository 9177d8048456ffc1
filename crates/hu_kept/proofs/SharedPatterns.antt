-- The patterns that a batch touches are those of what the records share with it.
use Rattle.std.proofs.Common.{◌≡◌, ◌∙◌, ℕ, ◌<◌, ℤ, pos, nat_lt, Bool, true, List, map, sym, ap, arith}
use Rattle.std.proofs.lemmas.Bool.{ltb-true}
use Rattle.hu_kind.specs.declared.entry.Entry.{Entry}
use Rattle.hu_kind.specs.Database.{support}
use Rattle.hu_kind.proofs.lemmas.Members.{Contains-from_member, Member, Member-filter, Member-from_contains, Member-from_filter}
use Rattle.hu_closed.specs.Keys.{key_support}
use Rattle.hu_closed.proofs.lemmas.Closedness.{support-key}
use Rattle.hu_collect.specs.Rule.{Rule, made}
use Rattle.hu_collect.proofs.lemmas.Made.{makes_by_members}
use Rattle.hu_kept.specs.Kept.{patterns_of}
use Rattle.hu_kept.specs.Shared.{shared}
use Rattle.hu_kept.specs.Touched.{is_touched, touched}
use Rattle.hu_kept.proofs.Patterns.{IsPattern, IsPattern-from_member, Member-from_pattern, entry-same}
use Rattle.hu_kept.proofs.SharedLemmas.{Occur-held, closed-shared, closed-unshared, support-shared, utility-shared}

key-touched : (batch : List (List (ℕ × ℤ))) (items : List ℕ) (key : List ℤ) → map pos items ≡ key → is_touched batch key ≡ true → 0 < support batch items
key-touched batch items key is in' =
    let low : key_support batch key ≡ support batch items = ap (key_support batch) (sym is) ∙ support-key batch items in
    let some : nat_lt 0 (support batch items) ≡ true = ap (λ n. nat_lt 0 n) (sym low) ∙ in' in
    ltb-true 0 (support batch items) some

module _ (closed : Bool) (records batch : List (List (ℕ × ℤ))) (within : (r : List (ℕ × ℤ)) → Member r batch → Member r records) (entry : Entry)
    (in' : is_touched batch entry.key ≡ true) where
  pattern-shared : IsPattern closed records entry → IsPattern closed (shared batch records) entry
  pattern-shared p =
      let held = key-touched batch p.items entry.key (ap (λ (x : Entry). x.key) p.is) in' in
      let all = Occur-held batch p.items held in
      let u = utility-shared batch p.items p.occurs.some all records in
      let s = support-shared batch p.items p.occurs.some all records in
      record {
        items = p.items;
        is = entry-same records (shared batch records) p.items (sym u) (sym s) ∙ p.is;
        occurs = record { some = p.occurs.some; ascending = p.occurs.ascending; held = omega (arith, p.occurs.held, s) };
        closes = λ e. closed-shared batch p.items p.occurs.some held records within p.occurs.held (p.closes e);
      }

  pattern-unshared : IsPattern closed (shared batch records) entry → IsPattern closed records entry
  pattern-unshared p =
      let held = key-touched batch p.items entry.key (ap (λ (x : Entry). x.key) p.is) in' in
      let all = Occur-held batch p.items held in
      let u = utility-shared batch p.items p.occurs.some all records in
      let s = support-shared batch p.items p.occurs.some all records in
      let occurs : 0 < support records p.items = omega (arith, p.occurs.held, s) in
      record {
        items = p.items;
        is = entry-same (shared batch records) records p.items u s ∙ p.is;
        occurs = record { some = p.occurs.some; ascending = p.occurs.ascending; held = occurs };
        closes = λ e. closed-unshared batch p.items p.occurs.some held records within occurs (p.closes e);
      }

-- so the touched ones make the same
pub made-shared : (rule : Rule) (content : List Entry) (closed : Bool) (records batch : List (List (ℕ × ℤ)))
    → ((r : List (ℕ × ℤ)) → Member r batch → Member r records)
    → made rule content (touched batch (patterns_of closed (shared batch records)))
    ≡ made rule content (touched batch (patterns_of closed records))
made-shared rule content closed records batch within =
    let few = patterns_of closed (shared batch records) in
    let whole = patterns_of closed records in
    let test = λ (e : Entry). is_touched batch e.key in
    makes_by_members rule content (touched batch few) (touched batch whole) (λ x. (
      λ c.
          let both = Member-from_filter test x few (Member-from_contains x (touched batch few) c) in
          let pattern = pattern-unshared closed records batch within x both.1 (IsPattern-from_member closed (shared batch records) x both.0) in
          Contains-from_member x (touched batch whole) (Member-filter test x whole (Member-from_pattern closed records x pattern) both.1),
      λ c.
          let both = Member-from_filter test x whole (Member-from_contains x (touched batch whole) c) in
          let pattern = pattern-shared closed records batch within x both.1 (IsPattern-from_member closed records x both.0) in
          Contains-from_member x (touched batch few)
          (Member-filter test x few (Member-from_pattern closed (shared batch records) x pattern) both.1),
    ))
