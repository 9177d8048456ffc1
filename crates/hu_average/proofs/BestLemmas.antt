-- What a collector by average makes of entries.
use Rattle.std.proofs.Common.{◌≡◌, ℕ, true, false, cond, ℤ, Option, List, [], ◌∷◌, ◌++◌, Result, Ok, Err, IfOk, refl, sym, ap, ◌∙◌, subst, append_assoc}
use Rattle.std.proofs.Common.{append-nil}
use Rattle.std.specs.List.{AllByRecursion}
use Rattle.std.specs.List.Sorted.{IsStrictlySortedBy}
use Rattle.std.specs.BTreeSet.{insert_key}
use Rattle.std.proofs.lemmas.List.Elements.{filter-append}
use Rattle.hu_kind.specs.declared.entry.Entry.{Entry}
use Rattle.hu_kind.specs.Order.{ranking, cut}
use Rattle.hu_kind.proofs.lemmas.RankingLemmas.{ranking-sorted}
use Rattle.hu_collect.proofs.lemmas.Cutting.{cut-ranking-in_turn, sorted-ranking, sorted-cut}
use Rattle.hu_average.specs.Order.{average_cmp}
use Rattle.hu_average.specs.Answer.{reaches, reaching}
use Rattle.hu_average.specs.Best.{BestOf, HasKey, offered, IsKept}
use Rattle.hu_average.proofs.AverageOrder.{average_order, ranking-push}

-- the ranking by average, cut
abbrev pub firsts : Option ℕ → List Entry → List Entry
firsts top entries = cut top (ranking average_cmp entries)

-- a collector of these fields
abbrev pub best_with : ℤ → Option ℕ → List Entry → BestOf
best_with least top content = record { least = least; top = top; content = content }

pub firsts-in_turn : (top : Option ℕ) (xs ys : List Entry) → firsts top (firsts top xs ++ ys) ≡ firsts top (xs ++ ys)
firsts-in_turn top xs ys = cut-ranking-in_turn average_cmp (record { total = average_order.total; exact = average_order.exact }) top xs ys

pub firsts-twice : (top : Option ℕ) (xs : List Entry) → firsts top (firsts top xs ++ []) ≡ firsts top xs
firsts-twice top xs = firsts-in_turn top xs [] ∙ ap (firsts top) (append-nil xs)

-- what is held is the ranking of itself, cut
pub kept-content : (b : BestOf) → IsKept b → firsts b.top b.content ≡ b.content
kept-content b kept = ap (firsts b.top) (sym (append-nil b.content)) ∙ ap (λ (s : BestOf). s.content) kept

pub kept-sorted : (b : BestOf) → IsKept b → IsStrictlySortedBy average_cmp b.content
kept-sorted b kept = subst (IsStrictlySortedBy average_cmp) (kept-content b kept)
    (sorted-cut average_cmp b.top (ranking average_cmp b.content)
    (sorted-ranking average_cmp (record { total = average_order.total; exact = average_order.exact }) b.content))

-- what was offered is kept
pub offered-kept : (b : BestOf) (entries : List Entry) → IsKept (offered b entries)
offered-kept b entries = ap (best_with b.least b.top) (firsts-twice b.top (b.content ++ reaching b.least entries))

-- offers of one list and then of another are offers of both
pub offered-then : (b : BestOf) (xs ys : List Entry) → offered (offered b xs) ys ≡ offered b (xs ++ ys)
offered-then b xs ys = ap (best_with b.least b.top)
    (firsts-in_turn b.top (b.content ++ reaching b.least xs) (reaching b.least ys)
    ∙ ap (firsts b.top) (append_assoc b.content (reaching b.least xs) (reaching b.least ys)
    ∙ ap (λ t. b.content ++ t) (sym (filter-append (reaches b.least) xs ys))))

-- an entry that doesn't reach the least average leaves all as it is
pub offered-low : (b : BestOf) (e : Entry) → IsKept b → reaches b.least e ≡ false → offered b (e ∷ []) ≡ b
offered-low b e kept low = ap (λ t. best_with b.least b.top (firsts b.top (b.content ++ cond t (e ∷ []) []))) low ∙ kept

-- one that reaches it is put in
pub offered-one : (b : BestOf) (e : Entry) → IsKept b → reaches b.least e ≡ true
    → offered b (e ∷ []) ≡ best_with b.least b.top (cut b.top (insert_key average_cmp b.content e))
offered-one b e kept high =
    ap (λ t. best_with b.least b.top (firsts b.top (b.content ++ cond t (e ∷ []) []))) high
    ∙ ap (λ t. best_with b.least b.top (cut b.top t))
    (ranking-push average_cmp average_order b.content e
    ∙ ap (λ t. insert_key average_cmp t e) (ranking-sorted average_cmp b.content (kept-sorted b kept)))

-- of a list the entries before a rest were offered
pub record IsPart (old new : BestOf) (whole rest : List Entry) : Type 0 where
  pub part : List Entry
  pub splits : whole ≡ part ++ rest
  pub is : new ≡ offered old part
  pub keys : AllByRecursion HasKey rest

pub part-next : {old mid new : BestOf} {whole rest : List Entry} (e : Entry) → IsPart old mid whole (e ∷ rest) → new ≡ offered mid (e ∷ [])
    → IsPart old new whole rest
part-next {old} {rest = rest} e h is = record {
  part = h.part ++ e ∷ [];
  splits = h.splits ∙ sym (append_assoc h.part (e ∷ []) rest);
  is = is ∙ ap (λ b. offered b (e ∷ [])) h.is ∙ offered-then old h.part (e ∷ []);
  keys = h.keys.1;
}

pub part-none : {b : BestOf} {whole : List Entry} → IsKept b → AllByRecursion HasKey whole → IsPart b b whole whole
part-none kept keys = record { part = []; splits = refl; is = sym kept; keys = keys }

pub part-all : {old new : BestOf} {whole : List Entry} → IsPart old new whole [] → new ≡ offered old whole
part-all {old} h = h.is ∙ ap (offered old) (sym (h.splits ∙ append-nil h.part))

-- what holds of a result that is there
pub if_ok-as : {T E : Type 0} (result : Result T E) (P Q : T → Type 0) → ((x : T) → P x → Q x) → IfOk result P → IfOk result Q
if_ok-as (Ok x) P Q f h = f x h
if_ok-as (Err e) P Q f h = h
