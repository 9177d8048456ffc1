-- What is known of a branch that is entered.
use Rattle.std.proofs.Common.{◌≡◌, ℕ, ◌+◌, ◌-◌, ◌*◌, ◌<◌, Bool, true, List, [], ◌∷◌, ◌++◌, length, length-append, sym, ap, ◌∙◌, subst, inr, arith, Option, Some}
use Rattle.hu_kind.specs.Sequence.{sequence_support}
use Rattle.hu_chain.specs.Pattern.{last_item}
use Rattle.hu_chain.proofs.lemmas.Patterns.{last_item-grown}
use Rattle.hu_span.specs.declared.child.Branch.{Branch}
use Rattle.hu_span.specs.declared.step.Step.{Step}
use Rattle.hu_span.specs.Branch.{IsBranch}
use Rattle.hu_kind.specs.declared.item.Item.{Item}
use Rattle.hu_chain.specs.declared.chain.Growth.TheVariants.{IntoLast, AfterLast}
use Rattle.hu_span.specs.declared.gather.Grown.{Grown}
use Rattle.hu_span.specs.declared.trail.Held.{Held}
use Rattle.hu_span.specs.declared.trail.TrailCell.{TrailCell}
use Rattle.hu_span.specs.Trail.{AreHeld, AreSpans}
use Rattle.hu_span.specs.Child.{stepped, AreGathered, ArePlaces}
use Rattle.hu_span.specs.Gather.{AreGrown}
use Rattle.hu_collect.specs.State.{State, IsInOrder, Reached, ReachedSome}
use Rattle.hu_collect.proofs.lemmas.Searching.{reached-in_order, some-none}
use Rattle.hu_span.specs.Search.{counting, CanGather, GoesOn, IsNarrowed}
use Rattle.hu_span.specs.declared.search.Below.{Below}
use Rattle.hu_span.specs.declared.search.Below.TheVariants.{Items}
use Rattle.hu_span.proofs.SearchLemmas.{opened-all, opened-some, wider-all, wider-some}
use Rattle.hu_span.specs.Growing.{AreRecords, GrowsOn, GrowsOver, IsBegun, IsReached, Records}
use Rattle.hu_span.specs.Kept.{keeps, weighed_of, AreKept}
use Rattle.hu_span.specs.Step.{pattern_of}
use Rattle.hu_span.proofs.CutLemmas.{grown-kept}
use Rattle.hu_span.proofs.ReachLemmas.{grown-reached, steps-few}
use Rattle.hu_span.proofs.StepLemmas.{pattern_of-push}
use Rattle.hu_span.proofs.WeighedLemmas.{weighed-records}

-- the steps to a branch make a pattern that is reached, of kept items, with the branch's places, and further ones are fewer
pub record IsNode (records : Records) (keep : ℕ → Bool) (steps pushed : List Step) (branch : Branch) : Type 0 where
  pub same : pattern_of pushed ≡ stepped (pattern_of steps) branch.step
  pub are : AreRecords records
  pub reached : IsReached (pattern_of pushed)
  pub own : AreKept keep (pattern_of pushed)
  pub places : ArePlaces records (pattern_of pushed) (last_item (pattern_of pushed)) branch.held.marks.items
  pub nearer : 2 * (4097 - length pushed) + 1 < 2 * (4097 - length steps)

pub node : {keep : ℕ → Bool} {records : Records} {steps pushed : List Step} {branch : Branch} → AreRecords records → IsBegun (pattern_of steps)
    → AreKept keep (pattern_of steps) → IsBranch (weighed_of keep records) keep (pattern_of steps) branch → pushed ≡ steps ++ branch.step ∷ []
    → IsNode (weighed_of keep records) keep steps pushed branch
node {keep} {records} {steps} {pushed} {branch} rules begun own is to =
    let rs = weighed_of keep records in
    let p = pattern_of steps in
    let step = branch.step in
    let q = stepped p step in
    let are = weighed-records keep records rules in
    let same : pattern_of pushed ≡ q = ap pattern_of to ∙ pattern_of-push steps step in
    let reached : IsReached (pattern_of pushed) = subst IsReached (sym same) (grown-reached step.growth p step.item.0 begun is.may) in
    let long = ap length to ∙ length-append steps (step ∷ []) in
    let few = steps-few rs are pushed reached (subst (λ r. 0 < sequence_support rs r) (sym same) is.occurs) in
    record {
      same = same;
      are = are;
      reached = reached;
      own = subst (AreKept keep) (sym same) (grown-kept keep step.growth p step.item.0 own is.kept);
      places = subst (λ r. ArePlaces rs r (last_item r) branch.held.marks.items) (sym same)
          (subst (λ i. ArePlaces rs q i branch.held.marks.items) (sym (last_item-grown step.growth p step.item.0)) is.places);
      nearer = omega (arith, long, few);
    }

-- its places, with the cells behind each
pub node-held : (records : Records) (kept : Bool × List Item) (steps pushed : List Step) (branch : Branch) (trail : List TrailCell) → AreRecords records
    → IsNode (weighed_of (keeps kept) records) (keeps kept) steps pushed branch
    → AreSpans (keeps kept) records trail branch.held.marks.items branch.held.spans.items
    → AreHeld (keeps kept) records trail (pattern_of pushed) branch.held
node-held records kept steps pushed branch trail are n spans = record { are = are; reached = n.reached; places = n.places; spans = spans }

pub gathered-of : {records : Records} {keep : ℕ → Bool} {pattern : List (List ℕ)} {grown : Grown} → AreRecords records → IsReached pattern
    → AreGrown records keep pattern IntoLast grown.into.marks.items → AreGrown records keep pattern AfterLast grown.after.marks.items
    → AreGathered records keep pattern grown
gathered-of are reached into after = record {
  into = record { are = are; begun = inr reached; grown = into };
  after = record { are = are; begun = inr reached; grown = after };
}

-- where fewer items count
module _ (records : Records) (kept fewer : Bool × List Item) (found : Option (Bool × List Item)) (trail : List TrailCell) (held : Held)
    (pattern : List (List ℕ)) (is : CanGather records kept found trail held pattern) (some : found ≡ Some fewer) where
  pub fewer-still : AreKept (keeps fewer) pattern
  fewer-still = subst (λ f. AreKept (keeps (counting f kept)) pattern) some is.still

  pub fewer-less : (item : ℕ) → keeps fewer item ≡ true → keeps kept item ≡ true
  fewer-less = subst (λ f. (item : ℕ) → keeps (counting f kept) item ≡ true → keeps kept item ≡ true) some is.less

-- ---- a branch that is opened

-- its children were offered, and items are kept
pub record IsOpened (old mid : State) (records : Records) (kept : Bool × List Item) (first : Option (Bool × List Item)) (steps pushed : List Step)
    (branch : Branch) : Type 0 where
  pub n : IsNode (weighed_of (keeps kept) records) (keeps kept) steps pushed branch
  pub is : IsNarrowed old mid (weighed_of (keeps kept) records) (keeps kept) (pattern_of pushed) (counting first kept)

pub opened : {old mid : State} {records : Records} {kept : Bool × List Item} {first : Option (Bool × List Item)} {steps pushed : List Step}
    {branch : Branch} {below : Below} → AreRecords records → IsBegun (pattern_of steps) → AreKept (keeps kept) (pattern_of steps)
    → IsBranch (weighed_of (keeps kept) records) (keeps kept) (pattern_of steps) branch → pushed ≡ steps ++ branch.step ∷ []
    → GoesOn old mid (weighed_of (keeps kept) records) kept (pattern_of pushed) below → below ≡ Items first
    → IsOpened old mid records kept first steps pushed branch
opened {old} {mid} {records} {kept} {first} {steps} {pushed} are begun own is to goes items = record {
  n = node are begun own is to;
  is = subst (GoesOn old mid (weighed_of (keeps kept) records) kept (pattern_of pushed)) items goes;
}

module _ {old mid : State} {records : Records} {kept : Bool × List Item} {first : Option (Bool × List Item)} {steps pushed : List Step}
    {branch : Branch} (o : IsOpened old mid records kept first steps pushed branch) where
  abbrev fewer : Bool × List Item
  fewer = counting first kept

  abbrev n : IsNode (weighed_of (keeps kept) records) (keeps kept) steps pushed branch
  n = o.n

  abbrev narrowed : IsNarrowed old mid (weighed_of (keeps kept) records) (keeps kept) (pattern_of pushed) fewer
  narrowed = o.is

  abbrev whole : Records
  whole = weighed_of (keeps kept) records

  abbrev below : Records
  below = weighed_of (keeps fewer) records

  -- want of memory
  pub node-stopped : ReachedSome old (GrowsOn whole (keeps kept) (stepped (pattern_of steps) branch.step)) mid
  node-stopped =
      let none = some-none {P = GrowsOver whole (keeps kept) (pattern_of pushed)} mid (reached-in_order narrowed.offers) in
      subst (λ q. ReachedSome old (GrowsOn whole (keeps kept) q) mid) n.same
      (opened-some whole (keeps kept) (pattern_of pushed) n.are (inr n.reached) narrowed.all n.own narrowed.are narrowed.offers none)

  -- want of memory below it
  pub node-some : {new : State} → ReachedSome mid (GrowsOver below (keeps fewer) (pattern_of pushed)) new
      → ReachedSome old (GrowsOn whole (keeps kept) (stepped (pattern_of steps) branch.step)) new
  node-some {new} some =
      subst (λ q. ReachedSome old (GrowsOn whole (keeps kept) q) new) n.same
      (opened-some whole (keeps kept) (pattern_of pushed) n.are (inr n.reached) narrowed.all n.own narrowed.are narrowed.offers
      (wider-some records (keeps kept) (keeps fewer) (pattern_of pushed) (inr n.reached) narrowed.fewer some))

  -- all that grows from it
  pub node-all : {new : State} → IsInOrder old → Reached mid (GrowsOver below (keeps fewer) (pattern_of pushed)) new
      → Reached old (GrowsOn whole (keeps kept) (stepped (pattern_of steps) branch.step)) new
  node-all {new} ordered made =
      subst (λ q. Reached old (GrowsOn whole (keeps kept) q) new) n.same
      (opened-all whole (keeps kept) (pattern_of pushed) n.are (inr n.reached) narrowed.all n.own ordered narrowed.are narrowed.offers
      (wider-all records (keeps kept) (keeps fewer) (pattern_of pushed) (inr n.reached) narrowed.fewer (reached-in_order narrowed.offers)
      narrowed.enough n.reached made))

pub can-gather : {old mid : State} {records : Records} {kept : Bool × List Item} {first : Option (Bool × List Item)} {steps pushed : List Step}
    {branch : Branch} (trail : List TrailCell) → AreRecords records → IsOpened old mid records kept first steps pushed branch
    → AreSpans (keeps kept) records trail branch.held.marks.items branch.held.spans.items
    → CanGather records kept first trail branch.held (pattern_of pushed)
can-gather {records = records} {kept = kept} {steps = steps} {pushed = pushed} {branch = branch} trail are o spans =
    let n = o.n in
    let is = o.is in
    record { are = node-held records kept steps pushed branch trail are n spans; own = n.own; still = is.own; less = is.fewer }
