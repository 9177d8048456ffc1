-- What a search makes that offers all children of a pattern and then enters them best bound first.
use Rattle.std.proofs.Common.{◌≡◌, Bool, true, ℕ, ◌<◌, ◌≤◌, ◌+◌, ℤ, ◌<ℤ◌, ◌≤ℤ◌, List, [], ◌∷◌, length, get_or, take, refl, sym, ap, ◌∙◌, subst, inl, inr, ◌⊎◌}
use Rattle.std.proofs.Common.{arith, Contains, Result, Ok, Err, IsErr, Option, None, Some, IfSome}
use Rattle.std.specs.List.{AllByRecursion}
use Rattle.std.proofs.lemmas.Bool.{false≢true}
use Rattle.std.proofs.lemmas.Int.{ints}
use Rattle.std.proofs.lemmas.List.{length-map}
use Rattle.hu_kind.specs.declared.entry.Entry.{Entry}
use Rattle.hu_kind.specs.Sequence.{sequence_entry, sequence_key, sequence_support, sequence_utility}
use Rattle.hu_kind.proofs.lemmas.Falling.{fall-later}
use Rattle.hu_kind.proofs.lemmas.Members.{Member-from_contains, Contains-from_member, Member-past}
use Rattle.hu_kind.proofs.lemmas.Occurring.{at_member}
use Rattle.hu_kind.specs.declared.item.Item.{Item}
use Rattle.hu_collect.specs.State.{State, offered, floor_in, IsInOrder, Reached, ReachedSome, Searches}
use Rattle.hu_collect.proofs.lemmas.Searching.{empty-contains, reached-in_order, reached-floor, reached-none, reached-one, reached-then, reached-as}
use Rattle.hu_collect.proofs.lemmas.Searching.{some-reached, some-as, some-then}
use Rattle.hu_chain.specs.declared.chain.Growth.{Growth}
use Rattle.hu_chain.specs.Grown.{grown, IsGrownFrom, Leads}
use Rattle.hu_chain.proofs.lemmas.Bounds.{grown-first}
use Rattle.hu_chain.proofs.lemmas.Patterns.{Ends-grown}
use Rattle.hu_chain.proofs.lemmas.Reached.{grown_from-itself}
use Rattle.hu_chain.specs.declared.chain.Growth.TheVariants.{IntoLast, AfterLast}
use Rattle.hu_chain.specs.Pattern.{last_item}
use Rattle.hu_span.specs.declared.child.Child.{Child}
use Rattle.hu_span.specs.declared.gather.Grown.{Grown}
use Rattle.hu_span.specs.declared.search.Below.{Below}
use Rattle.hu_span.specs.declared.child.Branch.{Branch}
use Rattle.hu_span.specs.Branch.{IsBranch}
use Rattle.hu_span.specs.Child.{child_entry, stepped, AreChildren, AreGathered, ArePlaces, IsChild, IsSpread}
use Rattle.hu_span.proofs.BranchLemmas.{branch-of}
use Rattle.hu_span.proofs.Fronts.{contains-before, contains-cases, contains-front, contains-here, Member-parts}
use Rattle.hu_span.specs.Gather.{AreGrown}
use Rattle.hu_span.specs.Growing.{AreRecords, GrowsOn, GrowsOver, IsBegun, IsReached, Records}
use Rattle.hu_span.specs.Kept.{keeps, weighed_in, weighed_of, AreKept}
use Rattle.hu_span.specs.Search.{counting, AreKeptBest, IsBelow, IsNarrowed, IsOneOf, IsSoFar, Narrows, OffersAll}
use Rattle.hu_span.specs.Cut.{AreBelow, AreOpen}
use Rattle.hu_span.specs.Mark.{IsMark}
use Rattle.hu_span.specs.declared.mark.Mark.{Mark}
use Rattle.hu_span.specs.declared.step.Step.{Step}
use Rattle.hu_span.specs.Step.{pattern_of}
use Rattle.hu_span.proofs.CutLemmas.{grown-back, grown-kept, leads-back, narrow-enough, narrow-fewer, narrow-own}
use Rattle.hu_span.proofs.WeighedLemmas.{weighed-support, weighed-utility}
use Rattle.hu_span.proofs.ReachLemmas.{can-reached, grown-reached, may-reached, support-before}

module _ (records : Records) (pattern : List (List ℕ)) where
  -- ---- offers of children

  pub offered-none : (s : State) → IsInOrder s → Reached s (IsOneOf records pattern []) s
  offered-none s ordered = reached-none {P = IsOneOf records pattern []} s ordered (λ e one pass high. empty-contains one.child one.among)

  one-as : {cs ds : List Child} {e : Entry} (one : IsOneOf records pattern cs e) → Contains ds one.child → IsOneOf records pattern ds e
  one-as one among = record { child = one.child; among = among; is = one.is }

  pub offered-next : {old s t : State} (children : List Child) (i : ℕ) (d : Child) → i < length children → IsInOrder old
      → Reached old (IsOneOf records pattern (take i children)) s → t ≡ offered s (child_entry records pattern (get_or children i d) ∷ [])
      → Reached old (IsOneOf records pattern (take (i + 1) children)) t
  offered-next {old} {s} {t} children i d within ordered first is =
      let entry = child_entry records pattern (get_or children i d) in
      reached-then {P = IsOneOf records pattern (take i children)} {Q = λ e. entry ≡ e} {R = IsOneOf records pattern (take (i + 1) children)} ordered
      (λ e one. one-as one (contains-before children i d within one.child one.among))
      (λ e same. record { child = get_or children i d; among = contains-here children i d within; is = sym same })
      (λ e one pass high. elim (contains-cases children i d within one.child one.among) [
        | inl before ↦ inl (one-as one before)
        | inr same ↦ inr (ap (child_entry records pattern) same ∙ sym one.is)
      ])
      first (reached-one s entry t is)

  -- want of memory after some were offered
  pub some-offered : {old s t : State} (children : List Child) (i : ℕ) → Reached old (IsOneOf records pattern (take i children)) s → t ≡ s
      → ReachedSome old (IsOneOf records pattern children) t
  some-offered {old} children i first same =
      subst (ReachedSome old (IsOneOf records pattern children)) (sym same)
      (some-reached {P = IsOneOf records pattern (take i children)} {R = IsOneOf records pattern children}
      (λ e one. one-as one (contains-front children i one.child one.among)) first)

module _ (records : Records) (keep : ℕ → Bool) (pattern : List (List ℕ)) where
  -- ---- what grows from a pattern

  below-as : {cs ds : List Branch} {e : Entry} (below : IsBelow records keep pattern cs e) → Contains ds below.branch → IsBelow records keep pattern ds e
  below-as below among = record { branch = below.branch; among = among; grows = below.grows }

  -- the entry is that of a pattern that grows from a child
  record IsUnder (children : List Child) (entry : Entry) : Type 0 where
    pub child : Child
    pub among : Contains children child
    pub grows : GrowsOn records keep (stepped pattern child.step) entry

  one-grows : AreKept keep pattern → (children : List Child) (e : Entry) → AllByRecursion (IsChild records keep pattern) children
      → IsOneOf records pattern children e → GrowsOn records keep pattern e
  one-grows own children e each one =
      let child = one.child in
      let is = at_member (IsChild records keep pattern) child children each (Member-from_contains child children one.among) in
      record {
        growth = child.step.growth;
        item = child.step.item.0;
        may = is.may;
        grows = record {
          other = stepped pattern child.step;
          from = grown_from-itself (stepped pattern child.step);
          kept = grown-kept keep child.step.growth pattern child.step.item.0 own is.kept;
          occurs = is.occurs;
          is = one.is;
        };
      }

  pub offered-some : AreKept keep pattern → {old new : State} (children : List Child) → AllByRecursion (IsChild records keep pattern) children
      → ReachedSome old (IsOneOf records pattern children) new → ReachedSome old (GrowsOn records keep pattern) new
  offered-some own children each some =
      some-as {P = IsOneOf records pattern children} {R = GrowsOn records keep pattern} (λ e. one-grows own children e each) some

  module _ (rules : AreRecords records) (begun : IsBegun pattern) where
    over-grows : (e : Entry) → GrowsOver records keep pattern e → GrowsOn records keep pattern e
    over-grows e over =
        let on = over.on in
        let g = on.grows in
        let reached = grown-reached over.growth pattern over.item begun over.may in
        let can = can-reached on.growth (grown over.growth pattern over.item) on.item reached on.may in
        record {
          growth = over.growth;
          item = over.item;
          may = over.may;
          grows = record {
            other = g.other;
            from = grown-first on.growth (grown over.growth pattern over.item) g.other on.item can g.from;
            kept = g.kept;
            occurs = g.occurs;
            is = g.is;
          };
        }

    below-over : (branch : Branch) (e : Entry) → IsBranch records keep pattern branch → GrowsOn records keep (stepped pattern branch.step) e
        → GrowsOver records keep pattern e
    below-over branch e is on = record { growth = branch.step.growth; item = branch.step.item.0; may = is.may; on = on }

    -- a pattern that grows from one in at least two steps grows from a child
    over-below : (children : List Child) (e : Entry) → AreChildren records keep pattern children → GrowsOver records keep pattern e
        → IsUnder children e
    over-below children e are over =
        let on = over.on in
        let g = on.grows in
        let first = grown over.growth pattern over.item in
        let reached = grown-reached over.growth pattern over.item begun over.may in
        let can = can-reached on.growth first on.item reached on.may in
        let from = grown-first on.growth first g.other on.item can g.from in
        let back = leads-back keep from.steps first g.other from.leads g.kept in
        let kept = grown-back keep over.growth pattern over.item back.0 in
        let held = support-before records rules first g.other (Ends-grown over.growth pattern over.item) from g.occurs in
        let has = are.all over.growth over.item kept.1 over.may held in
        record {
          child = has.0;
          among = has.1;
          grows = subst (λ q. GrowsOn records keep q e) (sym (λ j. grown (has.2 j) pattern (has.3 j))) on;
        }

    -- and one that grows in at least one step is a child or grows in two
    on-cases : (children : List Child) (e : Entry) → AreChildren records keep pattern children → GrowsOn records keep pattern e
        → IsOneOf records pattern children e ⊎ GrowsOver records keep pattern e
    on-cases children e are on =
        let g = on.grows in
        by g.other g.from.steps g.from.leads g.kept g.occurs g.is
      where
        by : (other : List (List ℕ)) (steps : List (Growth × ℕ)) → Leads steps (grown on.growth pattern on.item) other → AreKept keep other
            → 0 < sequence_support records other → e ≡ sequence_entry records other → IsOneOf records pattern children e ⊎ GrowsOver records keep pattern e
        by other [] leads kept occurs is =
            let back = grown-back keep on.growth pattern on.item (subst (AreKept keep) (sym leads) kept) in
            let has = are.all on.growth on.item back.1 on.may (subst (λ q. 0 < sequence_support records q) (sym leads) occurs) in
            inl (record {
              child = has.0;
              among = has.1;
              is = is ∙ ap (sequence_entry records) (sym leads) ∙ sym (λ j. sequence_entry records (grown (has.2 j) pattern (has.3 j)));
            })
        by other (step ∷ steps) leads kept occurs is =
            let reached = grown-reached on.growth pattern on.item begun on.may in
            inr (record {
              growth = on.growth;
              item = on.item;
              may = on.may;
              on = record {
                growth = step.0;
                item = step.1;
                may = may-reached step.0 (grown on.growth pattern on.item) step.1 reached leads.0;
                grows = record { other = other; from = record { steps = steps; leads = leads.1 }; kept = kept; occurs = occurs; is = is };
              };
            })

    -- all children are offered, and then what grows from them
    pub opened-all : {old mid new : State} (all : List Child) → AreKept keep pattern → IsInOrder old → AreChildren records keep pattern all
        → Reached old (IsOneOf records pattern all) mid → Reached mid (GrowsOver records keep pattern) new → Reached old (GrowsOn records keep pattern) new
    opened-all all own ordered are first second =
        reached-then {P = IsOneOf records pattern all} {Q = GrowsOver records keep pattern} {R = GrowsOn records keep pattern} ordered
        (λ e one. one-grows own all e are.each one) over-grows (λ e on pass high. on-cases all e are on) first second

    pub opened-some : {old mid new : State} (all : List Child) → AreKept keep pattern → AreChildren records keep pattern all
        → Reached old (IsOneOf records pattern all) mid → ReachedSome mid (GrowsOver records keep pattern) new → ReachedSome old
        (GrowsOn records keep pattern) new
    opened-some all own are first second =
        some-then {P = IsOneOf records pattern all} {Q = GrowsOver records keep pattern} {R = GrowsOn records keep pattern}
        (λ e one. one-grows own all e are.each one) over-grows first second

    pub opened-searches : {T E : Type 0} (old mid new : State) (all : List Child) → AreKept keep pattern → IsInOrder old → AreChildren records keep pattern all
        → Reached old (IsOneOf records pattern all) mid → (result : Result T E) → Searches mid (GrowsOver records keep pattern) new result
        → Searches old (GrowsOn records keep pattern) new result
    opened-searches old mid new all own ordered are first (Ok x) second = opened-all all own ordered are first second
    opened-searches old mid new all own ordered are first (Err e) second = opened-some all own are first second

    -- ---- children that are entered

    pub so_far-none : {old : State} {kept : List Branch} → IsInOrder old → AreKeptBest records keep pattern (floor_in old) kept
        → IsSoFar old old records keep pattern kept 0
    so_far-none {old} {kept} ordered best = record {
      best = best;
      made = reached-none {P = IsBelow records keep pattern (take 0 kept)} old ordered (λ e below pass high. empty-contains below.branch below.among);
    }

    module _ {old now : State} {kept : List Branch} (ordered : IsInOrder old) where
      module _ {at : ℕ} (so_far : IsSoFar old now records keep pattern kept at) where
        pub so_far-ordered : IsInOrder now
        so_far-ordered = reached-in_order so_far.made

        branch-kept : (i : ℕ) (branch : Branch) → Contains (take i kept) branch → IsBranch records keep pattern branch
        branch-kept i branch c =
            let best = so_far.best in
            let are = best.are in
            let copies = best.copies in
            let from = copies.each branch (contains-front kept i branch c) in
            branch-of records keep pattern from.0 branch
            (at_member (IsChild records keep pattern) from.0 best.all are.each (Member-from_contains from.0 best.all from.1)) from.2

        upto-grows : (i : ℕ) (e : Entry) → IsBelow records keep pattern (take i kept) e → GrowsOver records keep pattern e
        upto-grows i e below = below-over below.branch e (branch-kept i below.branch below.among) below.grows

        -- want of memory
        pub so_far-stopped : ReachedSome old (GrowsOver records keep pattern) now
        so_far-stopped = some-reached {P = IsBelow records keep pattern (take at kept)} {R = GrowsOver records keep pattern} (upto-grows at) so_far.made

        module _ (d : Branch) (within : at < length kept) (is : d ≡ get_or kept at d) where
          turn-here : Contains (take (at + 1) kept) d
          turn-here = subst (Contains (take (at + 1) kept)) (sym is) (contains-here kept at d within)

          pub turn-branch : IsBranch records keep pattern d
          turn-branch = branch-kept (at + 1) d turn-here

          -- one more was entered
          pub so_far-next : {next : State} → Reached now (GrowsOn records keep (stepped pattern d.step)) next
              → IsSoFar old next records keep pattern kept (at + 1)
          so_far-next made = record {
            best = so_far.best;
            made = reached-then {P = IsBelow records keep pattern (take at kept)} {Q = GrowsOn records keep (stepped pattern d.step)}
                {R = IsBelow records keep pattern (take (at + 1) kept)} ordered
                (λ e below. below-as below (contains-before kept at d within below.branch below.among))
                (λ e grows. record { branch = d; among = turn-here; grows = grows })
                (λ e below pass high. elim (contains-cases kept at d within below.branch below.among) [
                  | inl before ↦ inl (below-as below before)
                  | inr same ↦ inr (subst (λ (b : Branch). GrowsOn records keep (stepped pattern b.step) e) (sym (is ∙ same)) below.grows)
                ])
                so_far.made made;
          }

          -- want of memory below one
          pub so_far-some : {next : State} → ReachedSome now (GrowsOn records keep (stepped pattern d.step)) next
              → ReachedSome old (GrowsOver records keep pattern) next
          so_far-some some =
              some-then {P = IsBelow records keep pattern (take at kept)} {Q = GrowsOn records keep (stepped pattern d.step)}
              {R = GrowsOver records keep pattern}
              (upto-grows at) (λ e grows. below-over d e turn-branch grows) so_far.made some

        -- all are entered, or the next bound is below the floor
        pub so_far-all : (length kept ≤ at) ⊎ ((d : Branch) × ((get_or kept at d).bound <ℤ floor_in now)) → Reached old (GrowsOver records keep pattern) now
        so_far-all ends =
            reached-as {P = IsBelow records keep pattern (take at kept)} {R = GrowsOver records keep pattern} (upto-grows at)
            (λ e over pass high.
            let best = so_far.best in
            let under = over-below best.all e best.are over in
            entered e under.child under.among under.grows high)
            so_far.made
          where
            entered : (e : Entry) (child : Child) → Contains so_far.best.all child → GrowsOn records keep (stepped pattern child.step) e
                → floor_in now ≤ℤ e.utility → IsBelow records keep pattern (take at kept) e
            entered e child c on high =
                let best = so_far.best in
                let are = best.are in
                let copies = best.copies in
                let g = on.grows in
                let is = at_member (IsChild records keep pattern) child best.all are.each (Member-from_contains child best.all c) in
                let reached = grown-reached child.step.growth pattern child.step.item.0 begun is.may in
                let can = can-reached on.growth (stepped pattern child.step) on.item reached on.may in
                let most = is.bound g.other (grown-first on.growth (stepped pattern child.step) g.other on.item can g.from) in
                let same = ap (λ (x : Entry). x.utility) g.is in
                let under : e.utility ≤ℤ child.bound = omega (arith, ints, most, same) in
                let rises = reached-floor ordered so_far.made in
                elim (copies.all child c) [
                  | inr low ↦ absurd (omega (arith, ints, under, high, rises, low))
                  | inl has ↦ elim (Member-parts has.branch kept at (Member-from_contains has.branch kept has.among)) [
                    | inl front ↦ record {
                      branch = has.branch;
                      among = Contains-from_member has.branch (take at kept) front;
                      grows = let copy = has.is in subst (λ (s : Step). GrowsOn records keep (stepped pattern s) e) (sym copy.step) on;
                    }
                    | inr later ↦ elim ends [
                      | inl past ↦ absurd (Member-past has.branch at kept past later)
                      | inr next ↦
                          let low = next.1 in
                          let falls = fall-later (λ (b : Branch). b.bound) kept at next.0 has.branch best.fall later in
                          let copy = has.is in
                          let same_bound = copy.bound in
                          absurd (omega (arith, ints, under, high, falls, low, same_bound))
                    ]
                  ]
                ]

-- ---- where fewer items count

module _ (records : Records) (keep fewer : ℕ → Bool) (pattern : List (List ℕ)) where
  same-entry : (other : List (List ℕ)) → AreKept keep other → AreKept fewer other
      → sequence_entry (weighed_of fewer records) other ≡ sequence_entry (weighed_of keep records) other
  same-entry other kept still =
      let u = weighed-utility fewer records other still ∙ sym (weighed-utility keep records other kept) in
      let n = weighed-support fewer records other still ∙ sym (weighed-support keep records other kept) in
      (λ j. record { key = sequence_key other; utility = u j; support = n j })

  same-support : (other : List (List ℕ)) → AreKept keep other → AreKept fewer other
      → sequence_support (weighed_of fewer records) other ≡ sequence_support (weighed_of keep records) other
  same-support other kept still = weighed-support fewer records other still ∙ sym (weighed-support keep records other kept)

  all-less : ((item : ℕ) → fewer item ≡ true → keep item ≡ true) → (other : List (List ℕ)) → AreKept fewer other → AreKept keep other
  all-less less [] all = tt
  all-less less (items ∷ other) all = (each-less items all.0, all-less less other all.1)
    where
      each-less : (xs : List ℕ) → AllByRecursion (λ i. fewer i ≡ true) xs → AllByRecursion (λ i. keep i ≡ true) xs
      each-less [] a = tt
      each-less (x ∷ xs) a = (less x a.0, each-less xs a.1)

  -- the same growths, where others count
  counted-so : (old new : ℕ → Bool) (e : Entry) (over : GrowsOver (weighed_of old records) old pattern e) → AreKept new over.on.grows.other
      → sequence_support (weighed_of old records) over.on.grows.other ≡ sequence_support (weighed_of new records) over.on.grows.other
      → sequence_entry (weighed_of old records) over.on.grows.other ≡ sequence_entry (weighed_of new records) over.on.grows.other
      → GrowsOver (weighed_of new records) new pattern e
  counted-so old new e over kept support entry =
      let on = over.on in
      let g = on.grows in
      record {
        growth = over.growth;
        item = over.item;
        may = over.may;
        on = record {
          growth = on.growth;
          item = on.item;
          may = on.may;
          grows = record { other = g.other; from = g.from; kept = kept; occurs = subst (λ n. 0 < n) support g.occurs; is = g.is ∙ entry };
        };
      }

  wider : ((item : ℕ) → fewer item ≡ true → keep item ≡ true) → (e : Entry) → GrowsOver (weighed_of fewer records) fewer pattern e
      → GrowsOver (weighed_of keep records) keep pattern e
  wider less e over =
      let g = over.on.grows in
      let kept = all-less less g.other g.kept in
      counted-so fewer keep e over kept (same-support g.other kept g.kept) (same-entry g.other kept g.kept)

  module _ (begun : IsBegun pattern) (less : (item : ℕ) → fewer item ≡ true → keep item ≡ true) where
    pub wider-some : {mid new : State} → ReachedSome mid (GrowsOver (weighed_of fewer records) fewer pattern) new
        → ReachedSome mid (GrowsOver (weighed_of keep records) keep pattern) new
    wider-some some = some-as {P = GrowsOver (weighed_of fewer records) fewer pattern} {R = GrowsOver (weighed_of keep records) keep pattern} (wider less) some

    -- what is left out earns less than the floor
    pub wider-all : {mid new : State} → IsInOrder mid
        → ((other : List (List ℕ)) → IsGrownFrom pattern other → AreKept keep other → 0 < sequence_support (weighed_of keep records) other
        → floor_in mid ≤ℤ sequence_utility (weighed_of keep records) other → AreKept fewer other)
        → IsReached pattern
        → Reached mid (GrowsOver (weighed_of fewer records) fewer pattern) new → Reached mid (GrowsOver (weighed_of keep records) keep pattern) new
    wider-all {mid} {new} ordered enough is made =
        reached-as {P = GrowsOver (weighed_of fewer records) fewer pattern} {R = GrowsOver (weighed_of keep records) keep pattern} (wider less)
        (λ e over pass high.
        let on = over.on in
        let g = on.grows in
        let first = grown over.growth pattern over.item in
        let reached = grown-reached over.growth pattern over.item begun over.may in
        let can = can-reached on.growth first on.item reached on.may in
        let from = grown-first over.growth pattern g.other over.item (can-reached over.growth pattern over.item is over.may)
        (grown-first on.growth first g.other on.item can g.from) in
        let rises = reached-floor ordered made in
        let same = ap (λ (x : Entry). x.utility) g.is in
        let still = enough g.other from g.kept g.occurs (omega (arith, ints, rises, high, same)) in
        counted-so keep fewer e over still (sym (same-support g.other g.kept still)) (sym (same-entry g.other g.kept still)))
        made

-- ---- what is opened

pub offers-all : {T E : Type 0} (old new : State) (records : Records) (keep : ℕ → Bool) (pattern : List (List ℕ)) (all : List Child) (result : Result T E)
    → AreKept keep pattern → AreChildren records keep pattern all → Searches old (IsOneOf records pattern all) new result
    → OffersAll old new records keep pattern result
offers-all old new records keep pattern all (Ok x) own are made = (all, are, made)
offers-all old new records keep pattern all (Err e) own are made = offered-some records keep pattern own all are.each made

-- the rows and the places of marks
pub marks-within : (records : Records) (keep : ℕ → Bool) (item n : ℕ) (marks : List Mark) → n ≡ length records
    → AllByRecursion (IsMark (weighed_of keep records) item) marks → AllByRecursion (λ mark. mark.row < n) marks
marks-within records keep item n [] same all = tt
marks-within records keep item n (mark ∷ marks) same all =
    let is = all.0 in
    let size = length-map records (weighed_in keep) in
    (omega (arith, same, size, is.within), marks-within records keep item n marks same all.1)

-- what a node keeps, where its children were offered: all that it kept, or what is open
pub narrowed-all : {old new : State} (records : Records) (kept : Bool × List Item) (steps : List Step) (marks : List Mark) (children : List Child)
    (reaches : List ℤ) (floor : ℤ) (fewer : Option (Bool × List Item)) → AreRecords records → IsReached (pattern_of steps)
    → AreKept (keeps kept) (pattern_of steps)
    → ArePlaces records (pattern_of steps) (last_item (pattern_of steps)) marks → AreChildren records (keeps kept) (pattern_of steps) children
    → AreBelow reaches marks → AllByRecursion (IsSpread reaches records (pattern_of steps)) children → floor ≡ floor_in new
    → IfSome fewer (AreOpen steps children floor)
    → Reached old (IsOneOf records (pattern_of steps) children) new
    → IsNarrowed old new records (keeps kept) (pattern_of steps) (counting fewer kept)
narrowed-all records kept steps marks children reaches floor None are reached own places all below spreads same opened made = record {
  all = children;
  are = all;
  offers = made;
  fewer = λ item is. is;
  own = own;
  enough = λ other from whole occurs high. whole;
}
narrowed-all {new = new} records kept steps marks children reaches floor (Some fewer) are reached own places all below spreads same opened made = record {
  all = children;
  are = all;
  offers = made;
  fewer = narrow-fewer records (keeps kept) steps marks children reaches floor fewer are reached places all below spreads opened own;
  own = narrow-own records (keeps kept) steps marks children reaches floor fewer are reached places all below spreads opened;
  enough = λ other from whole occurs high.
      narrow-enough records (keeps kept) steps marks children reaches floor fewer are reached places all below spreads opened other from whole occurs
      (subst (λ f. f ≤ℤ sequence_utility records other) (sym same) high);
}

-- where no child's bound reaches the floor, all that counts was offered
pub ended : {old new : State} (records : Records) (keep : ℕ → Bool) (pattern : List (List ℕ)) (children : List Child) → AreRecords records
    → IsReached pattern → AreKept keep pattern → IsInOrder old → AreChildren records keep pattern children
    → AllByRecursion (λ child. child.bound <ℤ floor_in new) children → Reached old (IsOneOf records pattern children) new
    → Reached old (GrowsOn records keep pattern) new
ended {old} {new} records keep pattern children are reached own ordered all low made =
    let now = reached-in_order made in
    let best : AreKeptBest records keep pattern (floor_in new) [] = record {
      all = children;
      are = all;
      copies = record {
        each = λ branch c. absurd (empty-contains branch c);
        all = λ child c. inr (at_member (λ (x : Child). x.bound <ℤ floor_in new) child children low (Member-from_contains child children c));
      };
      fall = tt;
    } in
    let none = so_far-none records keep pattern are (inr reached) now best in
    let over = so_far-all records keep pattern are (inr reached) now none (inl (omega arith)) in
    opened-all records keep pattern are (inr reached) children own ordered all made over

pub narrows-stopped : {E : Type 0} {old new : State} (records : Records) (kept : Bool × List Item) (pattern : List (List ℕ))
    (result : Result Below E) → IsErr result → ReachedSome old (GrowsOn records (keeps kept) pattern) new
    → Narrows old new records kept pattern result
narrows-stopped records kept pattern (Ok x) none some = absurd (false≢true none)
narrows-stopped records kept pattern (Err e) none some = some

-- one more offer, the steps seen again
pub offered-turn : {old s t : State} (records : Records) (steps seen : List Step) (children : List Child) (i : ℕ) (d : Child) → i < length children
    → IsInOrder old → seen ≡ steps
    → Reached old (IsOneOf records (pattern_of steps) (take i children)) s → t ≡ offered s (child_entry records (pattern_of seen) (get_or children i d) ∷ [])
    → Reached old (IsOneOf records (pattern_of steps) (take (i + 1) children)) t
offered-turn {s = s} records steps seen children i d within ordered same first is =
    offered-next records (pattern_of steps) children i d within ordered first (is ∙ ap (λ ss. offered s
    (child_entry records (pattern_of ss) (get_or children i d) ∷ [])) same)

-- ---- the first patterns

pub first-gathered : (records : Records) (keep : ℕ → Bool) (grown : Grown) → AreRecords records → grown.into.marks.items ≡ []
    → AreGrown records keep [] AfterLast grown.after.marks.items → AreGathered records keep [] grown
first-gathered records keep grown are none after = record {
  into = record {
    are = are;
    begun = inl refl;
    grown = subst (AreGrown records keep [] IntoLast) (sym none) (record {
      each = tt;
      places = λ item kept may. absurd may;
    });
  };
  after = record { are = are; begun = inl refl; grown = after };
}
