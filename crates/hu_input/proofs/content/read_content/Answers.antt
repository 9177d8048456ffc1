use Rattle.std.proofs.Common.{◌≡◌, ◌≤◌, sym, subst, arith, inl, inr, length}
use Rattle.std.specs.Prelude.{◌⊎◌}
use Rattle.hu_input.specs.Content.{HasContent}
use Rattle.hu_input.proofs.ContentLemmas.{has-content}
use Rattle.hu_input.proofs.content.read_content.Goals as goal
use Rattle.hu_input.proofs.content.read_content.Goals.{then-count-eq0-via-then-count-eq0, then-count-eq0-via-else-count-eq0+then-len-most}

pub returns : goal.returns
returns g c =
    let files = g.F.Files.state c.args.files.now in
    let old = g.F.Files.state c.loop-content.files in
    let new = g.F.Files.state c.read_on.new.files in
    let read = c.loop-content.content.items in
    let more = c.read_on.new.content.items in
    let most = c.args.most in
    let ended : (c.in_ok-count.count ≡ 0) ⊎ (most ≤ length more) = elim c.then-count-eq0.branch [
      | then-count-eq0-via-then-count-eq0 w ↦ inl (omega (arith, w.if-count-eq0))
      | then-count-eq0-via-else-count-eq0+then-len-most w ↦ inr (omega (arith, w.len.ensures, w.if-len-most))
    ] in
    let inv = c.loop-content.invariant in
    subst (HasContent most files new c.args.name.now) (sym c.truncate.ensures.items)
    (has-content files old new c.args.name.now read more c.in_ok-count.count most inv.same c.in_ok-count.ensures inv.so_far ended)
