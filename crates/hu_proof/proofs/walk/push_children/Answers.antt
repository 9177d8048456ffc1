use Rattle.std.proofs.Common.{None, ◌≡◌, ◌+◌, ◌-◌, ◌<◌, length, subst, drop, arith}
use Rattle.hu_proof.specs.declared.token.Token.{Token}
use Rattle.hu_proof.specs.Places.{places_of}
use Rattle.hu_proof.specs.Waiting.{stack_of, PushesChildren}
use Rattle.hu_proof.proofs.WalkLemmas.{pushes-more, token-later}
use Rattle.hu_proof.proofs.walk.push_children.Goals as goal

-- a token past the end
no_token : Token
no_token = record { item = record { 0 = 0 }; bound = None }

pub push_child-requires-clause-later : goal.push_child-requires-clause-later
unfolding no_token
push_child-requires-clause-later c =
    let within : c.tokens.i - 1 < length c.args.tokens.now = omega (arith, c.tokens.invariant.within) in
    token-later (drop c.args.node.now.from c.args.order.now) c.args.tokens.now (c.tokens.i - 1) no_token c.requires.later within

pub tokens-preserved : goal.tokens-preserved
unfolding no_token
tokens-preserved c =
    let within : c.tokens.i - 1 < length c.args.tokens.now = omega (arith, c.tokens.invariant.within) in
    let next : c.tokens.i ≡ (c.tokens.i - 1) + 1 = omega arith in
    let places = places_of c.args.node.now.places.items in
    record {
      within = omega (arith, c.tokens.invariant.within);
      pushed = pushes-more c.args.order.now c.args.depth c.args.node.now.from places c.args.tokens.now (c.tokens.i - 1) no_token _ _ _ within
          (subst (λ i. PushesChildren c.args.order.now c.args.depth c.args.node.now.from places (drop i c.args.tokens.now)
          (stack_of c.args.waiting.now.items) (stack_of c.tokens.waiting.items)) next c.tokens.invariant.pushed)
          c.in_ok-push_child.ensures;
    }
