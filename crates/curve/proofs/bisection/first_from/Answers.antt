use Rattle.std.proofs.Common.{◌≡◌, ◌<◌, true, arith}
use Rattle.std.proofs.Math.Path.{subst}
use Rattle.curve.proofs.bisection.first_from.Goals as goal

pub returns : goal.returns
returns g c =
    let inv = c.loop-first.invariant in
    let here : (c.loop-first.first < c.args.high) → c.loop-first.passing ≡ c.loop-first.first = λ below. (let p = inv.4 (omega arith) in omega arith) in
    record { from_low = inv.0; to_high = omega arith; fails_before = inv.3; passes_there = λ below. subst (λ x. goal.F-post g c.args.test x true) (here below) (inv.4 (omega arith)).1 }
