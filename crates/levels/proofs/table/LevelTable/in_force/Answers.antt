use Rattle.std.proofs.Common.{◌≡◌, ◌-◌, min, length, take, ap, ◌∙◌, arith}
use Rattle.levels.specs.Form.{kept_front}
use Rattle.levels.specs.Fronts.{force_none, force_some}
use Rattle.levels.proofs.table.LevelTable.in_force.Goals as goal

pub returns-then-kept-eq0 : goal.returns-then-kept-eq0
returns-then-kept-eq0 c =
    let count-is : c.min-count.result - 0 ≡ min c.args.self.now.count 64 = omega arith in
    let kept-is : c.front-kept.result ≡ length (kept_front (take (min c.args.self.now.count 64) c.args.self.now.levels)) = c.front-kept.ensures.value ∙ ap (λ n. length (kept_front (take n c.args.self.now.levels))) count-is in
    force_none c.args.self.now c.front-kept.result kept-is c.if-kept-eq0.true

pub returns : goal.returns
returns c =
    let count-is : c.min-count.result - 0 ≡ min c.args.self.now.count 64 = omega arith in
    let kept-is : c.front-kept.result ≡ length (kept_front (take (min c.args.self.now.count 64) c.args.self.now.levels)) = c.front-kept.ensures.value ∙ ap (λ n. length (kept_front (take n c.args.self.now.levels))) count-is in
    let whole : c.front-kept.result - 0 ≡ c.front-kept.result = omega arith in
    ap (λ n. take n c.args.self.now.levels) whole ∙ force_some c.args.self.now c.front-kept.result kept-is c.if-kept-eq0.false
