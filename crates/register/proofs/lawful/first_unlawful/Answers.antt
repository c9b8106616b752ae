use Rattle.std.proofs.Common.{◌++◌, sym, ◌∙◌}
use Rattle.std.proofs.lemmas.Result.{err_from_is_err_and}
use Rattle.bids.proofs.Checks.{goes, stops}
use Rattle.bids.specs.Registers.{hourly, block, flexible}
use Rattle.register.specs.declared.registered.RegisterKind.TheVariants.{Hourly, Block, Flexible}
use Rattle.register.specs.Demands.{lawful_rule, hourly_demands, block_demands, flexible_demands}
use Rattle.register.proofs.lawful.first_unlawful.Goals as goal

pub returns-in_err-check_lawful-2 : goal.returns-in_err-check_lawful-2
returns-in_err-check_lawful-2 g c =
    let p = err_from_is_err_and c.from_residual-in_err-check_lawful-2.result c.from_residual-in_err-check_lawful-2.ensures.1 in
    let t = c.args.tables in
    let n = c.args.counts in
    let first = lawful_rule hourly hourly_demands Hourly c.args.limits n.hourly t.hourly.now in
    let second = lawful_rule block block_demands Block c.args.limits n.blocks t.blocks.now in
    let third = lawful_rule flexible flexible_demands Flexible c.args.limits n.flexible t.flexible.now in
    rw (p.1, p.2) (sym (goes first (second ++ third) (sym c.in_ok-check_lawful.ensures) ∙ stops second third _ (sym c.in_err-check_lawful-2.ensures)))

pub returns-in_err-check_lawful : goal.returns-in_err-check_lawful
returns-in_err-check_lawful g c =
    let p = err_from_is_err_and c.from_residual.result c.from_residual.ensures.1 in
    let t = c.args.tables in
    let n = c.args.counts in
    let first = lawful_rule hourly hourly_demands Hourly c.args.limits n.hourly t.hourly.now in
    let second = lawful_rule block block_demands Block c.args.limits n.blocks t.blocks.now in
    let third = lawful_rule flexible flexible_demands Flexible c.args.limits n.flexible t.flexible.now in
    rw (p.1, p.2) (sym (stops first (second ++ third) _ (sym c.in_err-check_lawful.ensures)))
