use Rattle.std.proofs.Common.{refl}
use Rattle.day.specs.declared.calls.Call.TheVariants as calls
use Rattle.day.proofs.Moves.{hourly_part, stopped, answered}
use Rattle.day.proofs.states.OpenDay.withdraw_hourly.Goals as goal

pub returns-in_err-check_registers : goal.returns-in_err-check_registers
returns-in_err-check_registers g c =
    let d = stopped c.args.self.now (record { hourly = c.args.hourly.now; blocks = c.args.blocks.now; flexible = c.args.flexible.now }) (calls.WithdrawHourly c.args.number) refl c.from_residual.result _ c.from_residual.ensures.1 c.in_err-check_registers.ensures.value in
    record { exact = d.0; since = d.1 }

pub returns : goal.returns
returns g c =
    let e = c.withdraw.ensures in
    let d = answered c.args.self.now (record { hourly = c.args.hourly.now; blocks = c.args.blocks.now; flexible = c.args.flexible.now }) (calls.WithdrawHourly c.args.number) refl hourly_part _ c.withdraw.result c.withdraw.new.count c.withdraw.new.table refl c.in_ok-check_registers.ensures.value e.value e.bids e.within e.places e.count_stays e.table_stays in
    record { exact = d.0; since = d.1 }
