use Rattle.std.proofs.Common.{rules, tests}
use Rattle.std.proofs.lemmas.Iterator.{YieldsList-from_slice}
use Rattle.std.proofs.lemmas.Iterator.Consumers.{map_from_collect}
use Rattle.console.specs.Sheets.{curve_of}
use Rattle.console.proofs.Picks.{YieldsList-from_filter_map_by}
use Rattle.console.proofs.sheet.Sheet.lent_curves.Goals as goal

pub returns-clause-standing : goal.returns-clause-standing
returns-clause-standing c =
    map_from_collect _ c.collect.ensures.ran (YieldsList-from_filter_map_by (λ r. r.now) _ curve_of (YieldsList-from_slice c.args.self.now.entries.items (cc)) c.filter_map.ensures.closure (λ x r q k. search (rules, tests)))
