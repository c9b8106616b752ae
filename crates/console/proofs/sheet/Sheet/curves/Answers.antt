use Rattle.std.proofs.Common.{rules, tests}
use Rattle.std.proofs.lemmas.Iterator.{items_from_collect, YieldsList-from_slice}
use Rattle.std.proofs.lemmas.Iterator.Consumers.{YieldsList-from_filter_map}
use Rattle.console.specs.Sheets.{curve_of}
use Rattle.console.proofs.sheet.Sheet.curves.Goals as goal

pub returns-clause-standing : goal.returns-clause-standing
returns-clause-standing c =
    items_from_collect _ c.collect.ensures.ran (YieldsList-from_filter_map _ curve_of (YieldsList-from_slice c.args.self.now.entries.items (cc)) c.filter_map.ensures.closure (λ x r q k. search (rules, tests)))
