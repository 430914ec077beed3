use Rattle.map_board.proofs.Emptiness.{each-renewed, count-renewed}
use Rattle.map_board.proofs.edits.renewing.renew_each.Goals as goal

pub returns-clause-count : goal.returns-clause-count
returns-clause-count g c =
    count-renewed c.args.change.now c.args.news.now c.args.rows.now.items c.renew_in_turn.new.rows.items c.args.empty_from c.requires.empty
    c.requires.change c.count_to_renew-count.result c.count_to_renew-count.ensures.fewer c.requires.there c.renew_in_turn.ensures

pub returns-clause-each : goal.returns-clause-each
returns-clause-each g c =
    each-renewed c.args.change.now c.args.news.now c.args.rows.now.items c.renew_in_turn.new.rows.items c.args.empty_from c.requires.empty
    c.requires.change c.count_to_renew-count.result c.count_to_renew-count.ensures.fewer c.requires.there c.renew_in_turn.ensures
